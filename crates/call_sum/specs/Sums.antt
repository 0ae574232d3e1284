-- What the calls come to, before it is delivered.
use Rattle.std.specs.Prelude.{ℕ, List}
use Rattle.rules.specs.Pair.{opposite}
use Rattle.rules.specs.Sum.{sum, double}
use Rattle.rules.specs.Checks.{Checked, taken, go_on}
use Rattle.rules.specs.Records.{curve, read_curve, read_divisor, divisor_bytes}
use Rattle.rules.specs.Calls.{Result, from_one}

abbrev pub doubling : List ℕ → List ℕ → Checked (Result (Unit {0}))
doubling s a = from_one (λ c x. double (curve c) x) s a

abbrev pub opposing : List ℕ → List ℕ → Checked (Result (Unit {0}))
opposing s a = from_one (λ c x. opposite x) s a

abbrev pub adding : List ℕ → List ℕ → List ℕ → Checked (Result (Unit {0}))
adding s a b =
    go_on (read_curve s) (λ c.
    go_on (read_divisor c 1 a) (λ x.
    go_on (read_divisor c 2 b) (λ y.
    taken (record { bytes = divisor_bytes c.p (sum (curve c) x y); own = tt }))))
