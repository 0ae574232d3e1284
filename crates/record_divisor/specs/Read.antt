-- What the functions that read a divisor record promise: an answer of code is the rule's answer on the same bytes. Places are left open: a
-- divisor that is refused is so at whatever place k it stands.
use Rattle.std.specs.Prelude.{ℕ, ◌≡◌, Bool, Result, Ok, Err, List}
use Rattle.refusals.specs.declared.Refusal.{Refusal}
use Rattle.refusals.specs.Refusal.{number_of}
use Rattle.rules.specs.Records.{refused, taken, divisor_at}
use Rattle.divisor.specs.Divisors.{pair}
use Rattle.divisor.specs.declared.Divisor.{Divisor}
use Rattle.curve.specs.declared.Curve.{Curve}
use Rattle.curve.specs.Curves.{Holds}
use Rattle.curve.specs.Record.{record_of}

abbrev pub DivisorIs : Curve → Bool → List ℕ → ℕ → Result Divisor Refusal → Type 0
DivisorIs c whole s a (Ok d) = Holds c d × ((k : ℕ) → divisor_at (record_of c) k whole s a ≡ taken (pair c.prime.m d))
DivisorIs c whole s a (Err by) = (k : ℕ) → divisor_at (record_of c) k whole s a ≡ refused (number_of by) k
