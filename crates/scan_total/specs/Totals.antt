-- Document 01, "The pole's list": a fresh total is neutral with 0, for the pole that it is given (W-209); each divisor taken is added to the total's, and 1 to its count.
use Rattle.std.specs.Prelude.{ℕ, ◌+◌, ◌<◌, ◌≡◌, map}
use Rattle.rules.specs.Sum.{sum}
use Rattle.rules.specs.Records.{numbers}
use Rattle.field.specs.Residues.{raw}
use Rattle.divisor.specs.declared.Divisor.{Divisor}
use Rattle.divisor.specs.declared.Divisor.TheVariants.{Neutral}
use Rattle.divisor.specs.Divisors.{us, vs, pair}
use Rattle.curve.specs.declared.Curve.{Curve}
use Rattle.curve.specs.Curves.{curve_of, Holds}
use Rattle.scan_total.specs.declared.Running.{Running}

pub record Fresh (pole : ℕ) (r : Running) : Type 0 where
  pub neutral : r.divisor ≡ Neutral
  pub none : r.count ≡ 0
  pub given : r.pole ≡ pole

-- (the count has room for one more in 64 bits)
pub record ToTake (c : Curve) (t : Running) (x d : Divisor) : Type 0 where
  pub total : Holds c x
  pub taken : Holds c d
  pub room : t.count < 18446744073709551615

-- r holds the numbers of the sum
pub record Taken (c : Curve) (t : Running) (x d : Divisor) (r : Running) : Type 0 where
  pub u_is : map raw (us r.divisor) ≡ numbers c.prime.m.p (sum (curve_of c) (pair c.prime.m x) (pair c.prime.m d)).u
  pub v_is : map raw (vs r.divisor) ≡ numbers c.prime.m.p (sum (curve_of c) (pair c.prime.m x) (pair c.prime.m d)).v
  pub count_is : r.count ≡ t.count + 1
  pub pole_is : r.pole ≡ t.pole
