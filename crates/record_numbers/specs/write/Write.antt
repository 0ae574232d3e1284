-- What the writing functions promise of the numbers they write.
use Rattle.std.specs.Prelude.{ℕ, ◌*◌, ◌≡◌, List, ◌++◌, take}
use Rattle.rules.specs.Records.{numbers}
use Rattle.field.specs.declared.Modulus.{Modulus}
use Rattle.divisor.specs.declared.Divisor.{Divisor}
use Rattle.divisor.specs.Divisors.{weight_of, pair}

pub record NumbersOf (m : Modulus) (d : Divisor) (x : List ℕ) : Type 0 where
  pub is : take (2 * weight_of d) x ≡ numbers m.p (pair m d).u ++ numbers m.p (pair m d).v
