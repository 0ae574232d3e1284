-- What the steps of a multiple take and promise, by whatever engine.
use Rattle.std.specs.Prelude.{ℕ, ◌≤◌, ◌≡◌, List, length, ℤ, ◌+ℤ◌}
use Rattle.rules.specs.Signed.Digits.{value}
use Rattle.rules.specs.Pair.{opposite}
use Rattle.rules.specs.Multiple.{multiple, doublings, additions}
use Rattle.rules.proofs.Cantor.Signed.{wholes}
use Rattle.divisor.specs.declared.Divisor.{Divisor}
use Rattle.divisor.specs.Divisors.{pair}
use Rattle.curve.specs.declared.Curve.{Curve}
use Rattle.curve.specs.Curves.{curve_of, Holds, Gives}
use Rattle.scalar.specs.Recoded.{digit}
use Rattle.multiple_affine.specs.declared.promise.Multiple.{Multiple}

-- b is a's opposite
pub record ToStep (c : Curve) (a b r : Divisor) : Type 0 where
  pub left : Holds c r
  pub right : Holds c a
  pub opposed : Gives c b (opposite (pair c.prime.m a))

-- a multiple of a with one digit more
abbrev pub Stepped : Curve → Divisor → Divisor → ℕ → Divisor → Type 0
Stepped c a r d t = (k : ℤ) → pair c.prime.m r ≡ wholes (curve_of c) k (pair c.prime.m a) → Gives c t (wholes (curve_of c) (value (digit d) +ℤ (k +ℤ k)) (pair c.prime.m a))

pub record ToMultiply (c : Curve) (a : Divisor) (s : List ℕ) : Type 0 where
  pub holds : Holds c a
  pub short : length s ≤ 32

-- the n-fold multiple, with the two counts
pub record Multiplied (c : Curve) (a : Divisor) (n : ℕ) (r : Multiple) : Type 0 where
  pub gives : Gives c r.divisor (multiple (curve_of c) n (pair c.prime.m a))
  pub doublings_is : r.doublings ≡ doublings n
  pub additions_is : r.additions ≡ additions n
