-- Document 01, "Numbers the tablet shows", 7 and 11 as tests to run: do f and its derivative share a factor of degree 1 or more, and does u
-- divide f - v²? (That they decide `SquareFree` and `Valid`'s last condition is shown in proofs/Cantor: SquareFree, OnCurve.) And of W-207, 19: is a
-- divisor other than the neutral one? (proofs/Calls/Keys.)
use mathlib.Core.List.{[], ◌∷◌}
use Rattle.std.specs.Prelude.{Bool, ltb, length}
use Rattle.std.proofs.Math.Bool.{true, false}
use Rattle.algebra.proofs.Ring.Field.{Arith}
use Rattle.algebra.proofs.List.Ops.{add_l, mul_l, neg_l, der_l, whole, remainder, is_zero, gcd}
use Rattle.rules.specs.Curve.{Curve}
use Rattle.rules.specs.Pair.{Pair}
use Rattle.rules.specs.Sum.{f_list, f_minus_v²_list}

-- weight 1 or more
abbrev pub is_weight : {K : Arith} → Pair K → Bool
is_weight a = ltb 0 (length a.u)

module _ (E : Curve) where
  -- f - v² leaves nothing when divided by u
  unfoldable pub is_on_curve : Pair E.K → Bool
  unfolding add_l mul_l neg_l whole remainder is_zero
  is_on_curve a = is_zero E.K (remainder E.K.base a.u (f_minus_v²_list E a))

  -- the greatest common divisor of f and its derivative has degree 0
  unfoldable pub is_square_free : Bool
  unfolding der_l whole gcd
  is_square_free = elim (gcd E.K E.low (der_l E.K.base (f_list E))).d [ [] ↦ true | a ∷ m ↦ false ]
