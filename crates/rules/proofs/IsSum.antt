-- What code cites. A program that computes polynomials standing for elements of K[x] ends its proof with `is_sum`: where it kept the
-- equations of composition (`Composed`, with whatever d, s1, s2, s3 it found), then any number of reduction steps (`Reached`), and its last
-- pair is valid, that pair is the sum. The rule's own Euclid, its order of steps and its lists need not be followed. A unit c is
-- given with its inverse, c·c' = 1; of a constant that isn't zero that is algebra's `C_inv` (list.Euclid). For formulae in closed form
-- algebra's ideal.Composed has `composed_coprime` and `composed_tangent` to begin the chain. (That d·I(U, V) is the product of the ideals is cantor.Sum's `product_in`, `product_out`.)
use mathlib.Core.Path.{◌≡◌, refl}
use mathlib.Core.List.{[], ◌∷◌}
use Rattle.algebra.proofs.Ring.Quote.{ring, quote, by}
use Rattle.algebra.proofs.Ring.Divides.{Divides}
use Rattle.algebra.proofs.Ideal.Member.{Mumford}
use Rattle.algebra.proofs.Ideal.Joined.{OnCurve}
use Rattle.algebra.proofs.Ideal.Composed.{Composed}
use Rattle.algebra.proofs.Ideal.Class.{Same, same_trans, same_of}
use Rattle.algebra.proofs.Ideal.Reduce.{on_change, same_change}
use Rattle.algebra.proofs.Ideal.Step.{step_same}
use Rattle.rules.specs.Curve.{Curve, Kx, f}
use Rattle.rules.specs.Pair.{Pair, u_of, v_of, Valid}
use Rattle.rules.specs.Sum.{sum, double}
use Rattle.rules.proofs.Cantor.Accepted.{Accepted, field_of, f_degree}
use Rattle.rules.proofs.Cantor.Pairs.{valid_on}
use Rattle.rules.proofs.Cantor.Step.{Kxy}
use Rattle.rules.proofs.Cantor.Sum.{composed_class}
use Rattle.rules.proofs.Cantor.Unique.{sum_is}

module _ (E : Curve) where
  open Kx E use {El as P, add as ◌+◌, mul as ◌*◌, neg, one as 1P}

  infixl 65 ◌+◌
  infixl 70 ◌*◌
  -- a chain of reduction steps from (U, V) to (u, v); a loop adds one at its end
  pub data Reached (U V' : P) : P → P → Type 0 where
    here : Reached U V' U V'
    -- u·w = f - v², then u' = c·w, and v' is -v modulo u'
    turn : {u v : P} (w c c' u' v' : P) → Reached U V' u v → u * w ≡ f E + neg (v * v) → c * c' ≡ 1P → u' ≡ c * w → Divides (Kx E) u' (v' + v) → Reached U V' u' v'
    -- the same pair in other words: u' = c·u, and v' is v modulo u'
    restated : {u v : P} (c c' u' v' : P) → Reached U V' u v → c * c' ≡ 1P → u' ≡ c * u → Divides (Kx E) u' (v' + neg v) → Reached U V' u' v'

  -- v' as v, or -v, and a multiple
  turned : (v w c u' v' : P) → u' ≡ c * w → (h : Divides (Kx E) u' (v' + v)) → v' ≡ neg v + h.factor * c * w
  turned v w c u' v' hu h = by (Kx E) 1P h.is (by (Kx E) h.factor hu (ring (Kx E) (v ∷ v' ∷ w ∷ u' ∷ c ∷ h.factor ∷ []) (search quote depth 40) refl))

  kept : (u v c u' v' : P) → u' ≡ c * u → (h : Divides (Kx E) u' (v' + neg v)) → v' ≡ v + h.factor * c * u
  kept u v c u' v' hu h = by (Kx E) 1P h.is (by (Kx E) h.factor hu (ring (Kx E) (v ∷ v' ∷ u ∷ u' ∷ c ∷ h.factor ∷ []) (search quote depth 40) refl))

  -- each step stays on the curve
  pub reached_on : {U V' u v : P} → OnCurve (Kx E) (f E) U V' → Reached U V' u v → OnCurve (Kx E) (f E) u v
  reached_on on here = on
  reached_on on (turn {u = u} {v = v} w c c' u' v' r hw hc hu hv) = on_change (Kx E) (f E) w (neg v) u' v' (hv.factor * c) c c' hu hc
      (turned v w c u' v' hu hv)
      (u, by (Kx E) (neg 1P) hw (ring (Kx E) (f E ∷ u ∷ v ∷ w ∷ []) (search quote depth 40) refl))
  reached_on on (restated {u = u} {v = v} c c' u' v' r hc hu hv) = on_change (Kx E) (f E) u v u' v' (hv.factor * c) c c' hu hc
      (kept u v c u' v' hu hv)
      (reached_on on r)

module _ (E : Curve) (h : Accepted E) where
  open Kx E use {El as P, mul as ◌*◌, neg, one as 1P}

  infixl 70 ◌*◌
  -- each step keeps the class
  pub reached_class : {U V' u v : P} → Reached E U V' u v → Same (Kxy E) (Mumford (Kx E) (f E) U V') (Mumford (Kx E) (f E) u v)
  reached_class here = same_of (Kxy E) (λ x i. i) (λ x i. i)
  reached_class (turn {u = u} {v = v} w c c' u' v' r hw hc hu hv) = same_trans (Kxy E) (reached_class r) (same_trans (Kxy E)
      (step_same (field_of E h.over) E.g (f E) (f_degree E h.over h.odd) u v w (by (Kx E) (neg 1P) hw
      (ring (Kx E) (f E ∷ u ∷ v ∷ w ∷ []) (search quote depth 40) refl)))
      (same_change (Kx E) (f E) w (neg v) u' v' (hv.factor * c) c c' hu hc
      (turned E v w c u' v' hu hv)))
  reached_class (restated {u = u} {v = v} c c' u' v' r hc hu hv) = same_trans (Kxy E) (reached_class r)
      (same_change (Kx E) (f E) u v u' v' (hv.factor * c) c c' hu hc
      (kept E u v c u' v' hu hv))

  -- the last pair by lists: where it is valid, it is the sum
  pub is_sum : (a b c : Pair E.K) → Valid E a → Valid E b → Valid E c → {U V' : P}
      → Composed (Kx E) (f E) (u_of E a) (v_of E a) (u_of E b) (v_of E b) U V'
      → Reached E U V' (u_of E c) (v_of E c) → sum E a b ≡ c
  is_sum a b c va vb vc {U} {V'} j r = sum_is E h a b c va vb vc (same_trans (Kxy E) (composed_class E h a b (valid_on E va) (valid_on E vb) U V' j) (reached_class r))

pub double_is : (E : Curve) (a : Pair E.K) → double E a ≡ sum E a a
unfolding double
double_is E a = refl
