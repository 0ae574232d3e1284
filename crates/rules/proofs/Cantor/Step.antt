-- L4, a step of the rule's reduction. Gives: it keeps the pair on the curve (`step_on`) and its ideal in its class (`step_class`), and lowers
-- the degree by two or to g (`step_small`). Square-freeness isn't used.
-- Open: `ideal_of`, the ideal of a pair.
use Prim.Native.Nat.{ℕ, zero, suc, ◌+◌, ◌≤◌, ◌<◌}
use mathlib.Core.Path.{◌≡◌, refl, sym, ap, ap₂, ◌∙◌, subst}
use mathlib.Core.List.{List, [], ◌∷◌}
use mathlib.Core.Logic.{◌≢◌}
use native.Mathlib.Omega.{arith}
use native.Mathlib.Decide.{dec_le}
use lib.ListN.{length}
use Rattle.algebra.proofs.Ring.CRing.{CRing}
use Rattle.algebra.proofs.Ring.Quote.{ring, quote, by}
use Rattle.algebra.proofs.Ring.Field.{Field}
use Rattle.algebra.proofs.Poly.Series.{Ser, add_s, neg_s}
use Rattle.algebra.proofs.Poly.Bound.{Below, below_mul}
use Rattle.algebra.proofs.Poly.Poly.{coef, coef_add, coef_neg, coef_mul}
use Rattle.algebra.proofs.Poly.Degree.{Degree, degree_mul}
use Rattle.algebra.proofs.List.Ops.{neg_l, quotient}
use Rattle.algebra.proofs.List.Value.{pol, mon, pol_neg, pol_below}
use Rattle.algebra.proofs.List.Division.{exact}
use Rattle.algebra.proofs.List.Euclid.{mon_degree}
use Rattle.algebra.proofs.Ideal.Quad.{quad}
use Rattle.algebra.proofs.Ideal.Member.{Mumford}
use Rattle.algebra.proofs.Ideal.Joined.{OnCurve}
use Rattle.algebra.proofs.Ideal.Class.{Same, same_trans}
use Rattle.algebra.proofs.Ideal.Reduce.{on_change, same_change}
use Rattle.algebra.proofs.Ideal.Step.{cofactor_ne, step_same}
use Rattle.rules.specs.Curve.{Curve, Kx, f}
use Rattle.rules.specs.Pair.{Pair, u_of, v_of, f_minus_v²}
use Rattle.rules.specs.Sum.{f_minus_v²_list, step}
use Rattle.rules.proofs.Cantor.Accepted.{OverField, field_of, f_degree}
use Rattle.rules.proofs.Cantor.Pairs.{On}
use Rattle.rules.proofs.Cantor.OnCurve.{f_v²_is}
use Rattle.rules.proofs.Cantor.Normal.{Normal, normal_is}

-- the ring K[x][y]/(y² - f), and I(u, v) in it
abbrev pub Kxy : Curve → CRing
Kxy E = quad (Kx E) (f E)

abbrev pub ideal_of : (E : Curve) → Pair E.K → (Kxy E).El → Type 0
ideal_of E a = Mumford (Kx E) (f E) (mon E.K.base a.u) (pol E.K.base a.v)

module _ (E : Curve) (o : OverField E) (odd : length E.low ≡ suc (E.g + E.g)) where
  abbrev K : Field
  K = field_of E o

  open E.K use {base as F}
  open Kx E use {El as P, add as ◌⊕◌, mul as ◌*◌, neg, zer as 0P, one as 1P}

  infixl 65 ◌⊕◌
  infixl 70 ◌*◌
  module _ (a : Pair E.K) (h : On E a) where
    abbrev w : List F.El
    w = quotient F a.u (f_minus_v²_list E a)

    w_is : pol F w ≡ h.on.0
    w_is = exact F a.u (f_minus_v²_list E a) h.on.0
        (f_v²_is E a ∙ by (Kx E) 1P h.on.1 (ring (Kx E) (f E ∷ v_of E a ∷ u_of E a ∷ h.on.0 ∷ []) (search quote depth 40) refl))

    whole : f E ≡ v_of E a * v_of E a ⊕ u_of E a * pol F w
    whole = h.on.1 ∙ ap (λ t. v_of E a * v_of E a ⊕ u_of E a * t) (sym w_is)

    w_ne : pol F w ≢ 0P
    w_ne = cofactor_ne K E.g (f E) (f_degree E o odd) (u_of E a) (v_of E a) (pol F w) whole

    made : Normal E o w (neg_l F a.v) (step E a)
    unfolding step
    made = normal_is E o w (neg_l F a.v) w_ne

    -- (w, -v) lies on the curve too
    flipped : OnCurve (Kx E) (f E) (pol F w) (pol F (neg_l F a.v))
    flipped = (
      u_of E a,
      by (Kx E) 1P whole (by (Kx E) (neg (pol F (neg_l F a.v) ⊕ neg (v_of E a))) (pol_neg F a.v)
          (ring (Kx E) (f E ∷ v_of E a ∷ u_of E a ∷ pol F w ∷ pol F (neg_l F a.v) ∷ []) (search quote depth 40) refl)),
    )

    pub step_on : On E (step E a)
    step_on = record {
      fits = made.len;
      on = on_change (Kx E) (f E) (pol F w) (pol F (neg_l F a.v)) (u_of E (step E a)) (v_of E (step E a)) made.k made.c made.c' made.h_u made.h_c
          made.h_v flipped;
    }

    pub step_class : Same (Kxy E) (ideal_of E a) (ideal_of E (step E a))
    step_class = same_trans (Kxy E)
        (subst (λ (t : P). Same (Kxy E) (ideal_of E a) (Mumford (Kx E) (f E) (pol F w) t)) (sym (pol_neg F a.v))
        (step_same K E.g (f E) (f_degree E o odd) (u_of E a) (v_of E a) (pol F w) whole))
        (same_change (Kx E) (f E) (pol F w) (pol F (neg_l F a.v)) (u_of E (step E a)) (v_of E (step E a)) made.k made.c made.c' made.h_u made.h_c made.h_v)

    -- f - v² has no coefficient where w of a higher degree would put one
    pub step_small : (t : ℕ) → E.g < length a.u → length a.u ≤ E.g + (suc t + suc t) → length (step E a).u ≤ E.g + (t + t)
    step_small t big le = go (length a.u) refl
      where
        e : ℕ
        e = length (step E a).u

        top_at : Degree K (length a.u + e) (f_minus_v² E a)
        top_at = subst (Degree K (length a.u + e)) (by (Kx E) (neg 1P) whole (ring (Kx E) (f E ∷ v_of E a ∷ u_of E a ∷ pol F w ∷ []) (search quote depth 40) refl))
            (degree_mul K (u_of E a) (pol F w) (mon_degree K a.u) made.deg)

        go : (n : ℕ) → length a.u ≡ n → e ≤ E.g + (t + t)
        go zero q = absurd (omega arith)
        go (suc n) q = cmp (dec_le e (E.g + (t + t)))
          where
            v_below : Below F (suc n) (coef F (v_of E a))
            v_below = subst (λ (i : ℕ). Below F i (coef F (v_of E a))) (h.fits ∙ q) (pol_below F a.v)

            cmp : Dec (e ≤ E.g + (t + t)) → e ≤ E.g + (t + t)
            cmp (yes l) = l
            cmp (no l) = absurd (top_at.top (
                ap (λ (s : Ser F). s (length a.u + e)) (coef_add F (f E) (neg (v_of E a * v_of E a))
                ∙ ap (add_s F (coef F (f E))) (coef_neg F (v_of E a * v_of E a) ∙ ap (neg_s F) (coef_mul F (v_of E a) (v_of E a))))
                ∙ ap₂ (λ (x z : F.El). F.add x (F.neg z)) ((f_degree E o odd).below (length a.u + e) (omega arith))
                (below_mul F (suc n) (suc n) (coef F (v_of E a)) (coef F (v_of E a)) v_below v_below (length a.u + e) (omega arith))
                ∙ ring F [] (search quote depth 40) refl))
