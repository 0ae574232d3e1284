-- From what the code of `cantor` promises to what the theorem of `rules` takes: the equations of the composition, and the chain of
-- reduction steps.
use mathlib.Core.Path.{◌≡◌, refl, sym, ap, ◌∙◌, subst}
use mathlib.Core.List.{[], ◌∷◌}
use Rattle.algebra.proofs.Ring.CRing.{CRing}
use Rattle.algebra.proofs.Ring.Quote.{ring, quote, by}
use Rattle.algebra.proofs.Poly.Term.{C, constants}
use Rattle.algebra.proofs.Ideal.Joined.{Joined}
use Rattle.algebra.proofs.Ideal.Composed.{Composed}
use Rattle.rules.specs.Curve.{f}
use Rattle.rules.proofs.IsSum.{Reached, here, turn}
use Rattle.field.specs.declared.Modulus.{Modulus}
use Rattle.poly.specs.declared.Poly.{Poly}
use Rattle.poly.specs.Polys.{K, P, pol}
use Rattle.sum_cantor.specs.declared.composing.Mumford.{Mumford}
use Rattle.sum_cantor.specs.Reducing.{Steps, none, more}
use Rattle.curve.specs.declared.Curve.{Curve}
use Rattle.curve.specs.Curves.{equation_of, curve_of}
use Rattle.curve.specs.polynomials.Few.{OfEquation}

-- ---- in any ring
module _ (R : CRing) where
  open R use {El as A, add as ◌+◌, mul as ◌*◌, neg, one as 𝟙, mul_comm}

  infixl 65 ◌+◌
  infixl 70 ◌*◌
  pub composed_by : (f u1 v1 u2 v2 U v0 V' k : A) → Joined R f u1 v1 u2 v2 U v0 → v0 ≡ k * U + V' → Composed R f u1 v1 u2 v2 U V'
  composed_by f u1 v1 u2 v2 U v0 V' k j e = record {
    d = j.d;
    s1 = j.s1;
    s2 = j.s2;
    s3 = j.s3;
    bezout = by R (neg j.d) j.h_one (by R (neg j.s1) j.h_u1 (by R (neg j.s2) j.h_u2 (by R (neg j.s3) j.h_v (ring R (u1 ∷ v1 ∷ u2 ∷ v2 ∷ j.d ∷ j.e1 ∷ j.e2 ∷ j.e3 ∷ j.s1 ∷ j.s2 ∷ j.s3 ∷ []) (search quote depth 40) refl))));
    in_u1 = record { factor = j.e1; is = j.h_u1 ∙ mul_comm j.d j.e1 };
    in_u2 = record { factor = j.e2; is = j.h_u2 ∙ mul_comm j.d j.e2 };
    in_v = record { factor = j.e3; is = j.h_v ∙ mul_comm j.d j.e3 };
    u_is = by R u2 j.h_u1 (by R (j.d * j.e1) j.h_u2 (by R (neg (j.d * j.d)) j.h_u3 (ring R (u1 ∷ u2 ∷ U ∷ j.d ∷ j.e1 ∷ j.e2 ∷ []) (search quote depth 40) refl)));
    v = v0;
    v_is = by R j.d j.h_v3 (by R (neg (j.s1 * v2)) j.h_u1 (by R (neg (j.s2 * v1 + j.s3 * j.w2)) j.h_u2 (by R (neg j.s3) j.h_f2 (by R (neg (j.s3 * v2)) j.h_v
        (ring R (f ∷ u1 ∷ v1 ∷ u2 ∷ v2 ∷ v0 ∷ j.d ∷ j.e1 ∷ j.e2 ∷ j.e3 ∷ j.s1 ∷ j.s2 ∷ j.s3 ∷ j.w2 ∷ []) (search quote depth 40) refl)))));
    v_mod = record { factor = neg k; is = by R (neg 𝟙) e (ring R (U ∷ v0 ∷ V' ∷ k ∷ []) (search quote depth 40) refl) };
  }

  -- the same, of equal elements
  pub composed_at : {f g u1 x1 v1 y1 u2 x2 v2 y2 U V' : A} → f ≡ g → u1 ≡ x1 → v1 ≡ y1 → u2 ≡ x2 → v2 ≡ y2 → Composed R f u1 v1 u2 v2 U V' → Composed R g x1 y1 x2 y2 U V'
  composed_at {f} {g} {u1} {x1} {v1} {y1} {u2} {x2} {v2} {y2} {U} {V'} a b c d e h =
      subst (λ t. Composed R g x1 y1 x2 t U V') e (subst (λ t. Composed R g x1 y1 t v2 U V') d (subst (λ t. Composed R g x1 t u2 v2 U V') c (subst (λ t. Composed R g t v1 u2 v2 U V') b (subst (λ t. Composed R t u1 v1 u2 v2 U V') a h))))

-- ---- the steps
module _ (c : Curve) (q : Poly) (hq : OfEquation (equation_of c) q) where
  abbrev m : Modulus
  m = c.prime.m

  open P m use {neg as negP, one as 1P}

  pub reached_by : {x z : Mumford} → Steps m q x z → Reached (curve_of c) (pol m x.u) (pol m x.v) (pol m z.u) (pol m z.v)
  reached_by none = here
  reached_by (more {x = x} {y = y} {z = z} s t) = turn t.w (C (K m) t.up) (C (K m) t.down) (pol m z.u) (pol m z.v) (reached_by s)
      (by (P m) (negP 1P) (sym hq.is ∙ t.w_is) (ring (P m) (f (curve_of c) ∷ pol m y.u ∷ pol m y.v ∷ t.w ∷ []) (search quote depth 40) refl))
      (sym ((constants (K m)).h_mul t.up t.down) ∙ ap (C (K m)) ((K m).mul_comm t.up t.down ∙ t.unit) ∙ (constants (K m)).h_one)
      t.u_is
      (record { factor = negP t.k; is = by (P m) (negP 1P) t.v_is (ring (P m) (pol m y.v ∷ pol m z.v ∷ pol m z.u ∷ t.k ∷ []) (search quote depth 40) refl) })
