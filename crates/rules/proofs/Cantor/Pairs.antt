-- Pairs on the curve. Gives: `On`, a pair that is valid but for the bound on its degree, and the way to and from `Valid`; validity is a
-- proposition; the neutral pair is valid, and so is the opposite of a valid one. All of it over any K.
use Prim.Native.Nat.{◌≤◌, zero-le}
use mathlib.Core.Path.{◌≡◌, refl, ◌∙◌}
use mathlib.Core.List.{List, [], ◌∷◌}
use mathlib.Core.HLevel.{hedberg, Σ_prop_path}
use native.Mathlib.Bridge.{le_prop}
use native.Mathlib.Decide.{ℕ_discrete}
use lib.ListN.{length}
use Rattle.algebra.proofs.Ring.Quote.{ring, quote, by}
use Rattle.algebra.proofs.Ring.Divides.{Divides}
use Rattle.algebra.proofs.Poly.Divide.{monic_cancel}
use Rattle.algebra.proofs.List.Ops.{neg_l}
use Rattle.algebra.proofs.List.Value.{pol, mon, pol_nil, mon_nil, pol_neg, length_neg, mon_monic}
use Rattle.algebra.proofs.Ideal.Joined.{OnCurve}
use Rattle.rules.specs.Curve.{Curve, Kx, f}
use Rattle.rules.specs.Pair.{Pair, Valid, neutral, opposite, u_of, v_of, f_minus_v²}

module _ (E : Curve) where
  open E.K use {base as F}
  open F use {El as A}
  open Kx E use {El as P, add as ◌+◌, mul as ◌*◌, neg, one as 1P}

  infixl 65 ◌+◌
  infixl 70 ◌*◌
  pub record On (a : Pair E.K) : Type 0 where
    pub fits : length a.v ≡ length a.u
    pub on : OnCurve (Kx E) (f E) (u_of E a) (v_of E a)

  pub valid_on : {a : Pair E.K} → Valid E a → On a
  valid_on {a} h = record {
    fits = h.fits;
    on = (h.divides.factor, by (Kx E) 1P h.divides.is (ring (Kx E) (f E ∷ u_of E a ∷ v_of E a ∷ h.divides.factor ∷ []) (search quote depth 40) refl));
  }

  pub on_divides : {a : Pair E.K} → On a → Divides (Kx E) (u_of E a) (f_minus_v² E a)
  on_divides {a} h = record { factor = h.on.0; is = by (Kx E) 1P h.on.1 (ring (Kx E) (f E ∷ u_of E a ∷ v_of E a ∷ h.on.0 ∷ []) (search quote depth 40) refl) }

  pub on_valid : {a : Pair E.K} → On a → length a.u ≤ E.g → Valid E a
  on_valid h l = record { fits = h.fits; small = l; divides = on_divides h }

  -- ---- a proposition
  divides_prop : (m : List A) (x : P) → IsProp (Divides (Kx E) (mon F m) x)
  divides_prop m x p q = λ i. record { factor = (both i).0; is = (both i).1 }
    where
      same : p.factor ≡ q.factor
      same = monic_cancel F (length m) (mon F m) p.factor q.factor (mon_monic F m)
          (by (Kx E) (neg 1P) p.is (by (Kx E) 1P q.is (ring (Kx E) (x ∷ mon F m ∷ p.factor ∷ q.factor ∷ []) (search quote depth 40) refl)))

      both : (◌≡◌ {A = (w : P) × (x ≡ w * mon F m)} (p.factor, p.is) (q.factor, q.is))
      both = Σ_prop_path (λ w. (Kx E).is_set x (w * mon F m)) same

  pub valid_prop : (a : Pair E.K) → IsProp (Valid E a)
  valid_prop a p q = λ i. record {
    fits = hedberg ℕ_discrete (length a.v) (length a.u) p.fits q.fits i;
    small = le_prop p.small q.small i;
    divides = divides_prop a.u (f_minus_v² E a) p.divides q.divides i;
  }

  -- ---- the neutral pair, and the opposite of a valid one
  pub neutral_valid : Valid E neutral
  neutral_valid = record {
    fits = refl;
    small = zero-le;
    divides = record {
      factor = f E;
      is = by (Kx E) (neg (pol F [])) (pol_nil F) (by (Kx E) (neg (f E)) (mon_nil F)
          (ring (Kx E) (f E ∷ pol F [] ∷ mon F [] ∷ []) (search quote depth 40) refl));
    };
  }

  pub opposite_on : {a : Pair E.K} → On a → On (opposite a)
  unfolding opposite
  opposite_on {a} h = record {
    fits = length_neg F a.v ∙ h.fits;
    on = (
      h.on.0,
      by (Kx E) 1P h.on.1 (by (Kx E) (neg (pol F (neg_l F a.v) + neg (v_of E a))) (pol_neg F a.v)
          (ring (Kx E) (f E ∷ v_of E a ∷ pol F (neg_l F a.v) ∷ u_of E a ∷ h.on.0 ∷ []) (search quote depth 40) refl)),
    );
  }

  pub opposite_valid : (a : Pair E.K) → Valid E a → Valid E (opposite a)
  unfolding opposite
  opposite_valid a h = on_valid {a = opposite a} (opposite_on {a = a} (valid_on {a = a} h)) h.small
