-- Reduction by a formula, over every degree: u is monic of degree n and known to divide f - v², so a quotient is right if it is right from place
-- n on. Only top coefficients need be looked at. Gives: `turn_top`, one step; `first_turn`, the first one, of a composed pair; `main_tops`,
-- the form that the tables have, s = w·S with S monic.
use Prim.Native.Nat.{ℕ, suc, ◌+◌, ◌≤◌}
use mathlib.Core.Path.{◌≡◌, refl, sym, ◌∙◌, subst}
use mathlib.Core.List.{[], ◌∷◌}
use native.Mathlib.Omega.{arith}
use Rattle.algebra.proofs.Ring.CRing.{CRing, eq_of_sub}
use Rattle.algebra.proofs.Ring.Quote.{ring, quote, by}
use Rattle.algebra.proofs.Poly.Bound.{Below, below_add, below_neg, below_mul, below_con, Monic, monic_mul}
use Rattle.algebra.proofs.Poly.Poly.{poly, coef, coef_add, coef_neg, coef_mul}
use Rattle.algebra.proofs.Poly.Term.{at, C, coef_C}
use Rattle.algebra.proofs.Poly.Divide.{short_multiple}
use Rattle.algebra.proofs.Ideal.Joined.{OnCurve}
use Rattle.rules.specs.Curve.{Curve, Kx, f}
use Rattle.rules.proofs.IsSum.{Reached, turn, here}

-- ---- bounds of polynomials
module _ (F : CRing) where
  open poly F use {El as P, add as ◌⊕◌, mul as ◌*◌, neg, one as 1P}

  infixl 65 ◌⊕◌
  infixl 70 ◌*◌
  pub below_sum : {n : ℕ} (p q : P) → Below F n (coef F p) → Below F n (coef F q) → Below F n (coef F (p ⊕ q))
  below_sum {n} p q hp hq = subst (Below F n) (sym (coef_add F p q)) (below_add F hp hq)

  pub below_opp : {n : ℕ} (p : P) → Below F n (coef F p) → Below F n (coef F (neg p))
  below_opp {n} p hp = subst (Below F n) (sym (coef_neg F p)) (below_neg F hp)

  pub below_prod : (m n k : ℕ) (p q : P) → Below F m (coef F p) → Below F n (coef F q) → m + n ≤ suc k → Below F k (coef F (p * q))
  below_prod m n k p q hp hq l i g = at F (coef_mul F p q) i ∙ below_mul F m n (coef F p) (coef F q) hp hq i (omega arith)

  pub below_scaled : {n : ℕ} (c : F.El) (p : P) → Below F n (coef F p) → Below F n (coef F (C F c * p))
  below_scaled {n} c p hp = below_prod 1 n n (C F c) p (subst (Below F 1) (sym (coef_C F c)) (below_con F c)) hp (omega arith)

  pub below_is : {n : ℕ} {p q : P} → p ≡ q → Below F n (coef F p) → Below F n (coef F q)
  below_is {n} e h = subst (λ (t : P). Below F n (coef F t)) e h

module _ (E : Curve) where
  abbrev F : CRing
  F = E.K.base

  open Kx E use {El as P, add as ◌⊕◌, mul as ◌*◌, neg, one as 1P}

  infixl 65 ◌⊕◌
  infixl 65 ◌⊖◌
  infixl 70 ◌*◌
  abbrev ◌⊖◌ : P → P → P
  a ⊖ b = a ⊕ neg b

  -- (f - v²)/u, right from place n on, is right
  pub quotient_top : (n : ℕ) (u v w h : P) → Monic F n (coef F u) → f E ≡ v * v ⊕ u * w → Below F n (coef F (f E ⊖ v * v ⊖ u * h)) → w ≡ h
  quotient_top n u v w h m on b = eq_of_sub (Kx E) w h (short_multiple F n u (w ⊖ h) m
      (below_is F (by (Kx E) 1P on (ring (Kx E) (f E ∷ u ∷ v ∷ w ∷ h ∷ []) (search quote depth 40) refl)) b))

  -- one step: u' is right from place n on, and v' = -v modulo u'
  pub turn_top : {U V' : P} (n : ℕ) (u v u' v' e e' q : P) → Reached E U V' u v → OnCurve (Kx E) (f E) u v → Monic F n (coef F u) → e * e' ≡ 1P
      → Below F n (coef F (f E ⊖ v * v ⊖ e * (u * u'))) → v ≡ q * u' ⊖ v' → Reached E U V' u' v'
  turn_top n u v u' v' e e' q r (w, on) m unit b hv = turn w e' e u' v' r
      (by (Kx E) (neg 1P) on (ring (Kx E) (f E ∷ u ∷ v ∷ w ∷ []) (search quote depth 40) refl))
      (by (Kx E) 1P unit (ring (Kx E) (e ∷ e' ∷ []) (search quote depth 40) refl))
      (by (Kx E) (neg e') whole (by (Kx E) (neg u') unit (ring (Kx E) (u' ∷ w ∷ e ∷ e' ∷ []) (search quote depth 40) refl)))
      (record { factor = q; is = by (Kx E) 1P hv (ring (Kx E) (u' ∷ v ∷ v' ∷ q ∷ []) (search quote depth 40) refl) })
    where
      whole : w ≡ e * u'
      whole = quotient_top n u v w (e * u') m on (below_is F (ring (Kx E) (f E ∷ u ∷ v ∷ u' ∷ e ∷ []) (search quote depth 40) refl) b)

  -- the first step, of (u·u', v + s·u); h is (f - v²)/u, right from place m on
  pub first_turn : (n m : ℕ) (u v u' s h ut vt e e' q : P) → Monic F n (coef F u) → Monic F m (coef F u') → Below F n (coef F v) → n ≤ suc m
      → OnCurve (Kx E) (f E) (u * u') (v ⊕ s * u) → e * e' ≡ 1P
      → Below F (n + m) (coef F (f E ⊖ u * h)) → Below F m (coef F (h ⊖ s * (v ⊕ v ⊕ s * u) ⊖ e * (u' * ut)))
      → v ⊕ s * u ≡ q * ut ⊕ vt → Reached E (u * u') (v ⊕ s * u) ut (neg vt)
  first_turn n m u v u' s h ut vt e e' q mu mu' bv le on unit bf bt hv =
      turn_top (n + m) (u * u') (v ⊕ s * u) ut (neg vt) e e' q here on product unit
      (below_is F (ring (Kx E) (f E ∷ u ∷ v ∷ u' ∷ s ∷ h ∷ ut ∷ e ∷ []) (search quote depth 40) refl)
      (below_sum F (f E ⊖ u * h ⊖ v * v) (u * (h ⊖ s * (v ⊕ v ⊕ s * u) ⊖ e * (u' * ut)))
      (below_sum F (f E ⊖ u * h) (neg (v * v)) bf (below_opp F (v * v) (below_prod F n n (n + m) v v bv bv (omega arith))))
      (below_prod F (suc n) m (n + m) u (h ⊖ s * (v ⊕ v ⊕ s * u) ⊖ e * (u' * ut)) mu.below bt (omega arith))))
      (by (Kx E) 1P hv (ring (Kx E) (u ∷ v ∷ s ∷ ut ∷ vt ∷ q ∷ []) (search quote depth 40) refl))
    where
      product : Monic F (n + m) (coef F (u * u'))
      product = subst (Monic F (n + m)) (sym (coef_mul F u u')) (monic_mul F mu mu')

  -- s = w·S, so that (f - V²)/(u·u') is -w² times what the tables have
  pub main_tops : (m : ℕ) (u v u' S h ut : P) (w wi : F.El) → C F w * C F wi ≡ 1P
      → Below F m (coef F (S * (S * u ⊕ C F wi * (v ⊕ v)) ⊖ C F wi * (C F wi * h) ⊖ u' * ut))
      → Below F m (coef F (h ⊖ C F w * S * (v ⊕ v ⊕ C F w * S * u) ⊖ neg (C F w * C F w) * (u' * ut)))
  main_tops m u v u' S h ut w wi unit b = below_is F same (below_opp F (C F w * (C F w * T)) (below_scaled F w (C F w * T) (below_scaled F w T b)))
    where
      T : P
      T = S * (S * u ⊕ C F wi * (v ⊕ v)) ⊖ C F wi * (C F wi * h) ⊖ u' * ut

      same : neg (C F w * (C F w * T)) ≡ h ⊖ C F w * S * (v ⊕ v ⊕ C F w * S * u) ⊖ neg (C F w * C F w) * (u' * ut)
      same = by (Kx E) (C F w * C F wi * h ⊕ h ⊖ C F w * S * (v ⊕ v)) unit (ring (Kx E) (u ∷ v ∷ u' ∷ S ∷ h ∷ ut ∷ C F w ∷ C F wi ∷ []) (search quote depth 40) refl)
