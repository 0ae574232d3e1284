-- Common factors of polynomials. Gives: `SharesNoFactor a b`, that whatever divides both is a constant (document 01's "share a factor of
-- degree 1 or more", denied); over a field, that what divides a nonzero constant is one (`constant_factor`), and that a common divisor of
-- degree 1 or more refutes it.
-- Open: `SharesNoFactor`.
use Prim.Native.Nat.{ℕ, suc, ◌+◌}
use mathlib.Core.Path.{◌≡◌, sym, ap, ◌∙◌}
use mathlib.Core.Logic.{◌≢◌}
use native.Mathlib.Omega.{arith}
use native.Mathlib.Decide.{ℕ_discrete}
use Rattle.algebra.proofs.Ring.CRing.{CRing, mul_zer, zer_mul}
use Rattle.algebra.proofs.Ring.Divides.{Divides}
use Rattle.algebra.proofs.Ring.Field.{Field}
use Rattle.algebra.proofs.Poly.Series.{con}
use Rattle.algebra.proofs.Poly.Bound.{Below, below_con}
use Rattle.algebra.proofs.Poly.Poly.{poly, coef, coef_zer}
use Rattle.algebra.proofs.Poly.Term.{at, C, coef_C}
use Rattle.algebra.proofs.Poly.Degree.{Degree, by_deg, degree_mul}

-- it has no coefficient from place 1 on
abbrev pub SharesNoFactor : (F : CRing) → (poly F).El → (poly F).El → Type 0
SharesNoFactor F a b = (h : (poly F).El) → Divides (poly F) h a → Divides (poly F) h b → Below F 1 (coef F h)

module _ (K : Field) where
  open K.arith use {base as F}
  open poly F use {El as P, add as ◌⊕◌, mul as ◌*◌}

  infixl 65 ◌⊕◌
  infixl 70 ◌*◌
  -- whatever divides a nonzero constant has degree 0
  pub constant_factor : (c : F.El) (h : P) → c ≢ F.zer → Divides (poly F) h (C F c) → Below F 1 (coef F h)
  unfolding con
  constant_factor c h ne d n l = by_deg K (F.is_set (coef F h n) F.zer) h
      (λ z. absurd (ne (sym (at F (coef_C F c) 0) ∙ ap (λ v. coef F v 0) (d.is ∙ ap (λ t. d.factor * t) z ∙ mul_zer (poly F) d.factor) ∙ at F (coef_zer F) 0)))
      (λ i di. by_deg K (F.is_set (coef F h n) F.zer) d.factor
      (λ z. absurd (ne (sym (at F (coef_C F c) 0) ∙ ap (λ v. coef F v 0) (d.is ∙ ap (λ t. t * h) z ∙ zer_mul (poly F) h) ∙ at F (coef_zer F) 0)))
      (λ j dj. flat i j di (degree_mul K d.factor h dj di)))
    where
      -- the constant has no coefficient above 0, and the product one at j + i
      flat : (i j : ℕ) → Degree K i h → Degree K (j + i) (d.factor * h) → coef F h n ≡ F.zer
      flat i j di dm = di.below n (omega (arith, l, low (ℕ_discrete (j + i) 0)))
        where
          low : Dec (j + i ≡ 0) → j + i ≡ 0
          low (yes e) = e
          low (no g) = absurd (dm.top (ap (λ v. coef F v (j + i)) (sym d.is) ∙ at F (coef_C F c) (j + i) ∙ below_con F c (j + i) (omega arith)))

  pub shares_some : {n : ℕ} (a b h : P) → Divides (poly F) h a → Divides (poly F) h b → Degree K (suc n) h → SharesNoFactor F a b → ⊥
  shares_some {n} a b h da db dh none = dh.top (none h da db (suc n) (omega arith))
