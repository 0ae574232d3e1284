-- Factors of monic polynomials. Gives: a monic factor of the same degree is the polynomial itself (`same_degree`); the other factor of a cubic with a monic quadratic one is x + (u2 - g1) (`linear_factor`); and what
-- a cubic and a quadratic leave when x - r is taken out, by Horner (`cubic_less`, `quadratic_less`).
use Prim.Native.Nat.{ℕ}
use mathlib.Core.Path.{◌≡◌, refl, sym, ap, ap₂, ◌∙◌}
use mathlib.Core.List.{[], ◌∷◌}
use native.Mathlib.Decide.{ℕ_discrete}
use native.Mathlib.Omega.{arith}
use Rattle.algebra.proofs.Ring.CRing.{CRing, add_neg, eq_of_sub}
use Rattle.algebra.proofs.Ring.Quote.{ring, quote, by}
use Rattle.algebra.proofs.Poly.Bound.{Below, Monic}
use Rattle.algebra.proofs.Poly.Poly.{poly, coef, coef_add, coef_neg}
use Rattle.algebra.proofs.Poly.Term.{C, X, at, constants}
use Rattle.algebra.proofs.Poly.Divide.{short_multiple}
use Rattle.algebra.proofs.List.Value.{mon, pol_below, mon_monic}
use Rattle.algebra.proofs.List.Short.{pol2, mon2, mon3}
use Rattle.rules.specs.Roots.Roots.{value}

-- ---- in any ring
module _ (R : CRing) where
  open R use {El as A, add as ◌+◌, mul as ◌*◌, neg, one as 𝟙}

  infixl 65 ◌+◌
  infixl 70 ◌*◌
  one_out : (p e g : A) → p ≡ e * g → g * (e + neg 𝟙) ≡ p + neg g
  one_out p e g h = by R (neg 𝟙) h (ring R (p ∷ e ∷ g ∷ []) (search quote depth 40) refl)

  line_out : (x p e g u0 u1 u2 g0 g1 c r0 r1 : A) → p ≡ u0 + x * (u1 + x * (u2 + x)) → g ≡ g0 + x * (g1 + x) → c ≡ u2 + neg g1 → r0 ≡ u0 + neg (c * g0) → r1 ≡ u1 + neg g0 + neg (c * g1) → p ≡ e * g
      → g * (e + neg (x + c)) ≡ r0 + x * r1
  line_out x p e g u0 u1 u2 g0 g1 c r0 r1 hp hg hc h0 h1 h =
      by R (neg 𝟙) h (by R 𝟙 hp (by R (neg (x + c)) hg (by R (neg (x * x)) hc (by R (neg 𝟙) h0 (by R (neg x) h1
      (ring R (x ∷ p ∷ e ∷ g ∷ u0 ∷ u1 ∷ u2 ∷ g0 ∷ g1 ∷ c ∷ r0 ∷ r1 ∷ []) (search quote depth 40) refl))))))

module _ (F : CRing) where
  open F use {El as A, add as ◌⊕◌, mul as ◌⊗◌, neg as ng, zer as 𝟘, one as 𝟙}
  open poly F use {El as P, add as ◌+◌, mul as ◌*◌, neg, zer as 0P, one as 1P}

  infixl 65 ◌⊕◌
  infixl 70 ◌⊗◌
  infixl 65 ◌+◌
  infixl 70 ◌*◌
  pub same_degree : (d : ℕ) (p e g : P) → Monic F d (coef F p) → Monic F d (coef F g) → p ≡ e * g → p ≡ g
  same_degree d p e g hp hg h = h ∙ ap (λ t. t * g) (eq_of_sub (poly F) e 1P (short_multiple F d g (e + neg 1P) hg low)) ∙ (poly F).one-mul g
    where
      low : Below F d (coef F (g * (e + neg 1P)))
      low k l = ap (λ (t : P). coef F t k) (one_out (poly F) p e g h) ∙ at F (coef_add F p (neg g)) k ∙ ap (λ t. coef F p k ⊕ t) (at F (coef_neg F g) k) ∙ go (ℕ_discrete k d)
        where
          go : Dec (k ≡ d) → coef F p k ⊕ ng (coef F g k) ≡ 𝟘
          go (yes s) = ap₂ (λ x y. x ⊕ ng y) (ap (coef F p) s ∙ hp.top) (ap (coef F g) s ∙ hg.top) ∙ add_neg F 𝟙
          go (no n) = ap₂ (λ x y. x ⊕ ng y) (hp.below k (omega arith)) (hg.below k (omega arith)) ∙ add_neg F 𝟘

  minus : (a b : A) → C F (a ⊕ ng b) ≡ C F a + neg (C F b)
  minus a b = (constants F).h_add a (ng b) ∙ ap (λ t. C F a + t) ((constants F).h_neg b)

  pub linear_factor : (u0 u1 u2 g0 g1 : A) (e : P) → mon F (u0 ∷ u1 ∷ u2 ∷ []) ≡ e * mon F (g0 ∷ g1 ∷ []) → e ≡ X F + C F (u2 ⊕ ng g1)
  linear_factor u0 u1 u2 g0 g1 e h = eq_of_sub (poly F) e (X F + C F c) (short_multiple F 2 (mon F (g0 ∷ g1 ∷ [])) (e + neg (X F + C F c)) (mon_monic F (g0 ∷ g1 ∷ [])) low)
    where
      c : A
      c = u2 ⊕ ng g1

      low : Below F 2 (coef F (mon F (g0 ∷ g1 ∷ []) * (e + neg (X F + C F c))))
      low k l = ap (λ (t : P). coef F t k) (line_out (poly F) (X F) (mon F (u0 ∷ u1 ∷ u2 ∷ [])) e (mon F (g0 ∷ g1 ∷ [])) (C F u0) (C F u1) (C F u2) (C F g0) (C F g1) (C F c)
          (C F (u0 ⊕ ng (c ⊗ g0))) (C F (u1 ⊕ ng g0 ⊕ ng (c ⊗ g1))) (mon3 F u0 u1 u2) (mon2 F g0 g1) (minus u2 g1)
          (minus u0 (c ⊗ g0) ∙ ap (λ t. C F u0 + neg t) ((constants F).h_mul c g0))
          (minus (u1 ⊕ ng g0) (c ⊗ g1) ∙ ap₂ (λ s t. s + neg t) (minus u1 g0) ((constants F).h_mul c g1)) h
          ∙ sym (pol2 F (u0 ⊕ ng (c ⊗ g0)) (u1 ⊕ ng g0 ⊕ ng (c ⊗ g1))))
          ∙ pol_below F ((u0 ⊕ ng (c ⊗ g0)) ∷ (u1 ⊕ ng g0 ⊕ ng (c ⊗ g1)) ∷ []) k l

  -- ---- values, with x - r taken out
  pub cubic_less : (u0 u1 u2 r y : A) → value F (u0 ∷ u1 ∷ u2 ∷ []) y ≡ (y ⊕ ng r) ⊗ value F ((r ⊗ (u2 ⊕ r) ⊕ u1) ∷ (u2 ⊕ r) ∷ []) y ⊕ value F (u0 ∷ u1 ∷ u2 ∷ []) r
  unfolding value
  cubic_less u0 u1 u2 r y = ring F (u0 ∷ u1 ∷ u2 ∷ r ∷ y ∷ []) (search quote depth 40) refl

  -- where r + t = -b and r t = c
  pub quadratic_less : (b c r t y : A) → r ⊕ t ≡ ng b → r ⊗ t ≡ c → value F (c ∷ b ∷ []) y ≡ (y ⊕ ng r) ⊗ (y ⊕ ng t)
  unfolding value
  quadratic_less b c r t y h k = by F y h (by F (ng 𝟙) k (ring F (b ∷ c ∷ r ∷ t ∷ y ∷ []) (search quote depth 40) refl))
