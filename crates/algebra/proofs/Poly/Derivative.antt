-- The derivative, without numerals: D p = tail p + x · D (tail p). Gives: `der` on series and `der_p` on polynomials, that it goes
-- through sums and scaling, and the product rule; its bound; and its coefficients with numerals after all (`der_at`), n being `count n`.
-- Shut (`unfoldable`): `der`, `der_p`, `count`.
use Prim.Native.Nat.{ℕ, zero, suc, ◌<◌}
use mathlib.Core.Path.{◌≡◌, refl, sym, ap, ap₂, ◌∙◌}
use mathlib.Core.List.{[], ◌∷◌}
use mathlib.Core.Logic.{∥∥₁_map}
use native.Mathlib.Omega.{arith}
use Rattle.algebra.proofs.Ring.CRing.{CRing}
use Rattle.algebra.proofs.Ring.Quote.{ring, quote}
use Rattle.algebra.proofs.Poly.Series.{Ser, tail, add_s, sca, mul_s, add_mulS}
use Rattle.algebra.proofs.Poly.Poly.{Bounded, poly, coef, poly_ext}

module _ (F : CRing) where
  open F use {El as A, add as ◌⊕◌, mul as ◌⊗◌, zer as 𝟘, one as 𝟙, zer_add}

  infixl 65 ◌⊕◌
  infixl 70 ◌⊗◌
  open poly F use {El as P, add as ◌+P◌, mul as ◌*P◌}

  infixl 65 ◌+P◌
  infixl 70 ◌*P◌
  unfoldable pub der : Ser F → Ser F
  der p zero = p 1
  der p (suc n) = p (suc (suc n)) ⊕ der (tail F p) n

  pub der_add : (p q : Ser F) (n : ℕ) → der (add_s F p q) n ≡ der p n ⊕ der q n
  unfolding der
  der_add p q zero = refl
  der_add p q (suc n) = ap (λ t. p (suc (suc n)) ⊕ q (suc (suc n)) ⊕ t) (der_add (tail F p) (tail F q) n)
      ∙ ring F (p (suc (suc n)) ∷ q (suc (suc n)) ∷ der (tail F p) n ∷ der (tail F q) n ∷ []) (search quote depth 40) refl

  pub der_sca : (c : A) (p : Ser F) (n : ℕ) → der (sca F c p) n ≡ c ⊗ der p n
  unfolding der
  der_sca c p zero = refl
  der_sca c p (suc n) = ap (λ t. c ⊗ p (suc (suc n)) ⊕ t) (der_sca c (tail F p) n)
      ∙ ring F (c ∷ p (suc (suc n)) ∷ der (tail F p) n ∷ []) (search quote depth 40) refl

  pub leibniz : (p q : Ser F) (n : ℕ) → der (mul_s F p q) n ≡ mul_s F (der p) q n ⊕ mul_s F p (der q) n
  unfolding der mul_s
  leibniz p q zero = ring F (p 0 ∷ p 1 ∷ q 0 ∷ q 1 ∷ []) (search quote depth 40) refl
  leibniz p q (suc n) =
      ap (λ t. mul_s F p q (suc (suc n)) ⊕ t) (der_add (sca F (p 0) (tail F q)) (mul_s F (tail F p) q) n ∙ ap₂ ◌⊕◌ (der_sca (p 0) (tail F q) n) (leibniz (tail F p) q n))
      ∙ ring F (p 0 ∷ p 1 ∷ q (suc n) ∷ q (suc (suc n)) ∷ mul_s F (tail F (tail F p)) q n ∷ der (tail F q) n ∷ mul_s F (der (tail F p)) q n
      ∷ mul_s F (tail F p) (der q) n ∷ []) (search quote depth 40) refl
      ∙ ap (λ t. p 1 ⊗ q (suc n) ⊕ t ⊕ mul_s F p (der q) (suc n)) (sym (add_mulS F (tail F (tail F p)) (der (tail F p)) q n))

  pub der_zero : (p : Ser F) (k : ℕ) → ((i : ℕ) → k < i → p i ≡ 𝟘) → der p k ≡ 𝟘
  unfolding der
  der_zero p zero h = h 1 (omega arith)
  der_zero p (suc k) h = ap₂ ◌⊕◌ (h (suc (suc k)) (omega arith)) (der_zero (tail F p) k (λ i l. h (suc i) (omega arith))) ∙ zer_add 𝟘

  -- n as an element: 1 added n times
  unfoldable pub count : ℕ → A
  count zero = 𝟘
  count (suc n) = count n ⊕ 𝟙

  pub der_at : (p : Ser F) (n : ℕ) → der p n ≡ count (suc n) ⊗ p (suc n)
  unfolding der count
  der_at p zero = ring F (p 1 ∷ []) (search quote depth 40) refl
  der_at p (suc n) = ap (λ t. p (suc (suc n)) ⊕ t) (der_at (tail F p) n) ∙ ring F (p (suc (suc n)) ∷ count n ∷ []) (search quote depth 40) refl

  bounded_der : {p : Ser F} → Bounded F p → Bounded F (der p)
  bounded_der {p} h = ∥∥₁_map h (λ b. (b.0, λ k l. der_zero p k (λ i j. b.1 i (omega arith))))

  unfoldable pub der_p : P → P
  unfolding poly bounded_der
  der_p p = (der p.0, bounded_der p.1)

  pub derP_add : (p q : P) → der_p (p +P q) ≡ der_p p +P der_p q
  unfolding poly coef der_p
  derP_add p q = poly_ext F (der_add p.0 q.0)

  pub derP_mul : (p q : P) → der_p (p *P q) ≡ der_p p *P q +P p *P der_p q
  unfolding poly coef der_p
  derP_mul p q = poly_ext F (leibniz p.0 q.0)

  pub coef_der : (p : P) → coef F (der_p p) ≡ der (coef F p)
  unfolding poly coef der_p
  coef_der p = refl
