-- Polynomials built coefficient by coefficient: what a loop that stores one coefficient at a time is proved by. Gives: `put_is`, a
-- change at one place is a term added; `part n f`, the first n terms of a series, which has none from n on (`part_below`); `part_all`, that
-- a polynomial is all of its terms.
-- Shut (`unfoldable`): `part`.
use Prim.Native.Nat.{ℕ, zero, suc, ◌<◌, zero-le}
use mathlib.Core.Path.{◌≡◌, refl, sym, ap, ap₂, ◌∙◌}
use mathlib.Core.List.{[], ◌∷◌}
use native.Mathlib.Omega.{arith}
use native.Mathlib.Decide.{ℕ_discrete}
use Rattle.algebra.proofs.Ring.CRing.{CRing, add_zer, add_neg, neg_zer}
use Rattle.algebra.proofs.Ring.Quote.{ring, quote}
use Rattle.algebra.proofs.Poly.Series.{Ser}
use Rattle.algebra.proofs.Poly.Bound.{Below}
use Rattle.algebra.proofs.Poly.Poly.{poly, coef, poly_ext, coef_add, coef_neg, coef_zer}
use Rattle.algebra.proofs.Poly.Term.{at, term_s, termS_at, termS_off, term, coef_term}

module _ (F : CRing) where
  open F use {El as A, add as ◌⊕◌, neg, zer as 𝟘, zer_add}

  infixl 65 ◌⊕◌
  open poly F use {El as Po, add as ◌+P◌, neg as negP, zer as 0P}

  infixl 65 ◌+P◌
  -- two series that are equal at every place but k, where they differ by a
  pub put_is : (p q : Po) (a : A) (k : ℕ) → ((n : ℕ) → (n ≡ k → ⊥) → coef F q n ≡ coef F p n) → coef F q k ≡ coef F p k ⊕ a → q ≡ p +P term F a k
  put_is p q a k off on = poly_ext F (λ n. go n (ℕ_discrete n k) ∙ sym (at F (coef_add F p (term F a k)) n ∙ ap (λ t. coef F p n ⊕ t) (at F (coef_term F a k) n)))
    where
      go : (n : ℕ) → Dec (n ≡ k) → coef F q n ≡ coef F p n ⊕ term_s F a k n
      go n (yes e) = ap (coef F q) e ∙ on ∙ ap₂ ◌⊕◌ (ap (coef F p) (sym e)) (sym (termS_at F a k) ∙ ap (term_s F a k) (sym e))
      go n (no h) = off n h ∙ sym (add_zer F (coef F p n)) ∙ ap (λ t. coef F p n ⊕ t) (sym (termS_off F a k n h))

  -- the first n terms of a series
  unfoldable pub part : ℕ → Ser F → Po
  part zero f = 0P
  part (suc n) f = part n f +P term F (f n) n

  pub part_below : (n : ℕ) (f : Ser F) → Below F n (coef F (part n f))
  unfolding part
  part_below zero f k l = at F (coef_zer F) k
  part_below (suc n) f k l = at F (coef_add F (part n f) (term F (f n) n)) k
      ∙ ap₂ ◌⊕◌ (part_below n f k (omega arith)) (at F (coef_term F (f n) n) k ∙ termS_off F (f n) n k (λ e. omega arith)) ∙ zer_add 𝟘

  part_same : (n : ℕ) (f g : Ser F) → ((k : ℕ) → k < n → f k ≡ g k) → part n f ≡ part n g
  unfolding part
  part_same zero f g h = refl
  part_same (suc n) f g h = ap₂ ◌+P◌ (part_same n f g (λ k l. h k (omega arith))) (ap (λ a. term F a n) (h n (omega arith)))

  pub part_all : (n : ℕ) (p : Po) → Below F n (coef F p) → part n (coef F p) ≡ p
  unfolding part
  part_all zero p h = sym (poly_ext F (λ k. h k zero-le ∙ sym (at F (coef_zer F) k)))
  part_all (suc n) p h = ap (λ t. t +P term F (coef F p n) n) (part_same n (coef F p) (coef F p') low ∙ part_all n p' below)
      ∙ ring (poly F) (p ∷ term F (coef F p n) n ∷ []) (search quote depth 40) refl
    where
      p' : Po
      p' = p +P negP (term F (coef F p n) n)

      is : (k : ℕ) → coef F p' k ≡ coef F p k ⊕ neg (term_s F (coef F p n) n k)
      is k = at F (coef_add F p (negP (term F (coef F p n) n))) k
          ∙ ap (λ t. coef F p k ⊕ t) (at F (coef_neg F (term F (coef F p n) n)) k ∙ ap neg (at F (coef_term F (coef F p n) n) k))

      low : (k : ℕ) → k < n → coef F p k ≡ coef F p' k
      low k l = sym (is k ∙ ap (λ t. coef F p k ⊕ neg t) (termS_off F (coef F p n) n k (λ e. omega arith)) ∙ ap (λ t. coef F p k ⊕ t) (neg_zer F) ∙ add_zer F (coef F p k))

      below : Below F n (coef F p')
      below k l = go (ℕ_discrete k n)
        where
          go : Dec (k ≡ n) → coef F p' k ≡ 𝟘
          go (yes e) = ap (coef F p') e ∙ is n ∙ ap (λ t. coef F p n ⊕ neg t) (termS_at F (coef F p n) n) ∙ add_neg F (coef F p n)
          go (no e) = is k ∙ ap₂ (λ a b. a ⊕ neg b) (h k (omega arith)) (termS_off F (coef F p n) n k e) ∙ ap (λ t. 𝟘 ⊕ t) (neg_zer F) ∙ zer_add 𝟘
