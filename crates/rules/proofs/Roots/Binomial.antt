-- Binomial coefficients in a commutative ring, by Pascal's triangle. Gives: the powers of x + 1 as sums (`binomial_theorem`), the sum of a
-- series that has only its last coefficient (`val_top`), and the coefficients at both ends.
-- Open: `binomial`, `val`.
use Prim.Native.Nat.{ℕ, zero, suc, ◌<◌}
use mathlib.Core.Path.{◌≡◌, refl, sym, ap, ap₂, ◌∙◌}
use mathlib.Core.List.{[], ◌∷◌}
use native.Mathlib.Omega.{arith}
use Rattle.algebra.proofs.Ring.CRing.{CRing, add_zer}
use Rattle.algebra.proofs.Ring.Quote.{ring, quote, by}
use Rattle.algebra.proofs.Ring.Power.{power}

module _ (R : CRing) where
  open R use {El as A, add as ◌⊕◌, mul as ◌⊗◌, zer as 𝟘, one as 𝟙}

  infixl 65 ◌⊕◌
  infixl 70 ◌⊗◌
  abbrev pub binomial : ℕ → ℕ → A
  binomial zero zero = 𝟙
  binomial zero (suc k) = 𝟘
  binomial (suc n) zero = 𝟙
  binomial (suc n) (suc k) = binomial n k ⊕ binomial n (suc k)

  pub binomial_first : (n : ℕ) → binomial n 0 ≡ 𝟙
  binomial_first zero = refl
  binomial_first (suc n) = refl

  binomial_above : (n k : ℕ) → n < k → binomial n k ≡ 𝟘
  binomial_above zero zero h = absurd (omega arith)
  binomial_above zero (suc k) h = refl
  binomial_above (suc n) zero h = absurd (omega arith)
  binomial_above (suc n) (suc k) h = ap₂ ◌⊕◌ (binomial_above n k (omega arith)) (binomial_above n (suc k) (omega arith)) ∙ add_zer R 𝟘

  pub binomial_last : (n : ℕ) → binomial n n ≡ 𝟙
  binomial_last zero = refl
  binomial_last (suc n) = ap₂ ◌⊕◌ (binomial_last n) (binomial_above n (suc n) (omega arith)) ∙ add_zer R 𝟙

  -- ---- c 0 + c 1 x + .. , m terms
  abbrev pub val : ℕ → (ℕ → A) → A → A
  val zero c x = 𝟘
  val (suc m) c x = c 0 ⊕ x ⊗ val m (λ k. c (suc k)) x

  val_add : (m : ℕ) (c d : ℕ → A) (x : A) → val m (λ k. c k ⊕ d k) x ≡ val m c x ⊕ val m d x
  val_add zero c d x = sym (add_zer R 𝟘)
  val_add (suc m) c d x = ap (λ t. c 0 ⊕ d 0 ⊕ x ⊗ t) (val_add m (λ k. c (suc k)) (λ k. d (suc k)) x) ∙ sort (c 0) (d 0) x (val m (λ k. c (suc k)) x) (val m (λ k. d (suc k)) x)
    where
      sort : (a b x s t : A) → a ⊕ b ⊕ x ⊗ (s ⊕ t) ≡ a ⊕ x ⊗ s ⊕ (b ⊕ x ⊗ t)
      sort a b x s t = ring R (a ∷ b ∷ x ∷ s ∷ t ∷ []) (search quote depth 40) refl

  val_last : (m : ℕ) (c : ℕ → A) (x : A) → c m ≡ 𝟘 → val (suc m) c x ≡ val m c x
  val_last zero c x h = ap (λ t. t ⊕ x ⊗ 𝟘) h ∙ ring R (x ∷ []) (search quote depth 40) refl
  val_last (suc m) c x h = ap (λ t. c 0 ⊕ x ⊗ t) (val_last m (λ k. c (suc k)) x h)

  pub val_top : (m : ℕ) (c : ℕ → A) (x : A) → ((k : ℕ) → k < m → c k ≡ 𝟘) → val (suc m) c x ≡ power R x m ⊗ c m
  unfolding power
  val_top zero c x h = sort (c 0) x
    where
      sort : (a x : A) → a ⊕ x ⊗ 𝟘 ≡ 𝟙 ⊗ a
      sort a x = ring R (a ∷ x ∷ []) (search quote depth 40) refl
  val_top (suc m) c x h = ap₂ (λ s t. s ⊕ x ⊗ t) (h 0 (omega arith)) (val_top m (λ k. c (suc k)) x (λ k l. h (suc k) (omega arith))) ∙ sort (power R x m) (c (suc m)) x
    where
      sort : (p a x : A) → 𝟘 ⊕ x ⊗ (p ⊗ a) ≡ x ⊗ p ⊗ a
      sort p a x = ring R (p ∷ a ∷ x ∷ []) (search quote depth 40) refl

  pub binomial_theorem : (n : ℕ) (x : A) → power R (x ⊕ 𝟙) n ≡ val (suc n) (binomial n) x
  unfolding power
  binomial_theorem zero x = sym (ring R (x ∷ []) (search quote depth 40) refl)
  binomial_theorem (suc n) x = ap (λ t. (x ⊕ 𝟙) ⊗ t) (binomial_theorem n x) ∙ sort (val (suc n) (binomial n) x) (val (suc n) (λ k. binomial n (suc k)) x) x whole
      ∙ ap (λ t. 𝟙 ⊕ x ⊗ t) (sym (val_add (suc n) (binomial n) (λ k. binomial n (suc k)) x))
    where
      sort : (s t x : A) → 𝟙 ⊕ x ⊗ t ≡ s → (x ⊕ 𝟙) ⊗ s ≡ 𝟙 ⊕ x ⊗ (s ⊕ t)
      sort s t x h = by R 𝟙 (sym h) (ring R (s ∷ t ∷ x ∷ []) (search quote depth 40) refl)

      whole : 𝟙 ⊕ x ⊗ val (suc n) (λ k. binomial n (suc k)) x ≡ val (suc n) (binomial n) x
      whole = ap (λ t. t ⊕ x ⊗ val (suc n) (λ k. binomial n (suc k)) x) (sym (binomial_first n)) ∙ val_last (suc n) (binomial n) x (binomial_above n (suc n) (omega arith))
