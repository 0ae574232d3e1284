-- Shifts that part two elements. Gives: modulo a prime p, for any test that takes 1 and not 0, and any two different elements, some shift below p
-- has exactly one of the shifted elements taken (`parted`); and the same of the test that a
-- power is 1, such as y^((p-1)/2) (`parted_by_power`).
-- Were there none, the test would take 1, 1 + δ, 1 + 2δ and so on for the difference δ, and one of these is 0.
use Prim.Native.Nat.{ℕ, zero, suc, ◌<◌}
use mathlib.Core.Path.{◌≡◌, refl, sym, ap, ◌∙◌, subst}
use mathlib.Core.List.{[], ◌∷◌}
use mathlib.Core.Logic.{◌≢◌, ◌⊎◌, inl, inr}
use mathlib.Core.Bool.{Bool, true, false, true≢false, Bool-discrete}
use native.Mathlib.Decide.{ℕ_discrete}
use native.Mathlib.Omega.{arith}
use Rattle.algebra.proofs.Ring.CRing.{eq_of_sub}
use Rattle.algebra.proofs.Ring.Quote.{ring, quote, by}
use Rattle.algebra.proofs.Ring.Power.{power_of_one, has_power_one, power_one, power_of_zer}
use Rattle.algebra.proofs.Zmod.Zmod.{zmod, emb, num, emb_num, emb_zero, num_lt}
use Rattle.algebra.proofs.Zmod.Prime.{Prime}
use Rattle.algebra.proofs.Zmod.PrimeField.{modulo, inv, mul_inv, one_ne_zero}
use Rattle.rules.proofs.Roots.Fermat.{emb_suc}

-- a number below n that isn't P, or all are
pub all_or_one : (n : ℕ) (P : ℕ → Type 0) → ((a : ℕ) → Dec (P a)) → ((a : ℕ) × (a < n) × (P a → ⊥)) ⊎ ((a : ℕ) → a < n → P a)
all_or_one zero P dec = inr (λ a l. absurd (omega arith))
all_or_one (suc n) P dec = go (all_or_one n P dec) (dec n)
  where
    go : ((a : ℕ) × (a < n) × (P a → ⊥)) ⊎ ((a : ℕ) → a < n → P a) → Dec (P n) → ((a : ℕ) × (a < suc n) × (P a → ⊥)) ⊎ ((a : ℕ) → a < suc n → P a)
    go (inl x) d = inl (x.0, omega arith, x.2)
    go (inr h) (no f) = inl (n, omega arith, f)
    go (inr h) (yes e) = inr (λ a l. at a l (ℕ_discrete a n))
      where
        at : (a : ℕ) → a < suc n → Dec (a ≡ n) → P a
        at a l (yes s) = subst P (sym s) e
        at a l (no s) = h a (omega arith)

module _ (p : ℕ) (prime : Prime p) where
  open zmod p use {El as A, add as ◌⊕◌, mul as ◌⊗◌, neg, zer as 𝟘, one as 𝟙}

  infixl 65 ◌⊕◌
  infixl 70 ◌⊗◌
  pub parted : (Q : A → Bool) → Q 𝟙 ≡ true → Q 𝟘 ≡ false → (α β : A) → α ≢ β → (a : ℕ) × (a < p) × (Q (α ⊕ emb p a) ≢ Q (β ⊕ emb p a))
  parted Q one zer α β ne = go (all_or_one p (λ a. Q (α ⊕ emb p a) ≡ Q (β ⊕ emb p a)) (λ a. Bool-discrete (Q (α ⊕ emb p a)) (Q (β ⊕ emb p a))))
    where
      δ : A
      δ = β ⊕ neg α

      go : ((a : ℕ) × (a < p) × (Q (α ⊕ emb p a) ≢ Q (β ⊕ emb p a))) ⊎ ((a : ℕ) → a < p → Q (α ⊕ emb p a) ≡ Q (β ⊕ emb p a))
          → (a : ℕ) × (a < p) × (Q (α ⊕ emb p a) ≢ Q (β ⊕ emb p a))
      go (inl x) = x
      go (inr same) = absurd (true≢false (sym (walk (num p (neg (inv p δ)))) ∙ ap Q last ∙ zer))
        where
          step : (y : A) → Q (y ⊕ δ) ≡ Q y
          step y = ap Q (sym (ap (λ t. β ⊕ t) (emb_num p (y ⊕ neg α)) ∙ at_β)) ∙ sym (same (num p (y ⊕ neg α)) (num_lt p (omega (arith, prime.two)) (y ⊕ neg α)))
              ∙ ap Q (ap (λ t. α ⊕ t) (emb_num p (y ⊕ neg α)) ∙ at_α)
            where
              at_β : β ⊕ (y ⊕ neg α) ≡ y ⊕ (β ⊕ neg α)
              at_β = ring (zmod p) (α ∷ β ∷ y ∷ []) (search quote depth 40) refl

              at_α : α ⊕ (y ⊕ neg α) ≡ y
              at_α = ring (zmod p) (α ∷ y ∷ []) (search quote depth 40) refl

          walk : (k : ℕ) → Q (𝟙 ⊕ emb p k ⊗ δ) ≡ true
          walk zero = ap Q (ap (λ t. 𝟙 ⊕ t ⊗ δ) (emb_zero p) ∙ from δ) ∙ one
            where
              from : (d : A) → 𝟙 ⊕ 𝟘 ⊗ d ≡ 𝟙
              from d = ring (zmod p) (d ∷ []) (search quote depth 40) refl
          walk (suc k) = ap Q (ap (λ t. 𝟙 ⊕ t ⊗ δ) (emb_suc p k) ∙ more (emb p k) δ) ∙ step (𝟙 ⊕ emb p k ⊗ δ) ∙ walk k
            where
              more : (e d : A) → 𝟙 ⊕ (e ⊕ 𝟙) ⊗ d ≡ 𝟙 ⊕ e ⊗ d ⊕ d
              more e d = ring (zmod p) (e ∷ d ∷ []) (search quote depth 40) refl

          last : 𝟙 ⊕ emb p (num p (neg (inv p δ))) ⊗ δ ≡ 𝟘
          last = ap (λ t. 𝟙 ⊕ t ⊗ δ) (emb_num p (neg (inv p δ))) ∙ meets δ (inv p δ) (mul_inv p prime δ (λ e. ne (sym (eq_of_sub (zmod p) β α e))))
            where
              meets : (d i : A) → d ⊗ i ≡ 𝟙 → 𝟙 ⊕ neg i ⊗ d ≡ 𝟘
              meets d i h = by (zmod p) (neg 𝟙) h (ring (zmod p) (d ∷ i ∷ []) (search quote depth 40) refl)

  -- ---- the test that a power is 1
  pub parted_by_power : (m : ℕ) → 0 < m → (α β : A) → α ≢ β → (a : ℕ) × (a < p) × (has_power_one (modulo p) (α ⊕ emb p a) m ≢ has_power_one (modulo p) (β ⊕ emb p a) m)
  parted_by_power m pos = parted (λ y. has_power_one (modulo p) y m) ((power_one (modulo p) 𝟙 m).1 (power_of_one (zmod p) m)) (refused m pos)
    where
      refused : (m : ℕ) → 0 < m → has_power_one (modulo p) 𝟘 m ≡ false
      refused zero l = absurd (omega arith)
      refused (suc m) l = go (has_power_one (modulo p) 𝟘 (suc m)) refl
        where
          go : (b : Bool) → has_power_one (modulo p) 𝟘 (suc m) ≡ b → b ≡ false
          go true e = absurd (one_ne_zero p prime (sym ((power_one (modulo p) 𝟘 (suc m)).0 e) ∙ power_of_zer (zmod p) m))
          go false e = refl
