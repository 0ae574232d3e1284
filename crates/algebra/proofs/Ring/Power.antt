-- Powers in a commutative ring. Gives: `power`; how it goes with an exponent that is one more or twice another, a sum or a product, or a power of 2; powers of a product, of 1 and of 0; the test that
-- a power is 1 (`has_power_one`).
-- Shut (`unfoldable`): `power`, `has_power_one`.
use Prim.Native.Nat.{ℕ, zero, suc, ◌+◌, ◌-◌, ◌*◌, ◌/◌, ◌%◌, ◌^◌, ◌<◌}
use mathlib.Core.Path.{◌≡◌, refl, sym, ap, ◌∙◌}
use mathlib.Core.List.{[], ◌∷◌}
use mathlib.Core.Logic.{◌↔◌}
use mathlib.Core.Bool.{Bool, true, decide, decide_iff}
use native.Mathlib.Omega.{arith}
use native.Mathlib.Nat.{zero-add, suc-mul, zero-mul, pow-suc}
use Rattle.algebra.proofs.Ring.CRing.{CRing, mul-one, zer_mul}
use Rattle.algebra.proofs.Ring.Quote.{ring, quote}
use Rattle.algebra.proofs.Ring.Field.{Arith}

module _ (R : CRing) where
  open R use {El as A, mul as ◌⊗◌, zer as 𝟘, one as 𝟙, one-mul, mul_assoc}

  infixl 70 ◌⊗◌
  unfoldable pub power : A → ℕ → A
  power a zero = 𝟙
  power a (suc n) = a ⊗ power a n

  pub power_none : (a : A) → power a 0 ≡ 𝟙
  unfolding power
  power_none a = refl

  pub power_suc : (a : A) (n : ℕ) → power a (suc n) ≡ a ⊗ power a n
  unfolding power
  power_suc a n = refl

  pub power_first : (a : A) → power a 1 ≡ a
  unfolding power
  power_first a = mul-one R a

  pub power_more : (a : A) (n : ℕ) → 0 < n → power a n ≡ a ⊗ power a (n - 1)
  unfolding power
  power_more a zero l = absurd (omega arith)
  power_more a (suc n) l = ap (λ (k : ℕ). a ⊗ power a k) {x = n} {y = suc n - 1} (omega arith)

  twice : (a : A) (n : ℕ) → power (a ⊗ a) n ≡ power a (n + n)
  unfolding power
  twice a zero = refl
  twice a (suc n) = ap (λ t. a ⊗ a ⊗ t) (twice a n) ∙ ring R (a ∷ power a (n + n) ∷ []) (search quote depth 40) refl ∙ ap (λ (k : ℕ). power a k) {x = suc (suc (n + n))} {y = suc n + suc n} (omega arith)

  pub power_even : (a : A) (n : ℕ) → n % 2 ≡ 0 → power (a ⊗ a) (n / 2) ≡ power a n
  power_even a n e = twice a (n / 2) ∙ ap (power a) {x = n / 2 + n / 2} {y = n} (omega arith)

  pub power_add : (a : A) (m n : ℕ) → power a (m + n) ≡ power a m ⊗ power a n
  unfolding power
  power_add a zero n = ap (power a) (zero-add n) ∙ sym (one-mul (power a n))
  power_add a (suc m) n = ap (power a) {x = suc m + n} {y = suc (m + n)} (omega arith) ∙ ap (λ t. a ⊗ t) (power_add a m n) ∙ sym (mul_assoc a (power a m) (power a n))

  pub power_mul : (a : A) (m n : ℕ) → power a (m * n) ≡ power (power a n) m
  unfolding power
  power_mul a zero n = ap (power a) (zero-mul n)
  power_mul a (suc m) n = ap (power a) {x = suc m * n} {y = n + m * n} (omega (arith, suc-mul m n)) ∙ power_add a n (m * n) ∙ ap (λ t. power a n ⊗ t) (power_mul a m n)

  pub power_of_mul : (a b : A) (n : ℕ) → power (a ⊗ b) n ≡ power a n ⊗ power b n
  unfolding power
  power_of_mul a b zero = sym (mul-one R 𝟙)
  power_of_mul a b (suc n) = ap (λ t. a ⊗ b ⊗ t) (power_of_mul a b n) ∙ ring R (a ∷ b ∷ power a n ∷ power b n ∷ []) (search quote depth 40) refl

  pub power_of_one : (n : ℕ) → power 𝟙 n ≡ 𝟙
  unfolding power
  power_of_one zero = refl
  power_of_one (suc n) = one-mul (power 𝟙 n) ∙ power_of_one n

  pub power_of_zer : (n : ℕ) → power 𝟘 (suc n) ≡ 𝟘
  power_of_zer n = power_suc 𝟘 n ∙ zer_mul R (power 𝟘 n)

  -- by squaring
  pub power_double : (a : A) (i : ℕ) → power a (2 ^ suc i) ≡ power a (2 ^ i) ⊗ power a (2 ^ i)
  power_double a i = ap (power a) {x = 2 ^ suc i} {y = 2 ^ i + 2 ^ i} (omega (arith, pow-suc 2 i)) ∙ power_add a (2 ^ i) (2 ^ i)

  pub power_square : (a : A) (i : ℕ) → power (a ⊗ a) (2 ^ i) ≡ power a (2 ^ suc i)
  power_square a i = power_of_mul a a (2 ^ i) ∙ sym (power_double a i)

module _ (K : Arith) (a : K.base.El) (n : ℕ) where
  unfoldable pub has_power_one : Bool
  unfolding power decide
  has_power_one = decide (K.dec (power K.base a n) K.base.one)

  pub power_one : (has_power_one ≡ true) ↔ (power K.base a n ≡ K.base.one)
  unfolding has_power_one
  power_one = decide_iff (K.dec (power K.base a n) K.base.one)
