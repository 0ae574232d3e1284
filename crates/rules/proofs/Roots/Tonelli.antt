-- Square roots by Tonelli and Shanks, over a field. Gives: the invariant of level i (`Level`): x² = A b, b^(2^i) = 1, c^(2^i) = -1; that it holds at the start
-- (`begin`), is kept from a level to the next (`keep`, `change`), and that at level 0 x is a root (`finish`); the whole loop as a function
-- (`roots`, `roots_ok`).
-- Shut (`unfoldable`): `roots`.
use Prim.Native.Nat.{ℕ, zero, suc, ◌+◌, ◌*◌, ◌^◌}
use mathlib.Core.Path.{◌≡◌, refl, sym, ap, ap₂, ◌∙◌}
use mathlib.Core.List.{[], ◌∷◌}
use mathlib.Core.Logic.{◌≢◌}
use native.Mathlib.Omega.{arith}
use native.Mathlib.Nat.{mul_comm}
use Rattle.algebra.proofs.Ring.CRing.{CRing, eq_of_sub}
use Rattle.algebra.proofs.Ring.Quote.{ring, quote, by}
use Rattle.algebra.proofs.Ring.Field.{Field, no_zero_divisors}
use Rattle.algebra.proofs.Ring.Power.{power, power_add, power_mul, power_of_mul, power_first, power_double, power_square}

pub record Level (F : CRing) (A : F.El) (i : ℕ) (x b c : F.El) : Type 0 where
  pub square : F.mul x x ≡ F.mul A b
  pub of_b : power F b (2 ^ i) ≡ F.one
  pub of_c : power F c (2 ^ i) ≡ F.neg F.one

module _ (K : Field) where
  open K.arith use {base as F, dec}
  open F use {El as E, add as ◌⊕◌, mul as ◌⊗◌, neg, one as 𝟙}

  infixl 65 ◌⊕◌
  infixl 70 ◌⊗◌
  -- what squares to 1 is 1 or -1
  pub other_root : (a : E) → a ⊗ a ≡ 𝟙 → a ≢ 𝟙 → a ≡ neg 𝟙
  other_root a h f = go (dec a (neg 𝟙))
    where
      go : Dec (a ≡ neg 𝟙) → a ≡ neg 𝟙
      go (yes e) = e
      go (no g) = absurd (no_zero_divisors K (a ⊕ neg 𝟙) (a ⊕ neg (neg 𝟙)) (λ e. f (eq_of_sub F a 𝟙 e)) (λ e. g (eq_of_sub F a (neg 𝟙) e))
          (by F 𝟙 h (ring F (a ∷ []) (search quote depth 40) refl)))

  module _ {A x b c : E} {i : ℕ} (h : Level F A (suc i) x b c) where
    pub keep : power F b (2 ^ i) ≡ 𝟙 → Level F A i x b (c ⊗ c)
    keep e = record { square = h.square; of_b = e; of_c = power_square F c i ∙ h.of_c }

    pub change : power F b (2 ^ i) ≢ 𝟙 → Level F A i (x ⊗ c) (b ⊗ (c ⊗ c)) (c ⊗ c)
    change f = record {
      square = by F (c ⊗ c) h.square (ring F (A ∷ x ∷ b ∷ c ∷ []) (search quote depth 40) refl);
      of_b = power_of_mul F b (c ⊗ c) (2 ^ i) ∙ ap₂ ◌⊗◌ (other_root (power F b (2 ^ i)) (sym (power_double F b i) ∙ h.of_b) f) (power_square F c i ∙ h.of_c) ∙ ring F [] (search quote depth 40) refl;
      of_c = power_square F c i ∙ h.of_c;
    }

  pub finish : {A x b c : E} → Level F A 0 x b c → x ⊗ x ≡ A
  finish {A} {x} {b} {c} h = by F 𝟙 h.square (by F A (sym (power_first F b) ∙ h.of_b) (ring F (A ∷ x ∷ b ∷ []) (search quote depth 40) refl))

  -- ---- the start, for p - 1 = q 2^(i+1) with q = 2k + 1
  pub begin : (A z : E) (k i : ℕ) → power F A ((2 * k + 1) * 2 ^ i) ≡ 𝟙 → power F z ((2 * k + 1) * 2 ^ i) ≡ neg 𝟙 → Level F A i (power F A (k + 1)) (power F A (2 * k + 1)) (power F z (2 * k + 1))
  begin A z k i ha hz = record {
    square = sym (power_add F A (k + 1) (k + 1)) ∙ ap (power F A) {x = k + 1 + (k + 1)} {y = 1 + (2 * k + 1)} (omega arith) ∙ power_add F A 1 (2 * k + 1) ∙ ap (λ t. t ⊗ power F A (2 * k + 1)) (power_first F A);
    of_b = sym (power_mul F A (2 ^ i) (2 * k + 1)) ∙ ap (power F A) (mul_comm (2 ^ i) (2 * k + 1)) ∙ ha;
    of_c = sym (power_mul F z (2 ^ i) (2 * k + 1)) ∙ ap (power F z) (mul_comm (2 ^ i) (2 * k + 1)) ∙ hz;
  }

  -- ---- the loop, from level i down
  unfoldable pub roots : ℕ → E → E → E → E
  roots zero x b c = x
  roots (suc i) x b c = elim (dec (power F b (2 ^ i)) 𝟙) [ yes e ↦ roots i x b (c ⊗ c) | no f ↦ roots i (x ⊗ c) (b ⊗ (c ⊗ c)) (c ⊗ c) ]

  pub roots_ok : {A : E} (i : ℕ) (x b c : E) → Level F A i x b c → roots i x b c ⊗ roots i x b c ≡ A
  unfolding roots
  roots_ok zero x b c h = finish h
  roots_ok {A} (suc i) x b c h = go (dec (power F b (2 ^ i)) 𝟙) (roots_ok i)
    where
      go : (d : Dec (power F b (2 ^ i) ≡ 𝟙)) → ((x b c : E) → Level F A i x b c → roots i x b c ⊗ roots i x b c ≡ A)
          → elim d [ yes e ↦ roots i x b (c ⊗ c) | no f ↦ roots i (x ⊗ c) (b ⊗ (c ⊗ c)) (c ⊗ c) ] ⊗ elim d [ yes e ↦ roots i x b (c ⊗ c) | no f ↦ roots i (x ⊗ c) (b ⊗ (c ⊗ c)) (c ⊗ c) ] ≡ A
      go (yes e) rec = rec x b (c ⊗ c) (keep h e)
      go (no f) rec = rec (x ⊗ c) (b ⊗ (c ⊗ c)) (c ⊗ c) (change h f)
