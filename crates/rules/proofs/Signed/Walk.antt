-- The non-adjacent form from the bits of n, the lowest first, with a carry c of 0 or 1. Gives: what a walk keeps (`Walked`): the digits of n from k on are those of n / 2^k + c; how it begins and goes on
-- by the bits k and k + 1 (`begin`, `digit_at`, `next`).
-- Open: `Walked`.
use Prim.Native.Nat.{ℕ, zero, suc, ◌+◌, ◌*◌, ◌/◌, ◌%◌, ◌^◌, ◌≤◌}
use mathlib.Core.Path.{◌≡◌, sym, ap, ap₂, ◌∙◌}
use mathlib.Core.List.{List}
use native.Mathlib.Omega.{arith}
use native.Mathlib.Nat.{mul-add-mod_self_left, div-one}
use lib.ListN.{get_or, drop}
use lib.Seq.{get_or-drop, drop-drop}
use lib.Pow.{shr-shr}
use Rattle.rules.specs.Signed.Digits.{Digit, null, of_four, less, recode}
use Rattle.rules.proofs.Signed.Unique.{recode-zero, recode-step}

-- ---- the lowest digit of n + c, and what it leaves, by the two lowest bits of n
bit_cases : (P : ℕ → Type 0) (b : ℕ) → b ≤ 1 → P 0 → P 1 → P b
bit_cases P zero l x y = x
bit_cases P (suc zero) l x y = y
bit_cases P (suc (suc b)) l x y = absurd (omega arith)

-- n = 4h + 2 b₁ + b₀
left : (h b₀ b₁ c n : ℕ) → b₀ ≤ 1 → b₁ ≤ 1 → c ≤ 1 → n ≡ 4 * h + (2 * b₁ + b₀) → less (of_four ((2 * b₁ + b₀ + c) % 4)) (n + c) ≡ n / 2 + (b₀ + b₁ + c) / 2
left h b₀ b₁ c n h₀ h₁ hc =
    bit_cases (λ b₀. n ≡ 4 * h + (2 * b₁ + b₀) → less (of_four ((2 * b₁ + b₀ + c) % 4)) (n + c) ≡ n / 2 + (b₀ + b₁ + c) / 2) b₀ h₀
    (bit_cases (λ b₁. n ≡ 4 * h + (2 * b₁ + 0) → less (of_four ((2 * b₁ + 0 + c) % 4)) (n + c) ≡ n / 2 + (0 + b₁ + c) / 2) b₁ h₁
    (bit_cases (λ c. n ≡ 4 * h + 0 → less (of_four ((0 + c) % 4)) (n + c) ≡ n / 2 + (0 + c) / 2) c hc (λ e. omega arith) (λ e. omega arith))
    (bit_cases (λ c. n ≡ 4 * h + 2 → less (of_four ((2 + c) % 4)) (n + c) ≡ n / 2 + (1 + c) / 2) c hc (λ e. omega arith) (λ e. omega arith)))
    (bit_cases (λ b₁. n ≡ 4 * h + (2 * b₁ + 1) → less (of_four ((2 * b₁ + 1 + c) % 4)) (n + c) ≡ n / 2 + (1 + b₁ + c) / 2) b₁ h₁
    (bit_cases (λ c. n ≡ 4 * h + 1 → less (of_four ((1 + c) % 4)) (n + c) ≡ n / 2 + (1 + c) / 2) c hc (λ e. omega arith) (λ e. omega arith))
    (bit_cases (λ c. n ≡ 4 * h + 3 → less (of_four ((3 + c) % 4)) (n + c) ≡ n / 2 + (2 + c) / 2) c hc (λ e. omega arith) (λ e. omega arith)))

module _ (n c : ℕ) (small : c ≤ 1) where
  carry_digit : of_four ((n + c) % 4) ≡ of_four ((2 * (n / 2 % 2) + n % 2 + c) % 4)
  carry_digit = ap of_four (ap (λ (t : ℕ). t % 4) {x = n + c} {y = 4 * (n / 2 / 2) + (2 * (n / 2 % 2) + n % 2 + c)} (omega arith) ∙ mul-add-mod_self_left 4 (n / 2 / 2) (2 * (n / 2 % 2) + n % 2 + c))

  carry_rest : less (of_four ((n + c) % 4)) (n + c) ≡ n / 2 + (n % 2 + n / 2 % 2 + c) / 2
  carry_rest = ap (λ (d : Digit). less d (n + c)) carry_digit ∙ left (n / 2 / 2) (n % 2) (n / 2 % 2) c n (omega arith) (omega arith) small (omega arith)

-- ---- the lowest digit of a form, of none for 0 too, and the others
first : (m : ℕ) → (get_or (recode m) 0 null ≡ of_four (m % 4)) × (drop 1 (recode m) ≡ recode (less (of_four (m % 4)) m))
first zero = (ap (λ (l : List Digit). get_or l 0 null) recode-zero, ap (drop 1) recode-zero ∙ sym recode-zero)
first (suc m) = let e = recode-step (suc m) (omega arith) in (ap (λ (l : List Digit). get_or l 0 null) e, ap (drop 1) e)

pub record Walked (n k c : ℕ) : Type 0 where
  pub small : c ≤ 1
  pub rest : drop k (recode n) ≡ recode (n / 2 ^ k + c)

pub begin : (n : ℕ) → Walked n 0 0
begin n = record { small = omega arith; rest = ap recode {x = n} {y = n / 2 ^ 0 + 0} (omega (arith, div-one n)) }

module _ (n k c b₀ b₁ : ℕ) (w : Walked n k c) (e₀ : b₀ ≡ n / 2 ^ k % 2) (e₁ : b₁ ≡ n / 2 ^ suc k % 2) where
  half : n / 2 ^ suc k ≡ n / 2 ^ k / 2
  half = sym (shr-shr n k 1 ∙ ap (λ (j : ℕ). n / 2 ^ j) {x = k + 1} {y = suc k} (omega arith))

  bit : b₁ ≡ n / 2 ^ k / 2 % 2
  bit = e₁ ∙ ap (λ (t : ℕ). t % 2) half

  pub digit_at : get_or (recode n) k null ≡ of_four ((2 * b₁ + b₀ + c) % 4)
  digit_at = ap (λ (j : ℕ). get_or (recode n) j null) {x = k} {y = k + 0} (omega arith) ∙ sym (get_or-drop k (recode n) 0 null) ∙ ap (λ (l : List Digit). get_or l 0 null) w.rest
      ∙ (first (n / 2 ^ k + c)).0 ∙ carry_digit (n / 2 ^ k) c w.small ∙ ap₂ (λ (x y : ℕ). of_four ((2 * x + y + c) % 4)) (sym bit) (sym e₀)

  pub next : Walked n (suc k) ((b₀ + b₁ + c) / 2)
  next = record {
    small = omega (arith, w.small);
    rest = ap (λ (j : ℕ). drop j (recode n)) {x = suc k} {y = k + 1} (omega arith) ∙ sym (drop-drop 1 k (recode n)) ∙ ap (drop 1) w.rest ∙ (first (n / 2 ^ k + c)).1
        ∙ ap recode (carry_rest (n / 2 ^ k) c w.small ∙ ap₂ (λ (x y : ℕ). x + y) (sym half) (ap₂ (λ (x y : ℕ). (x + y + c) / 2) (sym e₀) (sym bit)));
  }
