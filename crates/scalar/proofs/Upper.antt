-- What the digits from place k on weigh, of digits kept as numbers. Gives: a digit read (`read_at`, `past`, `plus_else`); their weight with digit k - 1 (`upper-more`); of the non-adjacent form of n, 1 at its last place (`upper_first`) and n in all (`upper_all`).
use Prim.Native.Nat.{ℕ, zero, suc, ◌-◌, ◌≤◌, ◌<◌}
use mathlib.Core.Path.{◌≡◌, refl, sym, ap, ◌∙◌}
use mathlib.Core.Logic.{◌≢◌}
use mathlib.Core.List.{List, [], ◌∷◌}
use native.Mathlib.Omega.{arith}
use lib.ListN.{length, get_or, drop}
use lib.IntN.{pos, ◌+ℤ◌}
use Rattle.rules.specs.Signed.Digits.{Digit, null, plus, value, weight, recode}
use Rattle.rules.proofs.Signed.Recode.{recode-weight, recode-top}
use Rattle.rules.proofs.Signed.Unique.{recode-zero}
use Rattle.rules.proofs.Signed.Places.{weight_at, same_places, last-place}
use Rattle.scalar.specs.declared.Digits.{Digits}
use Rattle.scalar.specs.Recoded.{digit, digits, upper, Recoded}

pub read_at : (d : List ℕ) (k : ℕ) → k < length d → get_or (digits d) k null ≡ digit (get_or d k 0)
read_at [] k l = absurd (omega arith)
read_at (x ∷ d) zero l = refl
read_at (x ∷ d) (suc k) l = read_at d k (omega arith)

pub past : (d : List ℕ) (k : ℕ) → length d ≤ k → get_or (digits d) k null ≡ null
past [] k l = refl
past (x ∷ d) zero l = absurd (omega arith)
past (x ∷ d) (suc k) l = past d k (omega arith)

pub plus_else : (b : ℕ) → b ≢ 0 → b ≢ 1 → digit b ≡ plus
plus_else zero h k = absurd (h refl)
plus_else (suc zero) h k = absurd (k refl)
plus_else (suc (suc b)) h k = refl

pub upper-more : (d : List ℕ) (k : ℕ) → 0 < k → k ≤ length d → value (digit (get_or d (k - 1) 0)) +ℤ (upper d k +ℤ upper d k) ≡ upper d (k - 1)
upper-more d k some l = sym (weight_at (digits d) (k - 1) ∙ ap (λ (e : Digit). value e +ℤ (upper d (suc (k - 1)) +ℤ upper d (suc (k - 1)))) (read_at d (k - 1) (omega arith))
    ∙ ap (λ (j : ℕ). value (digit (get_or d (k - 1) 0)) +ℤ (upper d j +ℤ upper d j)) {x = suc (k - 1)} {y = k} (omega arith))

module _ (n : ℕ) (r : Digits) (h : Recoded n r) where
  pub upper_all : upper r.at 0 ≡ pos n
  upper_all = same_places (digits r.at) (recode n) h.places 0 ∙ recode-weight n

  pub upper_first : 0 < r.length → upper r.at (r.length - 1) ≡ pos 1
  upper_first some = same_places (digits r.at) (recode n) h.places (r.length - 1) ∙ ap (λ (j : ℕ). weight (drop (j - 1) (recode n))) h.length_is
      ∙ ap weight (last-place (recode n) (omega (arith, h.length_is))) ∙ ap (λ (e : Digit). weight (e ∷ [])) (recode-top n (positive n refl))
    where
      positive : (m : ℕ) → n ≡ m → 0 < n
      positive zero e = absurd (omega (arith, h.length_is, ap (λ (i : ℕ). length (recode i)) e ∙ ap length recode-zero))
      positive (suc m) e = omega arith
