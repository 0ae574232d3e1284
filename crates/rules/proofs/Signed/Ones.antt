-- The counts of the non-adjacent form, by n and 3n in binary. Gives: the nonzero digits are the ones of 3n xor n (`recode_ones`), and there are as many digits as there are places below the highest one of 3n (`recode-places`).
use Prim.Native.Nat.{ℕ, zero, suc, ◌+◌, ◌*◌, ◌/◌, ◌%◌, ◌^◌, ◌≤◌, ◌<◌}
use mathlib.Core.Path.{◌≡◌, refl, sym, ap, ap₂, ◌∙◌}
use mathlib.Core.List.{List}
use native.Mathlib.Decide.{dec_lt}
use native.Mathlib.Omega.{arith}
use native.Mathlib.Nat.{zero-add}
use lib.ListN.{length}
use lib.Pow.{pow_mono}
use lib.Bits.{bit_xor, differ, xor_step}
use lib.Count.{ones, ones_step}
use Rattle.rules.specs.Signed.Digits.{Digit, nonzeros, recode}
use Rattle.rules.proofs.Signed.Recode.{Recodes, end, even, one, three, recodes}
use Rattle.rules.proofs.Signed.Length.{recode-length}

-- how many digits of x and y differ
abbrev apart : ℕ → ℕ → ℕ
apart x y = ones (bit_xor x y)

differ_bit : (a b : ℕ) → a ≤ 1 → b ≤ 1 → differ a b ≤ 1
differ_bit zero b h k = k
differ_bit (suc zero) zero h k = omega arith
differ_bit (suc zero) (suc b) h k = omega arith
differ_bit (suc (suc a)) b h k = absurd (omega arith)

-- the lowest digits, and the rest
apart-step : (x y : ℕ) → apart x y ≡ differ (x % 2) (y % 2) + apart (x / 2) (y / 2)
apart-step x y = ones_step (bit_xor x y) ∙ ap₂ (λ (a b : ℕ). a + ones b) both.0 both.1
  where
    split : (z q d : ℕ) → z ≡ q * 2 + d → d ≤ 1 → (z % 2 ≡ d) × (z / 2 ≡ q)
    split z q d e l = (omega arith, omega arith)

    both : (bit_xor x y % 2 ≡ differ (x % 2) (y % 2)) × (bit_xor x y / 2 ≡ bit_xor (x / 2) (y / 2))
    both = split (bit_xor x y) (bit_xor (x / 2) (y / 2)) (differ (x % 2) (y % 2)) (xor_step x y) (differ_bit (x % 2) (y % 2) (omega arith) (omega arith))

-- of numbers whose halves are a and b, and whose lowest digits are d and e
low : (x y a b d e : ℕ) → x ≡ 2 * a + d → y ≡ 2 * b + e → d ≤ 1 → e ≤ 1 → apart x y ≡ differ d e + apart a b
low x y a b d e h k l m = apart-step x y ∙ ap₂ (λ (i j : ℕ). differ i j + apart (x / 2) (y / 2)) {x = x % 2} {y = d} {u = y % 2} {v = e} (omega arith) (omega arith)
    ∙ ap₂ (λ (i j : ℕ). differ d e + apart i j) {x = x / 2} {y = a} {u = y / 2} {v = b} (omega arith) (omega arith)

alike : (x y a b d : ℕ) → x ≡ 2 * a + d → y ≡ 2 * b + d → d ≤ 1 → apart x y ≡ apart a b
alike x y a b zero h k l = low x y a b 0 0 h k (omega arith) (omega arith) ∙ zero-add (apart a b)
alike x y a b (suc zero) h k l = low x y a b 1 1 h k (omega arith) (omega arith) ∙ zero-add (apart a b)
alike x y a b (suc (suc d)) h k l = absurd (omega arith)

unlike : (x y a b d e : ℕ) → x ≡ 2 * a + d → y ≡ 2 * b + e → d + e ≡ 1 → apart x y ≡ suc (apart a b)
unlike x y a b zero zero h k l = absurd (omega arith)
unlike x y a b zero (suc zero) h k l = omega (arith, low x y a b 0 1 h k (omega arith) (omega arith))
unlike x y a b zero (suc (suc e)) h k l = absurd (omega arith)
unlike x y a b (suc zero) zero h k l = omega (arith, low x y a b 1 0 h k (omega arith) (omega arith))
unlike x y a b (suc zero) (suc e) h k l = absurd (omega arith)
unlike x y a b (suc (suc d)) e h k l = absurd (omega arith)

-- 1 more than both
shifted : (f k : ℕ) → k ≤ f → apart (3 * k + 2) k ≡ apart (3 * k + 3) (k + 1)
shifted zero k l = ap (λ (k : ℕ). apart (3 * k + 2) k) {x = k} {y = 0} (omega arith) ∙ none ∙ ap (λ (k : ℕ). apart (3 * k + 3) (k + 1)) {x = 0} {y = k} (omega arith)
  where
    none : apart 2 0 ≡ apart 3 1
    none = alike 2 0 1 0 0 (omega arith) (omega arith) (omega arith) ∙ sym (alike 3 1 1 0 1 (omega arith) (omega arith) (omega arith))
shifted (suc f) k l = go (k % 2) refl (shifted f (k / 2))
  where
    go : (r : ℕ) → k % 2 ≡ r → (k / 2 ≤ f → apart (3 * (k / 2) + 2) (k / 2) ≡ apart (3 * (k / 2) + 3) (k / 2 + 1)) → apart (3 * k + 2) k ≡ apart (3 * k + 3) (k + 1)
    go zero e rec = alike (3 * k + 2) k (3 * (k / 2) + 1) (k / 2) 0 (omega arith) (omega arith) (omega arith)
        ∙ sym (alike (3 * k + 3) (k + 1) (3 * (k / 2) + 1) (k / 2) 1 (omega arith) (omega arith) (omega arith))
    go (suc r) e rec = alike (3 * k + 2) k (3 * (k / 2) + 2) (k / 2) 1 (omega arith) (omega arith) (omega arith) ∙ rec (omega arith)
        ∙ sym (alike (3 * k + 3) (k + 1) (3 * (k / 2) + 3) (k / 2 + 1) 0 (omega arith) (omega arith) (omega arith))

-- ---- by the digits of the form
-- twice both
doubled : (m : ℕ) → apart (3 * (2 * m)) (2 * m) ≡ apart (3 * m) m
doubled m = alike (3 * (2 * m)) (2 * m) (3 * m) m 0 (omega arith) (omega arith) (omega arith)

of_form : {n : ℕ} {l : List Digit} → Recodes n l → nonzeros l ≡ apart (3 * n) n
unfolding ones
of_form end = refl
of_form (even {n = n} {m = m} e p r) = of_form r ∙ sym (doubled m) ∙ ap (λ (i : ℕ). apart (3 * i) i) (sym e)
of_form (one {n = n} {m = m} k e v r) = ap suc (of_form r ∙ ap (λ (i : ℕ). apart (3 * i) i) v ∙ doubled k)
    ∙ sym (unlike (6 * k + 1) (2 * k) (3 * k) k 1 0 (omega arith) (omega arith) (omega arith)) ∙ sym (alike (3 * n) n (6 * k + 1) (2 * k) 1 (omega arith) (omega arith) (omega arith))
of_form (three {n = n} {m = m} k e v r) = ap suc (of_form r ∙ ap (λ (i : ℕ). apart (3 * i) i) {x = m} {y = 2 * (k + 1)} (omega arith) ∙ doubled (k + 1) ∙ ap (λ (i : ℕ). apart i (k + 1)) {x = 3 * (k + 1)} {y = 3 * k + 3} (omega arith) ∙ sym (shifted k k (omega arith)))
    ∙ sym (unlike (6 * k + 4) (2 * k + 1) (3 * k + 2) k 0 1 (omega arith) (omega arith) (omega arith)) ∙ sym (alike (3 * n) n (6 * k + 4) (2 * k + 1) 1 (omega arith) (omega arith) (omega arith))

pub recode_ones : (n : ℕ) → nonzeros (recode n) ≡ ones (bit_xor (3 * n) n)
recode_ones n = of_form (recodes n)

-- ---- how many digits there are
pub recode-places : (n k : ℕ) → 0 < n → 2 ^ k ≤ 3 * n → 3 * n < 2 ^ suc k → length (recode n) ≡ k
recode-places n k p low high = go (dec_lt (length (recode n)) k) (dec_lt k (length (recode n)))
  where
    go : Dec (length (recode n) < k) → Dec (k < length (recode n)) → length (recode n) ≡ k
    go (yes l) d = absurd (omega (arith, low, (recode-length n p).high, pow_mono l))
    go (no l) (yes h) = absurd (omega (arith, high, (recode-length n p).low, pow_mono h))
    go (no l) (no h) = omega arith
