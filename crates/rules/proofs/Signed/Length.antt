-- The length of the non-adjacent form. Gives: n > 0 with L digits has 2^L < 3n < 2^(L+1) (`recode-length`); so n has at most k digits exactly when
-- 3n < 2^(k+1) (`at_most`); a number of k bits has at most k + 1 (`at_most_one_more`), and exactly k + 1 when 3n > 2^(k+1) (`one_more`); of 32 bytes
-- `at_most_257` and `exactly_257`.
use Prim.Native.Nat.{ℕ, zero, suc, ◌+◌, ◌*◌, ◌-◌, ◌/◌, ◌^◌, ◌≤◌, ◌<◌}
use mathlib.Core.Path.{◌≡◌, refl, sym, ap, subst}
use mathlib.Core.Logic.{◌↔◌, ◌⊎◌, inl, inr}
use mathlib.Core.List.{List, [], ◌∷◌}
use native.Mathlib.Decide.{dec_lt}
use native.Mathlib.Omega.{arith}
use native.Mathlib.Nat.{pow-suc, eq-zero-or-pos}
use lib.ListN.{length}
use lib.Pow.{pow_pos, pow_mono}
use Rattle.rules.specs.Signed.Digits.{Digit, minus, null, plus, recode}
use Rattle.rules.proofs.Signed.Recode.{Recodes, end, even, one, three, recodes, empty}

pub record Long (n k : ℕ) : Type 0 where
  pub low : 2 ^ k < 3 * n
  pub high : 3 * n < 2 ^ suc k

long : {n : ℕ} {l : List Digit} → 0 < n → Recodes n l → Long n (length l)
long h end = absurd (omega arith)
long h (even {l = l} e p r) = let b = long p r in record { low = omega (arith, b.low, pow-suc 2 (length l)); high = omega (arith, b.high, pow-suc 2 (suc (length l))) }
long h (one {n = n} {m = m} {l = l} k e v r) = go (eq-zero-or-pos m) (λ p. long p r)
  where
    go : (m ≡ 0) ⊎ (0 < m) → (0 < m → Long m (length l)) → Long n (suc (length l))
    go (inl z) rec = subst (λ (i : ℕ). Long n (suc i)) (sym (ap length (empty z r))) (record { low = omega arith; high = omega arith })
    go (inr p) rec = let b = rec p in record { low = omega (arith, b.low, pow-suc 2 (length l)); high = omega (arith, b.high, pow-suc 2 (length l), pow-suc 2 (suc (length l))) }
long h (three {n = n} {m = m} {l = l} k e v r) = go (length l) (long (omega arith) r)
  where
    go : (i : ℕ) → Long m i → Long n (suc i)
    go zero b = absurd (omega (arith, b.high))
    go (suc i) b = record { low = omega (arith, b.low, pow-suc 2 i, pow-suc 2 (suc i)); high = omega (arith, b.high, pow-suc 2 (suc (suc i))) }

pub recode-length : (n : ℕ) → 0 < n → Long n (length (recode n))
recode-length n p = long p (recodes n)

pub at_most : (n k : ℕ) → (length (recode n) ≤ k) ↔ (3 * n < 2 ^ suc k)
at_most n k = go (eq-zero-or-pos n)
  where
    go : (n ≡ 0) ⊎ (0 < n) → (length (recode n) ≤ k) ↔ (3 * n < 2 ^ suc k)
    go (inl z) = (λ h. omega (arith, pow_pos (suc k)), λ h. omega (arith, ap length (empty z (recodes n))))
    go (inr p) = (to, λ h. back h (dec_lt k (length (recode n))))
      where
        to : length (recode n) ≤ k → 3 * n < 2 ^ suc k
        to h = let s : suc (length (recode n)) ≤ suc k = omega arith in omega (arith, (recode-length n p).high, pow_mono s)

        back : 3 * n < 2 ^ suc k → Dec (k < length (recode n)) → length (recode n) ≤ k
        back h (yes l) = absurd (omega (arith, (recode-length n p).low, pow_mono l))
        back h (no l) = omega arith

pub at_most_one_more : (n k : ℕ) → n < 2 ^ k → length (recode n) ≤ suc k
at_most_one_more n k h = (at_most n (suc k)).1 (omega (arith, pow-suc 2 k, pow-suc 2 (suc k)))

pub one_more : (n k : ℕ) → n < 2 ^ k → (length (recode n) ≡ suc k) ↔ (2 ^ suc k < 3 * n)
one_more n k h = (to, back)
  where
    to : length (recode n) ≡ suc k → 2 ^ suc k < 3 * n
    to e = go (eq-zero-or-pos n)
      where
        go : (n ≡ 0) ⊎ (0 < n) → 2 ^ suc k < 3 * n
        go (inl z) = absurd (omega (arith, ap length (empty z (recodes n))))
        go (inr p) = subst (λ (i : ℕ). 2 ^ i < 3 * n) e (recode-length n p).low

    back : 2 ^ suc k < 3 * n → length (recode n) ≡ suc k
    back l = go (dec_lt k (length (recode n)))
      where
        go : Dec (k < length (recode n)) → length (recode n) ≡ suc k
        go (yes m) = omega (arith, at_most_one_more n k h)
        go (no m) = absurd (omega (arith, (at_most n k).0 (omega arith)))

-- ---- 32 bytes: at most 257 digits, and 257 from (2^257 - 2) / 3 + 1 on
pub at_most_257 : (n : ℕ) → n < 2 ^ 256 → length (recode n) ≤ 257
at_most_257 n h = at_most_one_more n 256 h

-- (of any x and its third y, since `omega` has no room for such numbers)
thrice : (x y n : ℕ) → 3 * y + 2 ≡ x → (x < 3 * n) ↔ (y < n)
thrice x y n e = (λ l. omega arith, λ l. omega arith)

pub exactly_257 : (n : ℕ) → n < 2 ^ 256 → (length (recode n) ≡ 257) ↔ ((2 ^ 257 - 2) / 3 < n)
exactly_257 n h = let e = one_more n 256 h in let t = thrice (2 ^ 257) ((2 ^ 257 - 2) / 3) n refl in (λ l. t.0 (e.0 l), λ m. e.1 (t.1 m))

-- 11 = 16 - 4 - 1
example_11 : recode 11 ≡ minus ∷ null ∷ minus ∷ null ∷ plus ∷ []
unfolding recode
example_11 = refl
