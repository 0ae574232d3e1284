-- Digits say the number that they were made of: a decimal read back is its number and has no leading zero, and k hexadecimal digits read back
-- are a number below 16^k.
use Prim.Native.Nat.{ℕ, zero, suc, ◌+◌, ◌-◌, ◌*◌, ◌/◌, ◌%◌, ◌^◌, ◌≤◌, ◌<◌}
use mathlib.Core.Path.{◌≡◌, refl, ap, ◌∙◌}
use mathlib.Core.List.{List, [], ◌∷◌, ◌++◌, foldl}
use mathlib.Core.Bool.{Bool, true, false, cond}
use native.Mathlib.Omega.{arith}
use native.Mathlib.Nat.{pow-suc}
use borrow.Author.Tests.{lt-ltb, le-ltb, ltb-true, ltb-false}
use lib.Dec.{ltb}
use lib.ListN.{get_or}
use Rattle.text_lines.specs.digits.Digits.{digit, decimal, hex}
use Rattle.text_lines.proofs.digits.Decimals.{decimal-small, decimal_large}

-- what a letter says, and what letters say in a base
abbrev pub said : ℕ → ℕ
said l = cond (ltb l 58) (l - 48) (l - 87)

pub number_in : ℕ → List ℕ → ℕ
number_in base s = foldl (λ (n l : ℕ). base * n + said l) 0 s

said_digit : (d : ℕ) → d < 16 → said (digit d) ≡ d
unfolding digit
said_digit d h = go (ltb d 10) refl
  where
    go : (t : Bool) → ltb d 10 ≡ t → said (cond t (48 + d) (87 + d)) ≡ d
    go true e = let l : d < 10 = ltb-true d 10 e in rw (lt-ltb (48 + d) 58 (omega arith)) (omega arith)
    go false e = let l : 10 ≤ d = ltb-false d 10 e in rw (le-ltb (87 + d) 58 (omega arith)) (omega arith)

foldl_more : (f : ℕ → ℕ → ℕ) (a : ℕ) (s : List ℕ) (x : ℕ) → foldl f a (s ++ (x ∷ [])) ≡ f (foldl f a s) x
foldl_more f a [] x = refl
foldl_more f a (y ∷ s) x = foldl_more f (f a y) s x

number_more : (base : ℕ) (s : List ℕ) (d : ℕ) → d < 16 → number_in base (s ++ (digit d ∷ [])) ≡ base * number_in base s + d
unfolding number_in
number_more base s d h = foldl_more (λ (n l : ℕ). base * n + said l) 0 s (digit d) ∙ ap (λ (x : ℕ). base * number_in base s + x) (said_digit d h)

-- ---- decimal
module _ (P : ℕ → Type 0) (small : (n : ℕ) → n < 10 → P n) (large : (n : ℕ) → 10 ≤ n → P (n / 10) → P n) where
  below : (k n : ℕ) → n < k → P n
  below zero n h = absurd (omega arith)
  below (suc k) n h = go (ltb n 10) refl (λ l. below k (n / 10) (omega arith))
    where
      go : (t : Bool) → ltb n 10 ≡ t → (10 ≤ n → P (n / 10)) → P n
      go true e rec = small n (ltb-true n 10 e)
      go false e rec = let l : 10 ≤ n = ltb-false n 10 e in large n l (rec l)

  -- digit by digit
  by_tenths : (n : ℕ) → P n
  by_tenths n = below (suc n) n (omega arith)

nought : (n : ℕ) → 10 * number_in 10 [] + n ≡ n
unfolding number_in
nought n = omega arith

pub decimal-value : (n : ℕ) → number_in 10 (decimal n) ≡ n
decimal-value = by_tenths (λ n. number_in 10 (decimal n) ≡ n)
    (λ n h. ap (number_in 10) (decimal-small n h) ∙ number_more 10 [] n (omega arith) ∙ nought n)
    (λ n h rec. ap (number_in 10) (decimal_large n h) ∙ number_more 10 (decimal (n / 10)) (n % 10) (omega arith) ∙ omega (arith, rec))

-- 48 is `0`
one : (n : ℕ) → n < 10 → 0 < n → 48 < get_or (decimal n) 0 0
unfolding digit
one n h p = rw (decimal-small n h, lt-ltb n 10 h) (omega arith)

pub no_leading_zero : (n : ℕ) → 0 < n → 48 < get_or (decimal n) 0 0
no_leading_zero = by_tenths (λ n. 0 < n → 48 < get_or (decimal n) 0 0) one more
  where
    first : (x y : List ℕ) → 48 < get_or x 0 0 → 48 < get_or (x ++ y) 0 0
    first [] y h = absurd (omega arith)
    first (a ∷ x) y h = h

    more : (n : ℕ) → 10 ≤ n → (0 < n / 10 → 48 < get_or (decimal (n / 10)) 0 0) → 0 < n → 48 < get_or (decimal n) 0 0
    more n h rec p = rw (decimal_large n h) (first (decimal (n / 10)) (digit (n % 10) ∷ []) (rec (omega arith)))

-- ---- hexadecimal
pub hex-value : (k x : ℕ) → x < 16 ^ k → number_in 16 (hex k x) ≡ x
unfolding hex number_in
hex-value zero x h = omega arith
hex-value (suc k) x h = number_more 16 (hex k (x / 16)) (x % 16) (omega arith) ∙ omega (arith, hex-value k (x / 16) (omega (arith, pow-suc 16 k)))
