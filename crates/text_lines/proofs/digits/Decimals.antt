-- Numbers as digits. Gives: a decimal and a hexadecimal number digit by digit, whatever bound on its digits it was made by, and how many digits they have.
use Prim.Native.Nat.{ℕ, zero, suc, ◌-◌, ◌/◌, ◌%◌, ◌^◌, ◌≤◌, ◌<◌}
use mathlib.Core.Path.{◌≡◌, refl, sym, ap, ◌∙◌}
use mathlib.Core.List.{List, [], ◌∷◌, ◌++◌}
use mathlib.Core.Bool.{Bool, true, false}
use native.Mathlib.Omega.{arith}
use native.Mathlib.Nat.{pow-suc}
use borrow.Author.Tests.{lt-ltb, le-ltb, ltb-true, ltb-false}
use lib.Dec.{ltb}
use lib.ListN.{length, length-append}
use Rattle.text_lines.specs.digits.Digits.{digit, decimal_by, decimal, hex}

-- ---- decimal: one digit, or one more
module _ (most n : ℕ) where
  abbrev by : Bool → List ℕ
  by t = elim t [ true ↦ digit n ∷ [] | false ↦ decimal_by most (n / 10) ++ (digit (n % 10) ∷ []) ]

  by_small : n < 10 → decimal_by (suc most) n ≡ digit n ∷ []
  unfolding decimal_by
  by_small h = ap by (lt-ltb n 10 h)

  by_large : 10 ≤ n → decimal_by (suc most) n ≡ decimal_by most (n / 10) ++ (digit (n % 10) ∷ [])
  unfolding decimal_by
  by_large h = ap by (le-ltb n 10 h)

-- any bound above n gives the same digits
enough : (f g n : ℕ) → n < f → n < g → decimal_by f n ≡ decimal_by g n
enough zero g n h k = absurd (omega arith)
enough (suc f) zero n h k = absurd (omega arith)
enough (suc f) (suc g) n h k = go (ltb n 10) refl (λ l. enough f g (n / 10) (omega arith) (omega arith))
  where
    go : (t : Bool) → ltb n 10 ≡ t → (10 ≤ n → decimal_by f (n / 10) ≡ decimal_by g (n / 10)) → decimal_by (suc f) n ≡ decimal_by (suc g) n
    go true e rec = let l : n < 10 = ltb-true n 10 e in by_small f n l ∙ sym (by_small g n l)
    go false e rec = let l : 10 ≤ n = ltb-false n 10 e in by_large f n l ∙ ap (λ (x : List ℕ). x ++ (digit (n % 10) ∷ [])) (rec l) ∙ sym (by_large g n l)

pub decimal-small : (n : ℕ) → n < 10 → decimal n ≡ digit n ∷ []
unfolding decimal
decimal-small n h = by_small n n h

pub decimal_large : (n : ℕ) → 10 ≤ n → decimal n ≡ decimal (n / 10) ++ (digit (n % 10) ∷ [])
unfolding decimal
decimal_large n h = by_large n n h ∙ ap (λ (x : List ℕ). x ++ (digit (n % 10) ∷ [])) (enough n (suc (n / 10)) (n / 10) (omega arith) (omega arith))

pub hex-more : (k x : ℕ) → (k ≡ 0 → ⊥) → hex k x ≡ hex (k - 1) (x / 16) ++ (digit (x % 16) ∷ [])
unfolding hex
hex-more zero x h = absurd (h refl)
hex-more (suc k) x h = ap (λ (n : ℕ). hex n (x / 16) ++ (digit (x % 16) ∷ [])) {x = k} {y = suc k - 1} (omega arith)

pub hex-none : (k x : ℕ) → k ≡ 0 → hex k x ≡ []
unfolding hex
hex-none k x e = ap (λ (n : ℕ). hex n x) e

-- ---- how many
pub length-hex : (k x : ℕ) → length (hex k x) ≡ k
unfolding hex
length-hex zero x = refl
length-hex (suc k) x = length-append (hex k (x / 16)) (digit (x % 16) ∷ []) ∙ omega (arith, length-hex k (x / 16))

digits-below : (k n : ℕ) → n < 10 ^ suc k → length (decimal n) ≤ suc k
digits-below zero n h = omega (arith, ap length (decimal-small n h))
digits-below (suc k) n h = go (ltb n 10) refl (λ l. digits-below k (n / 10) l)
  where
    go : (t : Bool) → ltb n 10 ≡ t → (n / 10 < 10 ^ suc k → length (decimal (n / 10)) ≤ suc k) → length (decimal n) ≤ suc (suc k)
    go true e rec = omega (arith, ap length (decimal-small n (ltb-true n 10 e)))
    go false e rec = omega (arith, ap length (decimal_large n (ltb-false n 10 e)), length-append (decimal (n / 10)) (digit (n % 10) ∷ []), rec (omega (arith, pow-suc 10 (suc k))))

abbrev pub Word : ℕ → Type 0
Word n = n < 18446744073709551616

pub decimal-short : (n : ℕ) → Word n → length (decimal n) ≤ 20
decimal-short n h = digits-below 19 n (omega arith)
