-- What the non-adjacent form of a number is. Gives: its digits weigh n with their signs (`recode-weight`), no two neighbours are both nonzero (`recode-apart`), it has no leading zero
-- (`recode_topped`), and the highest digit of n > 0 is 1 (`recode-top`).
use Prim.Native.Nat.{ℕ, zero, suc, ◌+◌, ◌*◌, ◌-◌, ◌/◌, ◌%◌, ◌≤◌, ◌<◌}
use mathlib.Core.Path.{◌≡◌, refl, ap, subst}
use mathlib.Core.List.{List, [], ◌∷◌, cons≢nil}
use mathlib.Core.Logic.{◌⊎◌, inl, inr}
use native.Mathlib.Omega.{arith}
use native.Mathlib.Nat.{eq-zero-or-pos}
use lib.IntN.{pos}
use Rattle.rules.specs.Signed.Digits.{Digit, minus, null, plus, weight, Null, NullFirst, Apart, top, Topped, of_four, less, recode_in, recode}
use Rattle.rules.proofs.Signed.Weights.{Weighs, weighs-weight}

-- ---- the same, without the bound: l are the digits of n
pub data Recodes : ℕ → List Digit → Type 0 where
  end : Recodes 0 []
  even : {n m : ℕ} {l : List Digit} → n ≡ 2 * m → 0 < m → Recodes m l → Recodes n (null ∷ l)
  one : {n m : ℕ} {l : List Digit} (k : ℕ) → n ≡ 4 * k + 1 → m ≡ 2 * k → Recodes m l → Recodes n (plus ∷ l)
  three : {n m : ℕ} {l : List Digit} (k : ℕ) → n ≡ 4 * k + 3 → m ≡ 2 * k + 2 → Recodes m l → Recodes n (minus ∷ l)

pub recodes_in : (f n : ℕ) → n ≤ f → Recodes n (recode_in f n)
unfolding recode_in
recodes_in zero zero h = end
recodes_in zero (suc n) h = absurd (omega arith)
recodes_in (suc f) zero h = end
recodes_in (suc f) (suc n) h = go (suc n % 4) refl (recodes_in f)
  where
    go : (r : ℕ) → suc n % 4 ≡ r → ((m : ℕ) → m ≤ f → Recodes m (recode_in f m)) → Recodes (suc n) (of_four r ∷ recode_in f (less (of_four r) (suc n)))
    go zero e rec = even {n = suc n} {m = suc n / 2} (omega arith) (omega arith) (rec (suc n / 2) (omega arith))
    go (suc zero) e rec = one {n = suc n} {m = (suc n - 1) / 2} (suc n / 4) (omega arith) (omega arith) (rec ((suc n - 1) / 2) (omega arith))
    go (suc (suc zero)) e rec = even {n = suc n} {m = suc n / 2} (omega arith) (omega arith) (rec (suc n / 2) (omega arith))
    go (suc (suc (suc r))) e rec = three {n = suc n} {m = (suc n + 1) / 2} (suc n / 4) (omega arith) (omega arith) (rec ((suc n + 1) / 2) (omega arith))

pub recodes : (n : ℕ) → Recodes n (recode n)
unfolding recode
recodes n = recodes_in n n (omega arith)

-- ---- what they are
pub weighs : {n : ℕ} {l : List Digit} → Recodes n l → Weighs l n
weighs end = refl
weighs (even e p r) = omega (arith, weighs r)
weighs (one k e v r) = omega (arith, weighs r)
weighs (three k e v r) = omega (arith, weighs r)

null_first : {n : ℕ} {l : List Digit} (i : ℕ) → n ≡ 2 * i → Recodes n l → NullFirst l
null_first i h end = tt
null_first i h (even e p r) = tt
null_first i h (one k e v r) = omega arith
null_first i h (three k e v r) = omega arith

pub apart : {n : ℕ} {l : List Digit} → Recodes n l → Apart l
apart end = tt
apart (even e p r) = apart r
apart (one k e v r) = (null_first k v r, apart r)
apart (three k e v r) = (null_first (suc k) (omega arith) r, apart r)

top-cons : (d : Digit) (l : List Digit) → top l ≡ plus → top (d ∷ l) ≡ plus
top-cons d [] h = absurd (subst Null h tt)
top-cons d (e ∷ l) h = h

pub empty : {n : ℕ} {l : List Digit} → n ≡ 0 → Recodes n l → l ≡ []
empty h end = refl
empty h (even e p r) = absurd (omega arith)
empty h (one k e v r) = absurd (omega arith)
empty h (three k e v r) = absurd (omega arith)

top_plus : {n : ℕ} {l : List Digit} → 0 < n → Recodes n l → top l ≡ plus
top_plus h end = absurd (omega arith)
top_plus h (even {l = l} e p r) = top-cons null l (top_plus p r)
top_plus h (one {m = m} {l = l} k e v r) = go (eq-zero-or-pos m) (λ p. top_plus p r)
  where
    go : (m ≡ 0) ⊎ (0 < m) → (0 < m → top l ≡ plus) → top (plus ∷ l) ≡ plus
    go (inl z) rec = ap (λ (x : List Digit). top (plus ∷ x)) (empty z r)
    go (inr p) rec = top-cons plus l (rec p)
top_plus h (three {l = l} k e v r) = top-cons minus l (top_plus (omega arith) r)

pub topped : {n : ℕ} {l : List Digit} → Recodes n l → Topped l
topped {n} {l} r = go l r (eq-zero-or-pos n)
  where
    go : (l : List Digit) → Recodes n l → (n ≡ 0) ⊎ (0 < n) → Topped l
    go [] r c = tt
    go (d ∷ l) r (inl z) = absurd (cons≢nil (empty z r))
    go (d ∷ l) r (inr p) = λ k. subst Null (top_plus p r) k

-- ---- said of `recode`
pub recode-weighs : (n : ℕ) → Weighs (recode n) n
recode-weighs n = weighs (recodes n)

pub recode-weight : (n : ℕ) → weight (recode n) ≡ pos n
recode-weight n = weighs-weight (recode n) n (recode-weighs n)

pub recode-apart : (n : ℕ) → Apart (recode n)
recode-apart n = apart (recodes n)

pub recode_topped : (n : ℕ) → Topped (recode n)
recode_topped n = topped (recodes n)

pub recode-top : (n : ℕ) → 0 < n → top (recode n) ≡ plus
recode-top n h = top_plus h (recodes n)
