-- A string by its places. Gives: what the digits from k on weigh, by digit k and those after it (`weight_at`); that strings which agree
-- at every place weigh the same, zeros at the top or not (`same_places`); that the last place has the highest digit (`last-place`).
use Prim.Native.Nat.{ℕ, zero, suc, ◌+◌, ◌-◌, ◌<◌}
use mathlib.Core.Path.{◌≡◌, refl, sym, ap, ap₂, ◌∙◌}
use mathlib.Core.List.{List, [], ◌∷◌}
use native.Mathlib.Omega.{arith}
use lib.ListN.{length, get_or, drop}
use lib.Seq.{get_or-drop}
use lib.IntN.{ℤ, pos, ◌+ℤ◌}
use Rattle.rules.specs.Signed.Digits.{Digit, null, value, weight, top}

pub weight_at : (l : List Digit) (k : ℕ) → weight (drop k l) ≡ value (get_or l k null) +ℤ (weight (drop (suc k) l) +ℤ weight (drop (suc k) l))
weight_at [] zero = refl
weight_at [] (suc k) = refl
weight_at (d ∷ l) zero = refl
weight_at (d ∷ l) (suc k) = weight_at l k

-- ---- agreeing at every place
twice : (w : ℤ) → w ≡ pos 0 → pos 0 +ℤ (w +ℤ w) ≡ pos 0
twice w e = ap (λ (t : ℤ). pos 0 +ℤ (t +ℤ t)) e

nothing : (l : List Digit) → ((k : ℕ) → get_or l k null ≡ null) → weight l ≡ pos 0
nothing [] h = refl
nothing (d ∷ l) h = ap (λ (e : Digit). value e +ℤ (weight l +ℤ weight l)) (h 0) ∙ twice (weight l) (nothing l (λ k. h (suc k)))

same : (l m : List Digit) → ((k : ℕ) → get_or l k null ≡ get_or m k null) → weight l ≡ weight m
same [] m h = sym (nothing m (λ k. sym (h k)))
same (d ∷ l) [] h = nothing (d ∷ l) h
same (d ∷ l) (e ∷ m) h = ap₂ (λ (x : Digit) (w : ℤ). value x +ℤ (w +ℤ w)) (h 0) (same l m (λ k. h (suc k)))

pub same_places : (l m : List Digit) → ((k : ℕ) → get_or l k null ≡ get_or m k null) → (k : ℕ) → weight (drop k l) ≡ weight (drop k m)
same_places l m h k = same (drop k l) (drop k m) (λ i. get_or-drop k l i null ∙ h (k + i) ∙ sym (get_or-drop k m i null))

-- ---- the last place
pub last-place : (l : List Digit) → 0 < length l → drop (length l - 1) l ≡ top l ∷ []
last-place [] h = absurd (omega arith)
last-place (d ∷ l) h = ap (λ (j : ℕ). drop j (d ∷ l)) {x = suc (length l) - 1} {y = length l} (omega arith) ∙ go d l
  where
    go : (d : Digit) (l : List Digit) → drop (length l) (d ∷ l) ≡ top (d ∷ l) ∷ []
    go d [] = refl
    go d (e ∷ l) = go e l
