-- Numbers below p and elements of Z/p, by lists: `numbers` and `elements` undo one another; `is_below` says that each is below p (`AllBelow`, `below_decides`).
-- Open: `AllBelow`.
use Prim.Native.Nat.{ℕ, ◌<◌}
use mathlib.Core.Path.{◌≡◌, refl, ap₂}
use mathlib.Core.Logic.{◌↔◌, ◌⊎◌, inl, inr}
use mathlib.Core.List.Memᴰ
use mathlib.Core.List.{List, [], ◌∷◌, Memᴰ}
use native.Mathlib.Omega.{arith}
use mathlib.Core.Bool.{true}
use lib.Dec.{ltb}
use lib.ListN.{length, length-map}
use borrow.Author.Tests.{ltb-true, lt-ltb}
use Rattle.algebra.proofs.Zmod.Zmod.{zmod, emb, num, emb_num, num_of, num_lt}
use Rattle.rules.specs.Records.{is_below, elements, numbers}
use Rattle.rules.proofs.Calls.Tests.{both_true, true_both}

module _ (p : ℕ) where
  pub elements_numbers : (l : List (zmod p).El) → elements p (numbers p l) ≡ l
  unfolding elements numbers
  elements_numbers [] = refl
  elements_numbers (x ∷ l) = ap₂ ◌∷◌ (emb_num p x) (elements_numbers l)

  pub length_elements : (l : List ℕ) → length (elements p l) ≡ length l
  unfolding elements
  length_elements l = length-map l (emb p)

  pub length_numbers : (l : List (zmod p).El) → length (numbers p l) ≡ length l
  unfolding numbers
  length_numbers l = length-map l (num p)

  module _ (pos : 0 < p) where
    pub numbers_elements : (l : List ℕ) → is_below p l ≡ true → numbers p (elements p l) ≡ l
    unfolding is_below elements numbers
    numbers_elements [] h = refl
    numbers_elements (x ∷ l) h = let t = both_true (ltb x p) (is_below p l) h in ap₂ ◌∷◌ (num_of p pos x (ltb-true x p t.0)) (numbers_elements l t.1)

    pub numbers_below : (l : List (zmod p).El) → is_below p (numbers p l) ≡ true
    unfolding is_below numbers
    numbers_below [] = refl
    numbers_below (x ∷ l) = true_both (lt-ltb (num p x) p (num_lt p pos x)) (numbers_below l)

-- ---- each is below p
abbrev pub AllBelow : ℕ → List ℕ → Type 0
AllBelow p l = (q : ℕ) → Memᴰ q l → q < p

each_below : (p : ℕ) (l : List ℕ) → is_below p l ≡ true → AllBelow p l
unfolding is_below
each_below p [] e q m = absurd (Memᴰ.not-nil m)
each_below p (y ∷ l) e q m = let t = both_true (ltb y p) (is_below p l) e in go (ltb-true y p t.0) (Memᴰ.cases_cons m) (each_below p l t.1 q)
  where
    go : y < p → (q ≡ y) ⊎ Memᴰ q l → (Memᴰ q l → q < p) → q < p
    go h (inl e) rec = omega (arith, h, e)
    go h (inr k) rec = rec k

below_each : (p : ℕ) (l : List ℕ) → AllBelow p l → is_below p l ≡ true
unfolding is_below
below_each p [] h = refl
below_each p (y ∷ l) h = true_both (lt-ltb y p (h y (Memᴰ.head refl))) (below_each p l (λ q m. h q (Memᴰ.tail m)))

pub below_decides : (p : ℕ) (l : List ℕ) → (is_below p l ≡ true) ↔ AllBelow p l
below_decides p l = (each_below p l, below_each p l)
