-- The line of a refusal tells its number: lines of different numbers differ (`line_tells`). No other text of either program begins as it does: the pole's list with the letter c (`count-first`), the census with a digit (`record_first`).
use Prim.Native.Nat.{ℕ, zero, suc, ◌+◌, ◌/◌, ◌%◌, ◌≤◌, ◌<◌}
use mathlib.Core.Path.{◌≡◌, refl, sym, ap, ◌∙◌}
use mathlib.Core.List.{List, [], ◌∷◌, ◌++◌, append_assoc}
use mathlib.Core.Bool.{Bool, true, false, cond}
use native.Mathlib.Omega.{arith}
use lib.Dec.{eqb, ltb}
use lib.ListN.{get_or, length, drop}
use borrow.Author.Tests.{ne_eqb, ltb-true}
use Rattle.algebra.proofs.Zmod.PrimeField.{modulo}
use Rattle.rules.specs.Pair.{Pair}
use Rattle.text_lines.specs.digits.Digits.{digit, decimal_by, decimal, hex}
use Rattle.text_lines.proofs.digits.Values.{number_in, decimal-value}
use Rattle.text_lines.specs.Lines.{two, count_line, record_line, refused_line}

-- ---- digits have no space among them: they are letters from 48 on
digit-from : (d : ℕ) → 48 ≤ digit d
unfolding digit
digit-from d = go (ltb d 10)
  where
    go : (t : Bool) → 48 ≤ cond t (48 + d) (87 + d)
    go true = omega arith
    go false = omega arith

abbrev High : List ℕ → Type 0
High [] = Unit {0}
High (x ∷ l) = (48 ≤ x) × High l

high-more : (l : List ℕ) (d : ℕ) → High l → High (l ++ (digit d ∷ []))
high-more [] d h = (digit-from d, tt)
high-more (x ∷ l) d h = (h.0, high-more l d h.1)

by_high : (most n : ℕ) → High (decimal_by most n)
unfolding decimal_by
by_high zero n = tt
by_high (suc most) n = go (ltb n 10) (by_high most (n / 10))
  where
    go : (t : Bool) → High (decimal_by most (n / 10)) → High (elim t [ true ↦ digit n ∷ [] | false ↦ decimal_by most (n / 10) ++ (digit (n % 10) ∷ []) ])
    go true h = (digit-from n, tt)
    go false h = high-more (decimal_by most (n / 10)) (n % 10) h

decimal-high : (n : ℕ) → High (decimal n)
unfolding decimal
decimal-high n = by_high (suc n) n

-- ---- what stands before the first space
abbrev word : List ℕ → List ℕ
word [] = []
word (x ∷ l) = cond (eqb x 32) [] (x ∷ word l)

word_is : (l r : List ℕ) → High l → word (l ++ (32 ∷ r)) ≡ l
word_is [] r h = refl
word_is (x ∷ l) r h = ap (λ (t : Bool). cond t [] (x ∷ word (l ++ (32 ∷ r)))) (ne_eqb x 32 (λ e. omega (arith, h.0, e))) ∙ ap (◌∷◌ x) (word_is l r h.1)

-- behind `refused ` stands the number
number_word : (n k : ℕ) → word (drop 8 (refused_line n k)) ≡ decimal n
unfolding refused_line two
number_word n k = ap word (append_assoc (decimal n) (32 ∷ decimal k) (10 ∷ [])) ∙ word_is (decimal n) (decimal k ++ (10 ∷ [])) (decimal-high n)

pub line_tells : (n k m j : ℕ) → refused_line n k ≡ refused_line m j → n ≡ m
line_tells n k m j e = sym (decimal-value n) ∙ ap (number_in 10) (sym (number_word n k) ∙ ap (λ (l : List ℕ). word (drop 8 l)) e ∙ number_word m j) ∙ decimal-value m

-- ---- the first letter: r, c, or a digit
pub refused-first : (n k : ℕ) → get_or (refused_line n k) 0 0 ≡ 114
unfolding refused_line
refused-first n k = refl

pub count-first : (n : ℕ) (r : List ℕ) → get_or (count_line n ++ r) 0 0 ≡ 99
unfolding count_line
count-first n r = refl

digit-to : (d : ℕ) → d < 16 → digit d ≤ 102
unfolding digit
digit-to d h = go (ltb d 10) refl
  where
    go : (t : Bool) → ltb d 10 ≡ t → cond t (48 + d) (87 + d) ≤ 102
    go true e = omega (arith, ltb-true d 10 e)
    go false e = omega arith

pub record_first : (p : ℕ) (d : Pair (modulo p)) (r : List ℕ) → get_or (record_line p d ++ r) 0 0 ≤ 102
unfolding record_line hex
record_first p d r = digit-to (length d.u / 16 % 16) (omega arith)
