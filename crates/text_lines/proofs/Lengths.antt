-- How long the digits and the lines are: a number of 64 bits has at most 20 decimal digits, so that every text fits 256 bytes.
use Prim.Native.Nat.{ℕ, ◌*◌, ◌≤◌}
use mathlib.Core.Path.{◌≡◌, refl}
use mathlib.Core.List.{List, [], ◌∷◌, ◌++◌}
use mathlib.Core.Bool.{Bool, true, false}
use native.Mathlib.Omega.{arith}
use lib.Dec.{eqb}
use lib.ListN.{length, length-append}
use Rattle.algebra.proofs.Zmod.PrimeField.{modulo}
use Rattle.rules.specs.Pair.{Pair}
use Rattle.rules.specs.Lists.{Repeat}
use Rattle.rules.specs.Records.{choose, numbers}
use Rattle.rules.proofs.Calls.Elements.{length_numbers}
use Rattle.text_lines.specs.digits.Digits.{letters, decimal, hex}
use Rattle.text_lines.specs.Lines.{two, places, spaced, count_line, repeat_line, record_line, total_line, refused_line}
use Rattle.text_lines.proofs.digits.Decimals.{length-hex, Word, decimal-short}

-- ---- digits
pub length-spaced : (l : List ℕ) → length (spaced l) ≡ 17 * length l
unfolding spaced
length-spaced [] = refl
length-spaced (x ∷ l) = omega (arith, length-append (hex 16 x) (spaced l), length-hex 16 x, length-spaced l)

pub two-short : (i j : ℕ) → Word i → Word j → length (two i j) ≤ 41
unfolding two
two-short i j h k = omega (arith, length-append (decimal i) (32 ∷ decimal j), decimal-short i h, decimal-short j k)

-- ---- lines
pub count-short : (n : ℕ) → Word n → length (count_line n) ≤ 27
unfolding count_line
count-short n h = omega (arith, length-append (decimal n) (10 ∷ []), decimal-short n h)

pub refused-short : (n k : ℕ) → Word n → Word k → length (refused_line n k) ≤ 50
unfolding refused_line
refused-short n k h l = omega (arith, length-append (two n k) (10 ∷ []), two-short n k h l)

places-short : (i j : ℕ) → Word i → Word j → length (places i j) ≤ 41
unfolding places
places-short i j h k = go (eqb i 0)
  where
    go : (t : Bool) → length (choose t (letters "none") (two i j)) ≤ 41
    go true = omega arith
    go false = two-short i j h k

pub repeat_short : (r : Repeat) → Word r.first → Word r.second → length (repeat_line r) ≤ 49
unfolding repeat_line
repeat_short r h k = omega (arith, length-append (places r.first r.second) (10 ∷ []), places-short r.first r.second h k)

pub record_short : (p : ℕ) (d : Pair (modulo p)) → length d.u ≤ 3 → length d.v ≤ 3 → length (record_line p d) ≤ 105
unfolding record_line
record_short p d h k =
    let l : List ℕ = numbers p d.u ++ numbers p d.v in
    omega (arith, length-append (hex 2 (length d.u)) (spaced l ++ (10 ∷ [])), length-hex 2 (length d.u), length-append (spaced l) (10 ∷ []), length-spaced l, length-append (numbers p d.u) (numbers p d.v), length_numbers p d.u, length_numbers p d.v)

pub total-short : (p : ℕ) (d : Pair (modulo p)) → length d.u ≤ 3 → length d.v ≤ 3 → length (total_line p d) ≤ 111
unfolding total_line
total-short p d h k = omega (arith, record_short p d h k)
