-- Document 01, "The pole's list": the lines that the program prints, every byte of them. Each ends in one line feed.
use Rattle.std.specs.Prelude.{ℕ, List, [], ◌∷◌, ◌++◌, eqb, length}
use Rattle.algebra.proofs.Zmod.PrimeField.{modulo}
use Rattle.rules.specs.Pair.{Pair}
use Rattle.rules.specs.Records.{choose, numbers}
use Rattle.rules.specs.Lists.{Repeat}
use Rattle.text_lines.specs.digits.Digits.{letters, decimal, hex}

-- two numbers in decimal, one space between them
unfoldable pub two : ℕ → ℕ → List ℕ
unfolding decimal
two a b = decimal a ++ (letters " " ++ decimal b)

unfoldable pub count_line : ℕ → List ℕ
unfolding decimal
count_line n = letters "count " ++ (decimal n ++ letters "\n")

-- no repeat is 0 and 0
unfoldable pub places : ℕ → ℕ → List ℕ
unfolding two
places i j = choose (eqb i 0) (letters "none") (two i j)

unfoldable pub repeat_line : Repeat → List ℕ
unfolding places
repeat_line r = letters "repeat " ++ (places r.first r.second ++ letters "\n")

-- each 8-byte number: one space and 16 digits
unfoldable pub spaced : List ℕ → List ℕ
unfolding hex
spaced [] = []
spaced (x ∷ l) = letters " " ++ (hex 16 x ++ spaced l)

-- a divisor's record: the weight in two digits, then u_0 to u_(w-1), then v_0 to v_(w-1)
unfoldable pub record_line : (p : ℕ) → Pair (modulo p) → List ℕ
unfolding hex spaced numbers
record_line p d = hex 2 (length d.u) ++ (spaced (numbers p d.u ++ numbers p d.v) ++ letters "\n")

unfoldable pub total_line : (p : ℕ) → Pair (modulo p) → List ℕ
unfolding record_line
total_line p d = letters "total " ++ record_line p d

-- number and place
unfoldable pub refused_line : ℕ → ℕ → List ℕ
unfolding two
refused_line n k = letters "refused " ++ (two n k ++ letters "\n")
