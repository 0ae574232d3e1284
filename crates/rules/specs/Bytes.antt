-- Document 01, "The records": all numbers in records are big-endian; a scalar is 0 to 32 bytes, unsigned, empty means 0, leading zeros are
-- allowed. A byte is a number below 256, bytes are a list of them.
use Rattle.std.specs.Prelude.{ℕ, zero, suc, ◌+◌, ◌*◌, ◌/◌, ◌%◌, get_or}
use mathlib.Core.List.{List, [], ◌∷◌, ◌++◌, foldl}

-- the number of any bytes
unfoldable pub number : List ℕ → ℕ
number s = foldl (λ (n b : ℕ). 256 * n + b) 0 s

-- the numbers of the four and of the eight bytes from byte a on
abbrev pub word32 : List ℕ → ℕ → ℕ
word32 s a = ((get_or s a 0 * 256 + get_or s (a + 1) 0) * 256 + get_or s (a + 2) 0) * 256 + get_or s (a + 3) 0

unfoldable pub word64 : List ℕ → ℕ → ℕ
word64 s a = word32 s a * 4294967296 + word32 s (a + 4)

-- n numbers of eight bytes, one after the other from byte a on
unfoldable pub words : List ℕ → ℕ → ℕ → List ℕ
unfolding word64
words s a zero = []
words s a (suc n) = word64 s a ∷ words s (a + 8) n

-- the same of four bytes each
unfoldable pub words32 : List ℕ → ℕ → ℕ → List ℕ
words32 s a zero = []
words32 s a (suc n) = word32 s a ∷ words32 s (a + 4) n

-- the eight bytes of a number
unfoldable pub bytes64 : ℕ → List ℕ
bytes64 x =
    x / 72057594037927936 % 256
    ∷ x / 281474976710656 % 256
    ∷ x / 1099511627776 % 256
    ∷ x / 4294967296 % 256
    ∷ x / 16777216 % 256
    ∷ x / 65536 % 256
    ∷ x / 256 % 256
    ∷ x % 256
    ∷ []

unfoldable pub all_bytes : List ℕ → List ℕ
unfolding bytes64
all_bytes [] = []
all_bytes (x ∷ l) = bytes64 x ++ all_bytes l
