-- Document 01, "The pole's list": the letters and digits of the program's lines. A character is its byte: 48 is `0`, 97 is `a`.
use Rattle.std.specs.Prelude.{ℕ, zero, suc, ◌+◌, ◌/◌, ◌%◌, List, [], ◌∷◌, ◌++◌, true, false, cond, ltb}
use Prim.Native.Char.{code}
use Prim.Native.String.{String, [] as end, ◌∷◌ as ◌then◌}

-- the bytes of a quoted text
abbrev pub letters : String → List ℕ
letters end = []
letters (c then s) = code c ∷ letters s

-- 0 to 9, then lower-case a to f
unfoldable pub digit : ℕ → ℕ
digit d = cond (ltb d 10) (48 + d) (87 + d)

-- decimal without leading zeros, by at most `most` digits
unfoldable pub decimal_by : ℕ → ℕ → List ℕ
unfolding digit
decimal_by zero n = []
decimal_by (suc most) n = elim (ltb n 10) [ true ↦ digit n ∷ [] | false ↦ decimal_by most (n / 10) ++ (digit (n % 10) ∷ []) ]

-- n + 1 digits are enough for n
unfoldable pub decimal : ℕ → List ℕ
unfolding decimal_by
decimal n = decimal_by (suc n) n

-- exactly k hexadecimal digits: the last ones of x
unfoldable pub hex : ℕ → ℕ → List ℕ
unfolding digit
hex zero x = []
hex (suc k) x = hex k (x / 16) ++ (digit (x % 16) ∷ [])
