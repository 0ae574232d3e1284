-- W-208: strings of the digits -1, 0 and 1, the lowest first. What a string weighs; that no two neighbours are both nonzero (`Apart`); that it has no leading zero
-- (`Topped`); how many digits are nonzero; and the non-adjacent form of a number, `recode`.
use Rattle.std.specs.Prelude.{ℕ, zero, suc, ◌+◌, ◌-◌, ◌/◌, ◌%◌, List, [], ◌∷◌, ℤ, pos, negsuc, ◌+ℤ◌}

pub data Digit : Type 0 where
  minus null plus : Digit

-- ---- its weight, a whole number: digit i counts 2^i
abbrev pub value : Digit → ℤ
value minus = negsuc 0
value null = pos 0
value plus = pos 1

abbrev pub weight : List Digit → ℤ
weight [] = pos 0
weight (d ∷ l) = value d +ℤ (weight l +ℤ weight l)

-- ---- its shape
abbrev pub Null : Digit → Type 0
Null minus = ⊥
Null null = Unit {0}
Null plus = ⊥

-- the lowest digit is 0, or there is none
abbrev pub NullFirst : List Digit → Type 0
NullFirst [] = Unit {0}
NullFirst (d ∷ l) = Null d

abbrev pub Apart : List Digit → Type 0
Apart [] = Unit {0}
Apart (minus ∷ l) = NullFirst l × Apart l
Apart (null ∷ l) = Apart l
Apart (plus ∷ l) = NullFirst l × Apart l

-- the highest digit
abbrev pub top : List Digit → Digit
top [] = null
top (d ∷ []) = d
top (d ∷ e ∷ l) = top (e ∷ l)

abbrev pub Topped : List Digit → Type 0
Topped [] = Unit {0}
Topped (d ∷ l) = Null (top (d ∷ l)) → ⊥

abbrev pub nonzeros : List Digit → ℕ
nonzeros [] = 0
nonzeros (minus ∷ l) = suc (nonzeros l)
nonzeros (null ∷ l) = nonzeros l
nonzeros (plus ∷ l) = suc (nonzeros l)

-- ---- the non-adjacent form of n: none for 0; else a digit d, which is 0 where n is even and 2 - n mod 4 where it is odd, and then the form of (n - d) / 2
abbrev pub of_four : ℕ → Digit
of_four zero = null
of_four (suc zero) = plus
of_four (suc (suc zero)) = null
of_four (suc (suc (suc r))) = minus

abbrev pub less : Digit → ℕ → ℕ
less minus n = (n + 1) / 2
less null n = n / 2
less plus n = (n - 1) / 2

-- in at most f digits
unfoldable pub recode_in : ℕ → ℕ → List Digit
recode_in zero n = []
recode_in (suc f) zero = []
recode_in (suc f) (suc n) = let d = of_four (suc n % 4) in d ∷ recode_in f (less d (suc n))

-- n digits are enough for n
unfoldable pub recode : ℕ → List Digit
unfolding recode_in
recode n = recode_in n n
