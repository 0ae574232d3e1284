-- A scalar's signed digits in code: the non-adjacent form, each digit kept as the number one above it.
use Rattle.std.specs.Prelude.{ℕ, zero, suc, ◌+◌, ◌≤◌, ◌<◌, ◌≡◌, List, map, length, get_or, drop, ℤ}
use Rattle.std.specs.Int.Count.{count_leading_zeros}
use Rattle.rules.specs.Signed.Digits.{Digit, minus, null, plus, weight, nonzeros, recode}
use Rattle.scalar.specs.declared.Counts.{Counts}
use Rattle.scalar.specs.declared.Digits.{Digits}

-- a digit is kept as the number one above it
abbrev pub digit : ℕ → Digit
digit zero = minus
digit (suc zero) = null
digit (suc (suc b)) = plus

abbrev pub digits : List ℕ → List Digit
digits d = map digit d

-- the place of the highest one of 3n with t more, from bit k on: t's own above k, and the one found before where t is 0
pub record Risen (old k t r : ℕ) : Type 0 where
  pub none : t ≡ 0 → r ≡ old
  pub some : 0 < t → r + count_leading_zeros 16 t ≡ k + 15

-- how many digits the non-adjacent form of n has, and how many of them are nonzero
pub record Counted (n : ℕ) (r : Counts) : Type 0 where
  pub length_is : r.length ≡ length (recode n)
  pub nonzeros_is : r.nonzeros ≡ nonzeros (recode n)

-- the non-adjacent form of n, with zeros above it
pub record Recoded (n : ℕ) (r : Digits) : Type 0 where
  pub places : (k : ℕ) → get_or (digits r.at) k null ≡ get_or (recode n) k null
  pub length_is : r.length ≡ length (recode n)
  pub nonzeros_is : r.nonzeros ≡ nonzeros (recode n)
  pub within : r.length ≤ 257
  pub room : length r.at ≡ 257

-- what the digits from k on weigh
abbrev pub upper : List ℕ → ℕ → ℤ
upper d k = weight (drop k (digits d))
