-- One turn of the trial division: the thirty numbers from d on.
use Rattle.std.specs.Prelude.{ℕ, ◌+◌, ◌%◌, ◌≤◌, ◌<◌, ◌≡◌}

-- one of the thirty numbers from d on divides p
pub record DividedFrom (p d : ℕ) : Type 0 where
  pub by : ℕ
  pub from : d ≤ by
  pub before : by < d + 30
  pub whole : p % by ≡ 0

-- p is no multiple of 2, 3 or 5, and d is 7 more than a multiple of 30; d's square is within the limit of a record of version 1
pub record Left (p d : ℕ) : Type 0 where
  pub odd : p % 2 ≡ 0 → ⊥
  pub threes : p % 3 ≡ 0 → ⊥
  pub fives : p % 5 ≡ 0 → ⊥
  pub turn : d % 30 ≡ 7
  pub small : d ≤ 46340
