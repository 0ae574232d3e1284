-- What is promised of a number n of 32 bytes: itself up to 255, and its quotient and remainder.
use Rattle.std.specs.Prelude.{ℕ, ◌/◌, ◌%◌, ◌≤◌, ◌<◌, ◌≡◌, Option, Some, None, length}
use Rattle.rules.specs.Bytes.{number}
use Rattle.scalar.specs.declared.numbers.Divided.{Divided}

-- n, where it is below 256
abbrev pub Capped : ℕ → Option ℕ → Type 0
Capped n (Some r) = (r ≡ n) × (r < 256)
Capped n None = 256 ≤ n

pub record DividedBy (n q : ℕ) (r : Divided) : Type 0 where
  pub is : number r.quotient ≡ n / q
  pub left : r.remainder ≡ n % q
  pub room : length r.quotient ≡ 32
