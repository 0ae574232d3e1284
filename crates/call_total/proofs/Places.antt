-- Counts and lanes as numbers, away from all else that the loop knows.
use Prim.Native.Nat.{ℕ, ◌+◌, ◌-◌, ◌≤◌, ◌<◌}
use mathlib.Core.Path.{◌≡◌}
use native.Mathlib.Omega.{arith}

-- a count
pub not_full : {k : ℕ} → k ≤ 4096 → (k ≡ 4096 → ⊥) → k < 4096
not_full few other = omega arith

-- a lane, and the one before it
pub last_is : {n : ℕ} → 0 < n → n - 1 + 1 ≡ n
last_is some = omega arith
