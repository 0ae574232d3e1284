-- What the bytes of a batch say of a record before it is read again: the chain that it stands in, and that it can't be the same meter as another.
use Rattle.std.specs.Prelude.{ℕ, ◌+◌, ◌*◌, ◌/◌, ◌%◌, ◌≤◌, ◌<◌, Bool, true, false, List, [], ◌∷◌, get_or, length}

-- a hash of 32 bits with one more number in it: both halves of that are added, and the sum is multiplied
unfoldable pub mix : ℕ → ℕ → ℕ
mix h x = (h + x % 4294967296 + x / 4294967296) * 1013904223 % 4294967296

-- all numbers of a list
unfoldable pub mixes : ℕ → List ℕ → ℕ
mixes h [] = h
mixes h (x ∷ l) = mixes (mix h x) l

-- the chain of a record with these coefficients of u, of 4,096: the hash's upper bits
abbrev pub chain_of : List ℕ → ℕ
chain_of l = mixes 0 l / 1048576

-- a whole record begins at a
pub record Whole (s : List ℕ) (a : ℕ) : Type 0 where
  pub inside : a < length s
  pub long : a + 1 + 16 * get_or s a 0 ≤ length s

-- where a test fails, A is not so
abbrev pub Excludes : Bool → Type 0 → Type 0
Excludes true A = Unit {0}
Excludes false A = A → ⊥

-- the numbers of four and of eight bytes, the lowest first
abbrev pub lowest32 : List ℕ → ℕ → ℕ
lowest32 s a = get_or s a 0 + 256 * (get_or s (a + 1) 0 + 256 * (get_or s (a + 2) 0 + 256 * get_or s (a + 3) 0))

unfoldable pub lowest64 : List ℕ → ℕ → ℕ
lowest64 s a = lowest32 s a + 4294967296 * lowest32 s (a + 4)
