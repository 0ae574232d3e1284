-- What the functions promise of the output lent to them, which has 256 bytes.
use Rattle.std.specs.Prelude.{ℕ, ◌+◌, ◌≤◌, ◌≡◌, List, length}
use Rattle.std.proofs.lemmas.List.Edits.{sets}

-- bytes put at place a, all else as it was; r is the place after them
pub record PutAt (out : List ℕ) (a : ℕ) (bytes o : List ℕ) (r : ℕ) : Type 0 where
  pub next : r ≡ a + length bytes
  pub put : o ≡ sets out a bytes

-- there is room for them
abbrev pub Room : ℕ → List ℕ → Type 0
Room a bytes = a + length bytes ≤ 256
