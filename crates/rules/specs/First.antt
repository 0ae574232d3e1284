-- Document 01, "The pole's list": the first repeat is the least j, then the least i < j, or none. Said over any relation of places, "a and b hold
-- the same", whatever makes two the same. Places are counted from 0 here, and from 1 in the answer, where 0 says none.
use Rattle.std.specs.Prelude.{ℕ, zero, suc, ◌<◌, ◌≡◌}

pub record Repeat : Type 0 where
  pub first : ℕ
  pub second : ℕ

module _ (Same : ℕ → ℕ → Type 0) where
  -- no two before j are the same
  abbrev pub Clear : ℕ → Type 0
  Clear j = (b : ℕ) → b < j → (a : ℕ) → a < b → Same a b → ⊥

  -- none before i is the same as the one at j
  abbrev pub Unlike : ℕ → ℕ → Type 0
  Unlike j i = (a : ℕ) → a < i → Same a j → ⊥

  -- of n places
  pub record FirstAt (n i j : ℕ) : Type 0 where
    pub within : j < n
    pub before : i < j
    pub same : Same i j
    pub least_j : Clear j
    pub least_i : Unlike j i

  abbrev pub FirstIs : ℕ → Repeat → Type 0
  FirstIs n r = elim r.second [ zero ↦ (r.first ≡ 0) × Clear n | suc j ↦ elim r.first [ zero ↦ ⊥ | suc i ↦ FirstAt n i j ] ]
