-- Which numbers are taken as p. Document 01, "What the tablet does": an odd prime, 3 ≤ p ≤ 2,147,483,647; refusal 5.
use Rattle.std.specs.Prelude.{ℕ, Bool, true, false}
use Rattle.algebra.proofs.Zmod.Prime.{OddPrime as OddPrimeTo}

-- a test answers exactly whether A holds
abbrev pub Decides : Bool → Type 0 → Type 0
Decides true A = A
Decides false A = A → ⊥

-- of a curve record of version 1
abbrev pub limit : ℕ
limit = 2147483647

abbrev pub OddPrime : ℕ → Type 0
OddPrime = OddPrimeTo limit
