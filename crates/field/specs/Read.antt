-- What plain numbers are read as. Document 01, "Numbers the tablet shows": 5, p out of range or no odd prime; 6 and 10, a number ≥ p.
use Rattle.std.specs.Prelude.{ℕ, Option, Some, None, ◌≤◌, ◌<◌, ◌≡◌}
use Rattle.algebra.proofs.Zmod.Zmod.{emb}
use Rattle.field.specs.declared.Modulus.{Modulus}
use Rattle.field.specs.declared.PrimeModulus.{PrimeModulus}
use Rattle.field.specs.declared.Residue.{Residue}
use Rattle.field.specs.Primes.{OddPrime}
use Rattle.field.specs.Residues.{Settles}

-- p as a modulus
abbrev pub ModulusIs : ℕ → Option PrimeModulus → Type 0
ModulusIs p (Some k) = (k.m.p ≡ p) × OddPrime p
ModulusIs p None = OddPrime p → ⊥

-- n as a residue of m
abbrev pub ResidueIs : Modulus → ℕ → Option Residue → Type 0
ResidueIs m n (Some r) = (n < m.p) × Settles m r (emb m.p n)
ResidueIs m n None = m.p ≤ n
