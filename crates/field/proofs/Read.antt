-- A number read as a residue: what the two answers say of a number w that is the one read.
use Prim.Native.Nat.{ℕ, ◌≤◌, ◌<◌}
use mathlib.Core.Path.{◌≡◌, subst}
use native.Mathlib.Omega.{arith}
use Rattle.algebra.proofs.Zmod.Zmod.{emb}
use Rattle.field.specs.declared.Modulus.{Modulus}
use Rattle.field.specs.declared.Residue.{Residue}
use Rattle.std.specs.Prelude.{Option, Some, None}
use Rattle.field.specs.Read.{ResidueIs}
use Rattle.field.specs.Residues.{Settles}

pub read_below : (m : Modulus) (n w : ℕ) (r : Option Residue) (x : Residue) → ResidueIs m n r → r ≡ Some x → n ≡ w → (w < m.p) × Settles m x (emb m.p w)
read_below m n w r x h e i = let k = subst (ResidueIs m n) e h in (omega (arith, k.0), subst (λ (j : ℕ). Settles m x (emb m.p j)) i k.1)

pub read_above : (m : Modulus) (n w : ℕ) (r : Option Residue) → ResidueIs m n r → r ≡ None → n ≡ w → m.p ≤ w
read_above m n w r h e i = subst (λ (j : ℕ). m.p ≤ j) i (subst (ResidueIs m n) e h)
