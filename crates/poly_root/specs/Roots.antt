-- W-213: the roots of a monic cubic modulo p, and the largest of them as a number below p.
use Rattle.std.specs.Prelude.{Option, Some, None, ◌≤◌, ◌≡◌, ◌⊎◌}
use Rattle.algebra.proofs.Ring.Divides.{Divides}
use Rattle.algebra.proofs.Zmod.Zmod.{num}
use Rattle.field.specs.declared.Modulus.{Modulus}
use Rattle.field.specs.declared.Residue.{Residue}
use Rattle.field.specs.Residues.{el, Kept, Settled}
use Rattle.rules.specs.Roots.Roots.{value}
use Rattle.poly_root.specs.declared.rests.MonicCubic.{MonicCubic}
use Rattle.poly_root.specs.rests.Rests.{K, P, lows, cubic, SettledCubic}
use Rattle.poly_root.specs.parts.Parts.{all_roots}

abbrev pub Root : (m : Modulus) → MonicCubic → (K m).El → Type 0
Root m u y = value (K m) (lows m u) y ≡ (K m).zer

pub record IsRoot (m : Modulus) (u : MonicCubic) (r : Residue) : Type 0 where
  pub kept : Kept m r
  pub is : Root m u (el m r)

-- a root, or there is none
abbrev pub RootIs : Modulus → MonicCubic → Option Residue → Type 0
RootIs m u (Some r) = IsRoot m u r
RootIs m u None = (y : (K m).El) → Root m u y → ⊥

-- u divides x^p - x: it has three different roots
pub record Whole (m : Modulus) (u : MonicCubic) : Type 0 where
  pub settled : SettledCubic m u
  pub divides : Divides (P m) (cubic m u) (all_roots m)

-- the one of a and b with the larger number
pub record Larger (m : Modulus) (a b r : Residue) : Type 0 where
  pub settled : Settled m r
  pub one_of : (el m r ≡ el m a) ⊎ (el m r ≡ el m b)
  pub above_a : num m.p (el m a) ≤ num m.p (el m r)
  pub above_b : num m.p (el m b) ≤ num m.p (el m r)

pub record ToEnlarge (m : Modulus) (u : MonicCubic) (r : Residue) : Type 0 where
  pub settled : SettledCubic m u
  pub root : IsRoot m u r

pub record LargestRoot (m : Modulus) (u : MonicCubic) (r : Residue) : Type 0 where
  pub settled : Settled m r
  pub is : Root m u (el m r)
  pub most : (y : (K m).El) → Root m u y → num m.p y ≤ num m.p (el m r)

-- the largest root, or there is none
abbrev pub LargestIs : Modulus → MonicCubic → Option Residue → Type 0
LargestIs m u (Some r) = LargestRoot m u r
LargestIs m u None = (y : (K m).El) → Root m u y → ⊥
