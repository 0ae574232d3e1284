-- W-213: a divisor split in two, as the rules have it: the part at a root of u and the rest.
use Rattle.std.specs.Prelude.{Option, Some, None, ◌≡◌}
use Rattle.algebra.proofs.Zmod.Zmod.{zmod}
use Rattle.algebra.proofs.Zmod.PrimeField.{modulo}
use Rattle.rules.specs.Roots.Roots.{value}
use Rattle.rules.specs.Split.{part_at, rest_at}
use Rattle.rules.proofs.Calls.SplitRoots.{SplitAt, NoSplit}
use Rattle.field.specs.declared.Modulus.{Modulus}
use Rattle.field.specs.declared.Residue.{Residue}
use Rattle.field.specs.Residues.{el, Kept}
use Rattle.divisor.specs.declared.Divisor.{Divisor}
use Rattle.divisor.specs.Divisors.{us, elements, pair, Held}

pub record ToTake (m : Modulus) (d : Divisor) (y : Residue) : Type 0 where
  pub held : Held m d
  pub kept : Kept m y

-- r is the part of d at y
pub record PartAt (m : Modulus) (d : Divisor) (y : (zmod m.p).El) (r : Divisor) : Type 0 where
  pub held : Held m r
  pub is : pair m r ≡ part_at (modulo m.p) y (pair m d)

-- and its rest, where y is a root
pub record ToDivide (m : Modulus) (d : Divisor) (y : Residue) : Type 0 where
  pub take : ToTake m d y
  pub root : value (zmod m.p) (elements m (us d)) (el m y) ≡ (zmod m.p).zer

pub record RestAt (m : Modulus) (d : Divisor) (y : (zmod m.p).El) (r : Divisor) : Type 0 where
  pub held : Held m r
  pub is : pair m r ≡ rest_at (modulo m.p) y (pair m d)

pub record PartsOf (m : Modulus) (d a b : Divisor) : Type 0 where
  pub y : (zmod m.p).El
  pub at : SplitAt m.p (pair m d) y
  pub first : PartAt m d y a
  pub second : RestAt m d y b

abbrev pub SplitIs : Modulus → Divisor → Option (Divisor × Divisor) → Type 0
SplitIs m d (Some (a, b)) = PartsOf m d a b
SplitIs m d None = NoSplit m.p (pair m d)
