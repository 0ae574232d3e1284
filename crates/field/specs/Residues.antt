-- What a residue stands for, and the ranges it may have. Document 01, "The records": a residue modulo p has a type of its own. A residue holds n
-- for the element n/R of Z/p, R = 2^64 (Montgomery's form).
use Rattle.std.specs.Prelude.{ℕ, ◌+◌, ◌<◌, ◌≡◌, ◌≢◌}
use Rattle.algebra.proofs.Zmod.Zmod.{zmod, emb}
use Rattle.field_montgomery.specs.Back.{back}
use Rattle.field.specs.declared.Modulus.{Modulus}
use Rattle.field.specs.declared.Residue.{Residue}

-- the element of Z/p that a residue stands for
unfoldable pub el : (m : Modulus) → Residue → (zmod m.p).El
unfolding back
el m r = (zmod m.p).mul (emb m.p r.0) (back m.p m.turn)

-- the number inside: of a running total's residue the number that it is written as
abbrev pub raw : Residue → ℕ
raw r = r.0

-- the range that arithmetic hands on, below 2p, and the one of what is compared, tested for zero, written or held in a divisor
pub record Kept (m : Modulus) (r : Residue) : Type 0 where
  pub below : r.0 < m.p + m.p

pub record Settled (m : Modulus) (r : Residue) : Type 0 where
  pub below : r.0 < m.p

-- r is in range and stands for x
pub record Stands (m : Modulus) (r : Residue) (x : (zmod m.p).El) : Type 0 where
  pub kept : Kept m r
  pub is : el m r ≡ x

pub record Settles (m : Modulus) (r : Residue) (x : (zmod m.p).El) : Type 0 where
  pub settled : Settled m r
  pub is : el m r ≡ x

-- r stands for the whole number n under every modulus that it is below: in this form only 0 is written alike under all
abbrev pub Everywhere : Residue → ℕ → Type 0
Everywhere r n = (m : Modulus) → n < m.p → Settles m r (emb m.p n)

-- twice r is a
pub record Halves (m : Modulus) (a r : Residue) : Type 0 where
  pub kept : Kept m r
  pub is : (zmod m.p).add (el m r) (el m r) ≡ el m a

-- what has an inverse, modulo a prime, and an inverse of it
pub record HasInverse (m : Modulus) (r : Residue) : Type 0 where
  pub kept : Kept m r
  pub nonzero : el m r ≢ (zmod m.p).zer

pub record Inverts (m : Modulus) (r i : Residue) : Type 0 where
  pub kept : Kept m i
  pub is : (zmod m.p).mul (el m r) (el m i) ≡ (zmod m.p).one
