-- What the operations ask, and what those promise whose answer isn't one polynomial known beforehand.
use Rattle.std.specs.Prelude.{ℕ, ◌+◌, ◌-◌, ◌<◌, ◌≤◌, ◌≡◌, List}
use Rattle.algebra.proofs.Ring.Divides.{Divides}
use Rattle.algebra.proofs.Poly.Bound.{Below}
use Rattle.algebra.proofs.Poly.Poly.{coef}
use Rattle.algebra.proofs.Poly.Term.{C}
use Rattle.field.specs.declared.Residue.{Residue}
use Rattle.field.specs.declared.Modulus.{Modulus}
use Rattle.field.specs.Residues.{Kept, Stands}
use Rattle.poly.specs.declared.Poly.{Poly}
use Rattle.poly.specs.Polys.{room, K, P, pol_l, pol, Filled, Sized, Ok}

-- r is the coefficient of x at k, under every modulus that x is stored for
abbrev pub Gets : Poly → ℕ → Residue → Type 0
Gets x k r = (m : Modulus) → Filled m x.c → Stands m r (coef (K m) (pol m x) k)

-- coefficients from n on are zero
pub record FilledTo (m : Modulus) (l : List Residue) (n : ℕ) : Type 0 where
  pub len : n ≤ room
  pub fill : Filled m l
  pub end : Below (K m) n (coef (K m) (pol_l m l))

pub record Size (m : Modulus) (l : List Residue) (n r : ℕ) : Type 0 where
  pub within : r ≤ n
  pub size : Sized m r (pol_l m l)

-- what a + x · y^k asks
pub record Put (m : Modulus) (a : Poly) (k : ℕ) (x : Residue) : Type 0 where
  pub left : Ok m a
  pub fits : k < room
  pub term : Kept m x

pub record Product (m : Modulus) (a b : Poly) : Type 0 where
  pub left : Ok m a
  pub right : Ok m b
  pub fits : a.n + b.n ≤ room + 1

-- a has a leading coefficient
pub record Led (m : Modulus) (a : Poly) : Type 0 where
  pub ok : Ok m a
  pub some : 0 < a.n

-- u has leading coefficient 1
pub record IsMonic (m : Modulus) (u : Poly) : Type 0 where
  pub some : 0 < u.n
  pub lead : coef (K m) (pol m u) (u.n - 1) ≡ (K m).one

pub record ToDivide (m : Modulus) (a u : Poly) : Type 0 where
  pub left : Ok m a
  pub right : Ok m u
  pub monic : IsMonic m u

-- a = q · u + r, with r shorter than u
pub record Divided (m : Modulus) (a u q r : Poly) : Type 0 where
  pub ok_q : Ok m q
  pub ok_r : Ok m r
  pub is : pol m a ≡ (P m).add ((P m).mul (pol m q) (pol m u)) (pol m r)
  pub rest : r.n < u.n
  pub less : r.n ≤ a.n
  pub short : q.n ≤ a.n + 1 - u.n

pub record ToQuotient (m : Modulus) (a u : Poly) : Type 0 where
  pub left : Ok m a
  pub right : Ok m u
  pub monic : IsMonic m u
  pub divides : Divides (P m) (pol m u) (pol m a)

-- a = q · u
pub record Quotient (m : Modulus) (a u q : Poly) : Type 0 where
  pub ok : Ok m q
  pub is : pol m a ≡ (P m).mul (pol m q) (pol m u)
  pub short : q.n ≤ a.n + 1 - u.n

-- r is a times the constant up, which has an inverse, and is monic, or zero
pub record MonicBy (m : Modulus) (up : (K m).El) (a r : Poly) : Type 0 where
  pub ok : Ok m r
  pub down : (K m).El
  pub unit : (K m).mul down up ≡ (K m).one
  pub is : pol m r ≡ (P m).mul (C (K m) up) (pol m a)
  pub same : r.n ≡ a.n
  pub lead : 0 < r.n → IsMonic m r

pub record MadeMonic (m : Modulus) (a r : Poly) : Type 0 where
  pub up : (K m).El
  pub made : MonicBy m up a r
