-- What a Poly stands for: its coefficients, constant first, make up an element of K[x], K being the residues of a modulus m. Its length
-- is one more than its degree, 0 for the zero polynomial.
use Rattle.std.specs.Prelude.{ℕ, ◌-◌, ◌<◌, ◌≤◌, ◌≡◌, List, [], ◌∷◌, ◌≢◌, get_or, length}
use Rattle.algebra.proofs.Ring.CRing.{CRing}
use Rattle.algebra.proofs.Poly.Bound.{Below}
use Rattle.algebra.proofs.Poly.Poly.{poly, coef}
use Rattle.algebra.proofs.Poly.Term.{C, X}
use Rattle.algebra.proofs.Zmod.Zmod.{zmod}
use Rattle.field.specs.declared.Residue.{Residue}
use Rattle.field.specs.declared.Modulus.{Modulus}
use Rattle.field.specs.Residues.{el, Kept}
use Rattle.poly.specs.declared.Poly.{Poly}

-- how many coefficients there is room for
abbrev pub room : ℕ
room = 11

-- the residues, and the polynomials over them
abbrev pub K : Modulus → CRing
K m = zmod m.p

abbrev pub P : Modulus → CRing
P m = poly (zmod m.p)

-- r₀, r₁, .. stand for r₀ + x · (r₁ + x · (..))
unfoldable pub pol_l : (m : Modulus) → List Residue → (P m).El
pol_l m [] = (P m).zer
pol_l m (r ∷ l) = (P m).add (C (K m) (el m r)) ((P m).mul (X (K m)) (pol_l m l))

abbrev pub pol : (m : Modulus) → Poly → (P m).El
pol m x = pol_l m x.c

-- every residue stored is one of m's
pub record Filled (m : Modulus) (l : List Residue) : Type 0 where
  pub all : (k : ℕ) (d : Residue) → k < length l → Kept m (get_or l k d)

-- n is one more than the degree of v, and 0 where v is 0
pub record Sized (m : Modulus) (n : ℕ) (v : (P m).El) : Type 0 where
  pub end : Below (K m) n (coef (K m) v)
  pub top : 0 < n → coef (K m) v (n - 1) ≢ (K m).zer

-- a Poly in good order
pub record Ok (m : Modulus) (x : Poly) : Type 0 where
  pub len : x.n ≤ room
  pub fill : Filled m x.c
  pub size : Sized m x.n (pol m x)

-- r is in good order, stands for v, and has at most n coefficients
pub record Is (m : Modulus) (r : Poly) (v : (P m).El) (n : ℕ) : Type 0 where
  pub ok : Ok m r
  pub is : pol m r ≡ v
  pub short : r.n ≤ n
