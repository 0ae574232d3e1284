-- What is left when a polynomial is divided by u, found from the top coefficient down: the remainder of the rules' division of lists.
use Rattle.std.specs.Prelude.{◌≡◌, List, [], ◌∷◌}
use Rattle.algebra.proofs.Ring.CRing.{CRing}
use Rattle.algebra.proofs.Zmod.Zmod.{zmod}
use Rattle.algebra.proofs.List.Ops.{remainder}
use Rattle.field.specs.declared.Modulus.{Modulus}
use Rattle.field.specs.declared.Residue.{Residue}
use Rattle.field.specs.Residues.{el, Kept}
use Rattle.divisor.specs.declared.Divisor.{Divisor}
use Rattle.divisor.specs.Divisors.{us, elements}
use Rattle.divisor.specs.declared.Duo.{Duo}
use Rattle.divisor.specs.declared.Trio.{Trio}

abbrev pub two : Duo → List Residue
two a = a.c0 ∷ a.c1 ∷ []

abbrev pub three : Trio → List Residue
three a = a.c0 ∷ a.c1 ∷ a.c2 ∷ []

module _ (m : Modulus) where
  abbrev pub K : CRing
  K = zmod m.p

  abbrev pub AllKept : List Residue → Type 0
  AllKept [] = Unit {0}
  AllKept (r ∷ l) = Kept m r × AllKept l

  abbrev pub AllZero : List Residue → Type 0
  AllZero [] = Unit {0}
  AllZero (r ∷ l) = (el m r ≡ K.zer) × AllZero l

  -- r is what l leaves when it is divided by u of d
  pub record Leaves (d : Divisor) (l : List K.El) (r : List Residue) : Type 0 where
    pub kept : AllKept r
    pub is : elements m r ≡ remainder K (elements m (us d)) l

  -- r is what is left of c + x · l, whatever l it is that leaves a
  pub record Turned (d : Divisor) (c : Residue) (a r : List Residue) : Type 0 where
    pub kept : AllKept r
    pub leaves : (l : List K.El) → Leaves d l a → Leaves d (el m c ∷ l) r
