-- What a divisor stands for. Document 01, "The records": u of degree w with leading 1, and v of degree below w, by their coefficients from
-- the constant's on; weight 0 is the neutral divisor.
use Rattle.std.specs.Prelude.{ℕ, ◌*◌, ◌≡◌, List, [], ◌∷◌, ◌++◌, take}
use Rattle.algebra.proofs.Zmod.PrimeField.{modulo}
use Rattle.rules.specs.Pair.{Pair, opposite}
use Rattle.field.specs.declared.Modulus.{Modulus}
use Rattle.field.specs.declared.Residue.{Residue}
use Rattle.field.specs.Residues.{el, Settled}
use Rattle.divisor.specs.declared.Divisor.{Divisor}
use Rattle.divisor.specs.declared.Divisor.TheVariants.{Neutral, One, Two, Three}

abbrev pub weight_of : Divisor → ℕ
weight_of Neutral = 0
weight_of (One d) = 1
weight_of (Two d) = 2
weight_of (Three d) = 3

-- the coefficients of u below its leading 1, and those of v
abbrev pub us : Divisor → List Residue
us Neutral = []
us (One d) = d.u0 ∷ []
us (Two d) = d.u0 ∷ d.u1 ∷ []
us (Three d) = d.u0 ∷ d.u1 ∷ d.u2 ∷ []

abbrev pub vs : Divisor → List Residue
vs Neutral = []
vs (One d) = d.v0 ∷ []
vs (Two d) = d.v0 ∷ d.v1 ∷ []
vs (Three d) = d.v0 ∷ d.v1 ∷ d.v2 ∷ []

-- all of them, as a row holds them: those of u first
abbrev pub coefficients : Divisor → List Residue
coefficients d = us d ++ vs d

pub record RowOf (d : Divisor) (r : List Residue) : Type 0 where
  pub is : take (2 * weight_of d) r ≡ coefficients d

module _ (m : Modulus) where
  abbrev pub elements : List Residue → List (modulo m.p).base.El
  elements [] = []
  elements (r ∷ l) = el m r ∷ elements l

  unfoldable pub pair : Divisor → Pair (modulo m.p)
  pair d = record { u = elements (us d); v = elements (vs d) }

  -- every coefficient below p
  abbrev pub AllSettled : List Residue → Type 0
  AllSettled [] = Unit {0}
  AllSettled (r ∷ l) = Settled m r × AllSettled l

  pub record Held (d : Divisor) : Type 0 where
    pub u : AllSettled (us d)
    pub v : AllSettled (vs d)

  -- r is held, and stands for the opposite of d
  pub record Opposed (d r : Divisor) : Type 0 where
    pub held : Held r
    pub is : pair r ≡ opposite (pair d)
