-- A divisor kept as plain numbers: what its numbers are read as, and what numbers a divisor is kept as.
use Rattle.std.specs.Prelude.{◌≡◌, List, [], ◌∷◌, map}
use Rattle.rules.specs.Records.{elements, numbers}
use Rattle.field.specs.declared.Modulus.{Modulus}
use Rattle.field.specs.declared.Residue.{Residue}
use Rattle.field.specs.Residues.{raw, Settled}
use Rattle.divisor.specs.declared.Divisor.{Divisor}
use Rattle.divisor.specs.Divisors.{weight_of, us, vs, pair, Held}

module _ (m : Modulus) where
  -- every coefficient is below p
  abbrev pub ListIn : List Residue → Type 0
  ListIn [] = Unit {0}
  ListIn (r ∷ l) = Settled m r × ListIn l

  abbrev pub AllIn : Divisor → Type 0
  AllIn d = ListIn (us d) × ListIn (vs d)

  -- e is held and has the elements of d's numbers
  pub record Resumed (d e : Divisor) : Type 0 where
    pub held : Held m e
    pub weight : weight_of e ≡ weight_of d
    pub is : record { u = elements m.p (map raw (us d)); v = elements m.p (map raw (vs d)) } ≡ pair m e

  -- e has the numbers of d's elements
  pub record Stored (d e : Divisor) : Type 0 where
    pub u : map raw (us e) ≡ numbers m.p (pair m d).u
    pub v : map raw (vs e) ≡ numbers m.p (pair m d).v
