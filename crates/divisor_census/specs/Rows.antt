-- W-211: a divisor's numbers as a counter. What the steps of the walk over all divisors promise, in the words of the rule's list.
use Rattle.std.specs.Prelude.{ℕ, Option, Some, None, suc, ◌*◌, ◌≤◌, ◌<◌, ◌≡◌, List, [], ◌∷◌, ◌++◌, leb, length, take, replicate}
use Rattle.algebra.proofs.Zmod.Zmod.{zmod, num}
use Rattle.rules.specs.Checks.{refused, taken, choose}
use Rattle.rules.specs.Records.{CurveRecord, PairOf}
use Rattle.rules.specs.Census.{pair_from, next}
use Rattle.rules.proofs.Census.Rows.{Tops}
use Rattle.rules.proofs.Census.Pairs.{later}
use Rattle.field.specs.declared.Modulus.{Modulus}
use Rattle.field.specs.declared.Residue.{Residue}
use Rattle.field.specs.Residues.{el}
use Rattle.divisor.specs.declared.Divisor.{Divisor}
use Rattle.divisor.specs.Divisors.{pair, AllSettled}
use Rattle.curve.specs.declared.Curve.{Curve}
use Rattle.curve.specs.Curves.{Holds}
use Rattle.curve.specs.Record.{record_of}
use Rattle.divisor_census.specs.declared.Candidate.{Candidate}

module _ (m : Modulus) where
  -- the numbers of a row of residues
  abbrev pub digits : List Residue → List ℕ
  digits [] = []
  digits (r ∷ l) = num m.p (el m r) ∷ digits l

  -- the first n of six residues count
  pub record Rowed (n : ℕ) (l : List Residue) : Type 0 where
    pub within : n ≤ 6
    pub long : length l ≡ 6
    pub settled : AllSettled m (take n l)

  -- the last number that can be raised is raised, with zeros behind it
  pub record RaisedAt (l r : List ℕ) : Type 0 where
    pub front : List ℕ
    pub number : ℕ
    pub behind : List ℕ
    pub was : l ≡ front ++ (number ∷ behind)
    pub is : r ≡ front ++ (suc number ∷ replicate (length behind) 0)
    pub below : suc number < m.p
    pub tops : Tops m.p behind

  -- of the first n, or None where none can be raised
  abbrev pub RaisedIs : ℕ → List Residue → Option (List Residue) → Type 0
  RaisedIs n l (Some r) = Rowed n r × RaisedAt (digits (take n l)) (digits (take n r))
  RaisedIs n l None = Tops m.p (digits (take n l))

-- what is tried from here on: this one and those behind it, and nothing past weight g
unfoldable pub ahead : (c : CurveRecord) → ℕ → List ℕ → List (PairOf c)
unfolding pair_from later
ahead c w r = choose (leb w c.g) (pair_from c w r ∷ later c w r) []

module _ (m : Modulus) where
  abbrev pub row_of : ℕ → List Residue → List ℕ
  row_of w l = digits m (take (2 * w) l)

  -- a curve record modulo p
  abbrev pub on : (g : ℕ) → List (zmod m.p).El → CurveRecord
  on g low = record { p = m.p; g = g; low = low }

  pub record Advanced (w : ℕ) (l : List Residue) (t : Candidate) : Type 0 where
    pub rowed : t.weight ≤ 3 → Rowed m (2 * t.weight) t.row
    pub most : t.weight ≤ suc w
    pub is : (g : ℕ) (low : List (zmod m.p).El) → g ≤ 3 → w ≤ g → later (on g low) w (row_of w l) ≡ ahead (on g low) t.weight (row_of t.weight t.row)

-- the next valid divisor is the rule's
abbrev pub NextIs : Curve → Divisor → Option Divisor → Type 0
NextIs c d (Some y) = Holds c y × (next (record_of c) (pair c.prime.m d) ≡ taken (pair c.prime.m y))
NextIs c d None = next (record_of c) (pair c.prime.m d) ≡ refused 24 0
