-- A residue is its bare number. Gives: `plain`, the residue of a bare number, and that residues, and lists of them, with the same bare numbers are one.
use Prim.Native.Nat.{ℕ}
use mathlib.Core.Path.{◌≡◌, refl, sym, ap, ◌∙◌}
use mathlib.Core.List.{List, [], ◌∷◌, map}
use Rattle.field.specs.declared.Residue.{Residue}
use Rattle.field.specs.Residues.{raw}

abbrev pub plain : ℕ → Residue
plain n = record { 0 = n }

raw-back : (l : List Residue) → map plain (map raw l) ≡ l
raw-back [] = refl
raw-back (r ∷ l) = ap (λ (t : List Residue). r ∷ t) (raw-back l)

pub same_raw : (a b : List Residue) → map raw a ≡ map raw b → a ≡ b
same_raw a b e = sym (raw-back a) ∙ ap (map plain) e ∙ raw-back b
