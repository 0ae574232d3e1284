-- What the functions promise of the output lent to them, which has 256 bytes.
use Rattle.std.specs.Prelude.{ℕ, ◌≤◌, ◌≡◌, List, length, Option, Some, None}
use Rattle.std.proofs.lemmas.List.Edits.{sets}
use Rattle.rules.specs.Lists.{Repeat}
use Rattle.text_lines.specs.declared.Places.{Places}

-- a text at the front, all else as it was; r is its length
pub record Printed (out text o : List ℕ) (r : ℕ) : Type 0 where
  pub all : r ≡ length text
  pub front : o ≡ sets out 0 text
  pub room : r ≤ 256

-- as the rules have it: 0 and 0 for none
abbrev pub places_of : Option Places → Repeat
places_of None = record { first = 0; second = 0 }
places_of (Some r) = record { first = r.first; second = r.second }
