-- What can be promised of a file's bytes: no more than the buffer has room for, and they stand at its front.
use Rattle.std.specs.Prelude.{ℕ, ◌≤◌, ◌≡◌, List, Option, Some, None, length}
use Rattle.std.specs.Borrow.{Bor, MutBor}

abbrev pub Within : Option (Bor (List ℕ)) → ℕ → Type 0
Within (Some s) room = length s.now ≤ room
Within None room = Unit {0}

-- what is answered begins at the place where the buffer does
abbrev pub AtFront : Option (Bor (List ℕ)) → MutBor (List ℕ) → Type 0
AtFront (Some s) buf = s.ref_ptr ≡ buf.ref_ptr
AtFront None buf = Unit {0}
