-- A file as it was read: its bytes, or none where it can't be opened or read; and what refuses it.
use Rattle.std.specs.Prelude.{ℕ, ◌≡◌, List, Option, Some, None, Result, Ok, Err}
use Rattle.std.specs.Borrow.{Bor}
use Rattle.refusals.specs.declared.Refusal.{Refusal}
use Rattle.refusals.specs.declared.Refused.{Refused}
use Rattle.refusals.specs.Refusal.{number_of}
use Rattle.text_lines.specs.Lines.{refused_line}
use Rattle.text_lines.specs.Rule.Text.{File, unreadable, holds, with_file, text, text_of}

abbrev pub file_of : Option (Bor (List ℕ)) → File
file_of (Some s) = holds s.now
file_of None = unreadable

-- whatever goes on from the bytes
abbrev pub FileIs : File → Result (Bor (List ℕ)) Refusal → Type 0
FileIs f (Ok s) = (go : List ℕ → List ℕ) → with_file f go ≡ go s.now
FileIs f (Err by) = (go : List ℕ → List ℕ) → with_file f go ≡ refused_line (number_of by) 0

-- the text of two files goes on from the bytes of both, or is the line of what refuses one
abbrev pub FilesAre : File → File → Result (Bor (List ℕ) × Bor (List ℕ)) Refused → Type 0
FilesAre f g (Ok s) = text f g ≡ text_of s.0.now s.1.now
FilesAre f g (Err r) = refused_line (number_of r.by) r.place ≡ text f g
