-- Document 01, "The pole's list": what the program prints, every byte of it, from what was read of the two files. Document 02, W-211: what the census prints of the file of a curve.
use Rattle.std.specs.Prelude.{ℕ, ltb, length}
use mathlib.Core.List.{List, ◌++◌, flat_map}
use Rattle.rules.specs.Pair.{neutral}
use Rattle.rules.specs.Sum.{sum}
use Rattle.rules.specs.Records.{Checked, refused, taken, choose, CurveRecord, curve, read_curve}
use Rattle.rules.specs.Lists.{batch}
use Rattle.rules.specs.Census.{census}
use Rattle.rules.specs.Calls.{read_training, repeat_call}
use Rattle.text_lines.specs.Lines.{count_line, repeat_line, record_line, total_line, refused_line}

-- the line of what refuses, or what goes on with what was read
abbrev pub or_refused : {A : Type 0} → Checked A → (A → List ℕ) → List ℕ
or_refused x go = elim x [ refused n k ↦ refused_line n k | taken a ↦ go a ]

-- of the bytes of a curve and of a batch: three lines, or only the line of what refuses them
unfoldable pub text_of : List ℕ → List ℕ → List ℕ
unfolding count_line repeat_line total_line refused_line read_curve sum repeat_call
text_of s records =
    or_refused (read_curve s) (λ c.
    or_refused (batch c (sum (curve c)) records neutral) (λ b.
    count_line b.count ++ (repeat_line (repeat_call s records).own ++ total_line c.p b.result)))

-- what a file can be: one that can't be opened or read, or its bytes
pub data File : Type 0 where
  unreadable : File
  holds : List ℕ → File

unfoldable pub with_file : File → (List ℕ → List ℕ) → List ℕ
unfolding refused_line
with_file unreadable go = refused_line 17 0
with_file (holds s) go = choose (ltb 65536 (length s)) (refused_line 16 0) (go s)

-- of the two files: 17 and 16 for the curve first, then for the batch, all before the records
unfoldable pub text : File → File → List ℕ
unfolding with_file text_of
text curve batch = with_file curve (λ s. with_file batch (λ b. text_of s b))

-- ---- W-211: of the bytes of a curve: the census of a training curve, a record a line from the neutral one on, or only the line of what refuses it
abbrev pub lines_of : CurveRecord → List ℕ
lines_of c = flat_map (record_line c.p) (census c)

unfoldable pub census_of : List ℕ → List ℕ
unfolding record_line refused_line read_curve census flat_map
census_of s = or_refused (read_training s) lines_of

-- of the file: 17 and 16 first
unfoldable pub census_text : File → List ℕ
unfolding with_file census_of
census_text curve = with_file curve census_of
