-- W-211: what opens a text: a training curve whose lines are the text, or the text itself, a refusal, at the front of the output.
use Rattle.std.specs.Prelude.{ℕ, ◌≡◌, List, Result, Ok, Err}
use Rattle.refusals.specs.declared.Refused.{Refused}
use Rattle.refusals.specs.Refusal.{number_of}
use Rattle.curve.specs.declared.Curve.{Curve}
use Rattle.curve.specs.Record.{record_of}
use Rattle.text_lines.specs.Lines.{refused_line}
use Rattle.text_lines.specs.Printed.{Printed}
use Rattle.text_lines.specs.Rule.Text.{lines_of}
use Rattle.text_tally.specs.declared.census.Line.{Line}

abbrev pub TrainingOf : List ℕ → Result Curve Refused → Type 0
TrainingOf text (Ok c) = text ≡ lines_of (record_of c)
TrainingOf text (Err r) = refused_line (number_of r.by) r.place ≡ text

abbrev pub OpenedIs : List ℕ → List ℕ → List ℕ → Result Curve Line → Type 0
OpenedIs text out o (Ok c) = text ≡ lines_of (record_of c)
OpenedIs text out o (Err l) = Printed out text o l.length
