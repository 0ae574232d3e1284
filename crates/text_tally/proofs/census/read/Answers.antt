use Rattle.text_lines.specs.Rule.Text.{census_text}
use Rattle.text_tally.specs.Read.{file_of}
use Rattle.text_tally.specs.census.Opened.{TrainingOf}
use Rattle.text_tally.proofs.Tallies.{no_training_file, no_training, training, left_by}
use Rattle.text_tally.proofs.census.read.Goals as goal

pub returns-in_err-s : goal.returns-in_err-s
returns-in_err-s c = left_by (TrainingOf (census_text (file_of c.args.file))) c.from_residual.result _ c.from_residual.ensures.1 (no_training_file (file_of c.args.file) c.in_err-s.field-0.0 c.in_err-s.ensures)

pub returns-in_err-c : goal.returns-in_err-c
returns-in_err-c c = left_by (TrainingOf (census_text (file_of c.args.file))) c.from_residual-in_err-c.result _ c.from_residual-in_err-c.ensures.1 (no_training (file_of c.args.file) c.in_ok-s.s c.in_ok-s.ensures c.in_err-c.field-0.0 c.in_err-c.ensures)

pub returns : goal.returns
returns c = training (file_of c.args.file) c.in_ok-s.s c.in_ok-s.ensures c.in_ok-c.c c.in_ok-c.ensures
