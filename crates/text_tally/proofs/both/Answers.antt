use Rattle.text_tally.specs.Read.{file_of, FilesAre}
use Rattle.text_tally.proofs.Tallies.{curve_file, batch_file, both_files, left_by}
use Rattle.text_tally.proofs.both.Goals as goal

pub returns-in_err-s : goal.returns-in_err-s
returns-in_err-s c = left_by (FilesAre (file_of c.args.curve) (file_of c.args.batch)) c.from_residual.result _ c.from_residual.ensures.1 (curve_file (file_of c.args.curve) (file_of c.args.batch) c.in_err-s.field-0.0 c.in_err-s.ensures)

pub returns-in_err-t : goal.returns-in_err-t
returns-in_err-t c = left_by (FilesAre (file_of c.args.curve) (file_of c.args.batch)) c.from_residual-in_err-t.result _ c.from_residual-in_err-t.ensures.1 (batch_file (file_of c.args.curve) (file_of c.args.batch) c.in_ok-s.s c.in_ok-s.ensures c.in_err-t.field-0.0 c.in_err-t.ensures)

pub returns : goal.returns
returns c = both_files (file_of c.args.curve) (file_of c.args.batch) c.in_ok-s.s c.in_ok-s.ensures c.in_ok-t.t c.in_ok-t.ensures
