use Rattle.text_lines.specs.Rule.Text.{text_of}
use Rattle.text_tally.specs.Tallied.{Shows}
use Rattle.text_tally.proofs.Tallies.{no_curve, no_total, tallied, left_by}
use Rattle.text_tally.proofs.read_bytes.Goals as goal

pub returns-in_err-c : goal.returns-in_err-c
returns-in_err-c c = left_by (Shows (text_of c.args.curve.now c.args.batch.now)) c.from_residual.result _ c.from_residual.ensures.1 (no_curve c.args.curve.now c.args.batch.now c.in_err-c.field-0.0 c.in_err-c.ensures)

pub returns-in_err-t : goal.returns-in_err-t
returns-in_err-t c = left_by (Shows (text_of c.args.curve.now c.args.batch.now)) c.from_residual-in_err-t.result _ c.from_residual-in_err-t.ensures.1 (no_total c.args.curve.now c.args.batch.now c.in_ok-c.c c.in_ok-c.ensures c.in_err-t.field-0.0 c.in_err-t.ensures)

pub returns : goal.returns
returns c = tallied c.args.curve.now c.args.batch.now c.in_ok-c.c c.in_ok-c.ensures c.in_ok-t.t c.in_ok-t.ensures c.repeat_on.result c.repeat_on.ensures c.places_of-repeat.result c.places_of-repeat.ensures.own c.places_of-repeat.ensures.short
