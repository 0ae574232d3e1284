use Rattle.refusals.proofs.Exits.{exit_err}
use Rattle.scan_record.proofs.Scanned.{no_curve, on_curve}
use Rattle.scan_record.proofs.scan.Goals as goal

pub returns-in_err-c : goal.returns-in_err-c
returns-in_err-c c = rw (exit_err c.from_residual.result c.from_residual.ensures.1) (no_curve c.args.t c.args.curve.now c.args.«record».now _ c.in_err-c.ensures)

pub returns : goal.returns
returns c = on_curve c.args.t c.args.curve.now c.args.«record».now c.in_ok-c.c c.in_ok-c.ensures c.scan_on.result c.scan_on.ensures
