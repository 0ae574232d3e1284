use Rattle.refusals.proofs.Exits.{exit_err}
use Rattle.call_total.proofs.Calls.{no_curve, no_total, no_room, written}
use Rattle.call_total.proofs.total_batch.Goals as goal

pub returns-in_err-c : goal.returns-in_err-c
returns-in_err-c c = rw (exit_err c.from_residual.result c.from_residual.ensures.1) (no_curve c.args.curve.now c.args.batch.now c.args.out.now _ c.in_err-c.ensures)

pub returns-in_err-t : goal.returns-in_err-t
returns-in_err-t c = rw (exit_err c.from_residual-in_err-t.result c.from_residual-in_err-t.ensures.1) (no_total c.args.curve.now c.args.batch.now c.args.out.now c.in_ok-c.c c.in_ok-c.ensures _ c.in_err-t.ensures)

pub returns-in_err-length : goal.returns-in_err-length
returns-in_err-length c = rw (exit_err c.from_residual-in_err-length.result c.from_residual-in_err-length.ensures.1) (no_room c.args.curve.now c.args.batch.now c.args.out.now c.in_ok-c.c c.in_ok-c.ensures c.in_ok-t.t c.in_ok-t.ensures _ c.in_err-length.ensures)

pub returns : goal.returns
returns c = written c.args.curve.now c.args.batch.now c.args.out.now c.in_ok-c.c c.in_ok-c.ensures c.in_ok-t.t c.in_ok-t.ensures c.in_ok-length.ensures
