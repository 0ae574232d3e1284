use Rattle.refusals.proofs.Exits.{exit_err}
use Rattle.call_split.proofs.Splits.{split_nowhere}
use Rattle.call_split.proofs.split.Goals as goal

pub returns-in_err-y : goal.returns-in_err-y
returns-in_err-y c = rw (exit_err c.from_residual-in_err-y.result c.from_residual-in_err-y.ensures.1) (split_nowhere c.args.curve.now c.args.a.now c.args.out.now c.in_ok-c.c c.in_ok-c.d c.in_ok-c.ensures c.split.result _ c.split.ensures c.in_err-y.ensures.value)
