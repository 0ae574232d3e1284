use native.Mathlib.Omega.{arith}
use Rattle.multiple.proofs.Runs.{further_by}
use Rattle.multiple.proofs.further.Goals as goal

pub returns : goal.returns
returns c =
    further_by c.args.c c.args.a c.args.at.now c.args.k c.ahead-y.result c.ahead-y.ensures (omega (arith, c.if-y-eq0.false)) c.requires.0.place c.plain.result c.step-e.result c.keep.result c.plain.ensures c.step-e.ensures c.keep.ensures
