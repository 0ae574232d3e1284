use native.Mathlib.Omega.{arith}
use mathlib.Core.Path.{◌≡◌}
use Rattle.algebra.proofs.Zmod.Zmod.{zmod}
use Rattle.field.specs.Residues.{el}
use Rattle.field.proofs.Decide.{decided_no}
use Rattle.divisor_census.specs.Screens.{value}
use Rattle.divisor_census.proofs.Raising.{one_more}
use Rattle.divisor_census.proofs.Screening.{pass_turn}
use Rattle.divisor_census.proofs.first_passing.Goals as goal

pub loop-n-preserved : goal.loop-n-preserved
loop-n-preserved c =
    pass_turn c.args.m c.args.s _ c.loop-n.x c.loop-n._n c.loop-n.invariant (omega (arith, c.loop-n-test.true, c.number-n-end.ensures))
    (decided_no {A = value c.args.m c.args.s (el c.args.m c.loop-n.x) ≡ (zmod c.args.m.p).zer} {b = c.passes.result} c.if-passes.false c.passes.ensures)
    c.settle-x.result (one_more c.args.m _ c.one-one.ensures c.add.ensures c.settle-x.ensures)
