use native.Mathlib.Omega.{arith}
use Rattle.divisor.proofs.Laws.{weight_le}
use Rattle.divisor.proofs.Opposite.{turn_begin, turn_settled, turn_on, turn_end}
use Rattle.divisor.proofs.Divisor.opposite.Goals as goal

pub loop-k-preserved : goal.loop-k-preserved
loop-k-preserved c = turn_on c.args.m c.args.self _ _ c.requires c.row-r.ensures c.weight-w.ensures _ _ c.loop-k.invariant _ c.loop-k-test.true c.negate_settled.ensures

pub returns : goal.returns
returns c = turn_end c.args.m c.args.self _ _ c.requires c.row-r.ensures c.weight-w.ensures _ _ c.loop-k.invariant _ c.loop-k-test.false c.of_row.ensures
