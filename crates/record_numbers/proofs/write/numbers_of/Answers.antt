use Rattle.record_numbers.proofs.write.Numbers.{row_begin, row_turn, row_end}
use Rattle.record_numbers.proofs.write.numbers_of.Goals as goal

pub loop-k-init : goal.loop-k-init
loop-k-init c = row_begin _ _ _

pub loop-k-preserved : goal.loop-k-preserved
loop-k-preserved c = row_turn c.args.m c.args.d _ c.row-r.ensures _ c.weight-n.ensures _ _ c.loop-k.invariant _ _ c.loop-k-test.true c.number.ensures

pub returns : goal.returns
returns c = row_end c.args.m c.args.d _ c.row-r.ensures _ c.weight-n.ensures _ _ c.loop-k.invariant c.loop-k-test.false
