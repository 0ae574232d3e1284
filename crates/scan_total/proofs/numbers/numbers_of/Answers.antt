use native.Mathlib.Omega.{arith}
use Rattle.divisor.proofs.Laws.{weight_le}
use Rattle.scan_total.proofs.numbers.Mapped.{change_begin, change_on}
use Rattle.scan_total.proofs.numbers.Kept.{Leaves, leave_at, stored_is}
use Rattle.scan_total.proofs.numbers.numbers_of.Goals as goal

pub returns : goal.returns
returns c = stored_is c.args.m c.args.d _ _ c.row-r.ensures c.weight-w.ensures _ _ _ c.loop-k-test.false c.of_row.ensures c.loop-k.invariant
