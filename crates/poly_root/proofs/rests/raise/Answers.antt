use native.Mathlib.Omega.{arith}
use Rattle.field.proofs.Laws.{zero_settles}
use Rattle.poly_root.proofs.rests.Raising.{raising_begin, raising_odd, raising_even, raised}
use Rattle.poly_root.proofs.rests.raise.Goals as goal

pub loop-k-init : goal.loop-k-init
loop-k-init c = raising_begin c.args.m c.args.u c.args.a c.args.n _ _ c.requires.base c.one-one.ensures (zero_settles c.args.m _ c.zero-zero.ensures)

pub loop-k-preserved-then-k-eq1 : goal.loop-k-preserved-then-k-eq1
loop-k-preserved-then-k-eq1 c = raising_odd c.args.m c.loop-k.invariant c.loop-k-test.true c.times-x.ensures

pub loop-k-preserved : goal.loop-k-preserved
loop-k-preserved c = raising_even c.args.m c.loop-k.invariant (omega (arith, c.if-k-eq1.false)) c.times-y.ensures

pub returns : goal.returns
returns c = raised c.args.m c.loop-k.invariant (omega (arith, c.loop-k-test.false))
