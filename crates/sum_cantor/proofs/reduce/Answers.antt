use native.Mathlib.Omega.{arith}
use Rattle.sum_cantor.proofs.Stepping.{reduce_begin, reduce_to, reduce_falls, reduce_turn}
use Rattle.sum_cantor.proofs.reduce.Goals as goal

pub loop-n-init : goal.loop-n-init
loop-n-init c = reduce_begin c.args.prime.m c.args.f c.args.g c.args.x c.requires

pub loop-n-preserved : goal.loop-n-preserved
loop-n-preserved c = reduce_turn c.args.prime.m c.args.f c.args.g c.loop-n.n c.args.x c.loop-n.y c.requires c.loop-n.invariant c.step-y.result c.loop-n-test.true c.step-y.ensures
