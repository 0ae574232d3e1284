use native.Mathlib.Omega.{arith}
use Rattle.scalar.proofs.numbers.Numbers.{copy_begin, copy_turn}
use Rattle.scalar.proofs.numbers.from_bytes.Goals as goal

pub loop-k-init : goal.loop-k-init
loop-k-init c = copy_begin c.args.s.now _

pub loop-k-preserved : goal.loop-k-preserved
loop-k-preserved c = copy_turn c.args.s.now c.loop-k.n _ c.loop-k.k c.loop-k.invariant (omega (arith, c.requires)) c.loop-k-test.true
