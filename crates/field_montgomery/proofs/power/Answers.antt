use native.Mathlib.Omega.{arith}
use Rattle.field_montgomery.proofs.Powers.{power_begin, both_requires, square_requires, power_odd_turn, power_even_turn, power_end}
use Rattle.field_montgomery.proofs.power.Goals as goal

pub loop-k-init : goal.loop-k-init
loop-k-init c = power_begin _ _ _ _ c.requires

pub loop-k-preserved-then-k-eq1 : goal.loop-k-preserved-then-k-eq1
loop-k-preserved-then-k-eq1 c = power_odd_turn _ _ _ _ c.loop-k.invariant c.loop-k-test.true c.product-x.ensures

pub loop-k-preserved : goal.loop-k-preserved
loop-k-preserved c = power_even_turn _ _ _ _ c.loop-k.invariant (omega (arith, c.if-k-eq1.false)) c.product-y.ensures

pub returns : goal.returns
returns c = power_end _ _ _ _ c.loop-k.invariant (omega (arith, c.loop-k-test.false))
