use native.Mathlib.Omega.{arith}
use Rattle.field_words.proofs.Bounds.{room}
use Rattle.field_montgomery.proofs.halving.Halving.{begin, together, fewer, fewer_other, again, again_other, few_next, few_other, ended, nonzero}
use Rattle.field_montgomery.proofs.halving.almost.Goals as goal

pub twos-k-requires : goal.twos-k-requires
twos-k-requires c = nonzero _ _ c.requires

pub loop-u-init : goal.loop-u-init
loop-u-init c = begin _ _ c.requires c.twos-k.ensures (nonzero _ _ c.requires)

pub overflow_add-k : goal.overflow_add-k
overflow_add-k c = omega (arith, few_next _ _ c.requires c.loop-u.invariant c.if-u-v.true c.twos-w.ensures)

pub loop-u-preserved-then-u-v : goal.loop-u-preserved-then-u-v
loop-u-preserved-then-u-v c = again _ _ c.requires c.loop-u.invariant c.if-u-v.true c.twos-w.ensures

pub overflow_add-k-in-loop-u : goal.overflow_add-k-in-loop-u
overflow_add-k-in-loop-u c = omega (arith, few_other _ _ c.requires c.loop-u.invariant (omega (arith, c.if-u-v.false, c.loop-u-test.true)) c.twos-w-in-loop-u.ensures)

pub loop-u-preserved : goal.loop-u-preserved
loop-u-preserved c = again_other _ _ c.requires c.loop-u.invariant (omega (arith, c.if-u-v.false, c.loop-u-test.true)) c.twos-w-in-loop-u.ensures

pub returns : goal.returns
returns c = ended _ _ c.requires c.loop-u.invariant c.loop-u-test.false
