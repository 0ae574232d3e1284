use native.Mathlib.Omega.{arith}
use Rattle.field.proofs.Decide.{decided_no}
use Rattle.multiple.proofs.Runs.{going_on, gone}
use Rattle.multiple.proofs.on_tuples.Goals as goal

pub loop-j-preserved : goal.loop-j-preserved
loop-j-preserved c = going_on c.args.c c.args.q c.args.at.now c.args.k c.loop-j.r c.climb-y.result c.loop-j.j c.loop-j.invariant c.loop-j-test.true (omega (arith, c.loop-j.invariant.at_most, c.requires.place)) (c.climb-y.ensures.is (decided_no c.if-is_zero.false c.is_zero.ensures))

pub returns : goal.returns
returns c = gone c.args.c c.args.q c.args.at.now c.args.k c.loop-j.r 0 c.loop-j.j (omega arith) c.loop-j.invariant
