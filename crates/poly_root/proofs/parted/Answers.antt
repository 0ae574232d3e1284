use native.Mathlib.Omega.{arith}
use Rattle.poly_root.proofs.Shifts.{line_root, other_root, tried_turn, never}
use Rattle.poly_root.proofs.parted.Goals as goal

pub returns-then-n-eq2 : goal.returns-then-n-eq2
returns-then-n-eq2 c = line_root c.args.prime.m c.shift_part-g.ensures c.if-n-eq2.true (c.get.ensures c.args.prime.m c.shift_part-g.ensures.ok.fill) c.neg.ensures

pub returns-then-n-eq3 : goal.returns-then-n-eq3
returns-then-n-eq3 c = other_root c.args.prime.m c.shift_part-g.ensures c.if-n-eq3.true (c.get-then-n-eq3.ensures c.args.prime.m c.shift_part-g.ensures.ok.fill) c.sub.ensures

pub loop-k-preserved : goal.loop-k-preserved
loop-k-preserved c = tried_turn c.args.prime.m c.args.prime.prime c.loop-k.invariant c.shift_part-g.ensures c.if-n-eq2.false c.if-n-eq3.false c.one-one.ensures c.add-a.ensures

pub returns : goal.returns
returns c = never c.args.prime.m c.args.prime.prime c.loop-k.invariant c.requires (omega (arith, c.loop-k-test.false, c.number-k-end.ensures))
