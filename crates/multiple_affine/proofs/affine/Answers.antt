use native.Mathlib.Omega.{arith}
use Rattle.rules.specs.Bytes.{number}
use Rattle.multiple_affine.proofs.promise.Counted.{some-nonzero}
use Rattle.multiple_affine.proofs.promise.Multiplying.{begin, turn, end, by_none, by_some}
use Rattle.multiple_affine.proofs.affine.Goals as goal

pub returns-then-length-eq0 : goal.returns-then-length-eq0
returns-then-length-eq0 c = by_none c.args.c c.args.a (number c.args.s.now) c.from_bytes-n.result c.from_bytes-n.ensures c.requires.holds (omega arith) c.neutral.ensures

pub loop-k-init : goal.loop-k-init
loop-k-init c = begin c.args.c c.args.a (number c.args.s.now) c.from_bytes-n.result c.from_bytes-n.ensures c.requires.holds (omega arith)

pub loop-k-preserved : goal.loop-k-preserved
loop-k-preserved c = turn c.args.c c.args.a c.from_bytes-n.result.at c.from_bytes-n.result.length c.loop-k.r c.step-r.result c.loop-k.k c.loop-k.invariant (omega arith) (omega (arith, c.loop-k.invariant.place, c.from_bytes-n.ensures.within, c.from_bytes-n.ensures.room)) c.step-r.ensures

pub overflow_sub-result-2 : goal.overflow_sub-result-2
overflow_sub-result-2 c = omega (arith, some-nonzero (number c.args.s.now) c.from_bytes-n.result.length c.from_bytes-n.ensures.length_is (omega arith), c.from_bytes-n.ensures.nonzeros_is)

pub returns : goal.returns
returns c =
    let x = number c.args.s.now in
    by_some c.args.c c.args.a x c.from_bytes-n.result c.from_bytes-n.ensures (end c.args.c c.args.a x c.from_bytes-n.result c.from_bytes-n.ensures c.loop-k.r c.loop-k.k c.loop-k.invariant (omega arith))
