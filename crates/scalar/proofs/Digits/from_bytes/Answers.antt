use Rattle.scalar.proofs.Recoding.{begin, turn, recoded}
use Rattle.scalar.proofs.Digits.from_bytes.Goals as goal

pub loop-k-init : goal.loop-k-init
loop-k-init c = begin c.args.s.now c.bit-next.result c.bit-next.ensures

pub loop-k-preserved : goal.loop-k-preserved
loop-k-preserved c =
    turn c.args.s.now c.loop-k.at c.loop-k.next c.loop-k.carry c.loop-k.k c.loop-k.invariant c.requires c.loop-k-test.true c.bit-next-in-loop-k.result c.bit-next-in-loop-k.ensures

pub returns : goal.returns
returns c =
    recoded c.args.s.now c.loop-k.at c.loop-k.next c.loop-k.carry c.loop-k.k c.loop-k.invariant c.requires (λ i. (c.type_inv.s i).fits) c.loop-k-test.false c.from_bytes-counts.result c.from_bytes-counts.ensures
