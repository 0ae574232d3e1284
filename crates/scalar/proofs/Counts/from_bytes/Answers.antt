use Rattle.scalar.proofs.Counting.{reading_turns, reading_ends}
use Rattle.scalar.proofs.Counts.from_bytes.Goals as goal

pub loop-j-preserved : goal.loop-j-preserved
loop-j-preserved c = reading_turns c.args.s.now (λ i. (c.type_inv.s i).fits) c.loop-j.carry c.loop-j.length c.loop-j.nonzeros c.loop-j.j c.loop-j.invariant c.loop-j-test.true c.risen-length.result c.risen-length.ensures

pub returns : goal.returns
returns c =
    let e = reading_ends c.args.s.now (λ i. (c.type_inv.s i).fits) c.loop-j.carry c.loop-j.length c.loop-j.nonzeros c.loop-j.j c.loop-j.invariant c.loop-j-test.false in
    record { length_is = e.0; nonzeros_is = e.1 }
