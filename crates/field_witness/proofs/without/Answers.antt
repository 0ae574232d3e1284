use Rattle.field_witness.proofs.Listed.{out_turn, out_end}
use Rattle.field_witness.proofs.without.Goals as goal

pub loop-k-preserved : goal.loop-k-preserved
loop-k-preserved c = out_turn c.args.n c.args.q c.loop-k.k c.requires.1 c.loop-k.invariant c.loop-k-test.true

pub returns : goal.returns
returns c = out_end c.args.n c.args.q c.loop-k.k c.requires.1 c.loop-k.invariant c.loop-k-test.false
