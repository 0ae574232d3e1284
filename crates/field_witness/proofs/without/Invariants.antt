use Rattle.field_witness.proofs.Listed.{Out}
use Rattle.field_witness.proofs.without.Given as goal

abbrev pub invariant-loop-k : goal.invariant-loop-k
invariant-loop-k l = Out l.n l.q l.k

abbrev pub decreases-loop-k : goal.decreases-loop-k
decreases-loop-k l = l.k
