use Rattle.field_montgomery.proofs.Powers.{Powering}
use Rattle.field_montgomery.proofs.power.Given as goal

abbrev pub invariant-loop-k : goal.invariant-loop-k
invariant-loop-k l = Powering l.p l.q l.a l.n l.x l.y l.k

abbrev pub decreases-loop-k : goal.decreases-loop-k
decreases-loop-k l = l.k
