use Rattle.poly_root.proofs.rests.Raising.{Raising}
use Rattle.poly_root.proofs.rests.raise.Given as goal

abbrev pub invariant-loop-k : goal.invariant-loop-k
invariant-loop-k l = Raising l.m l.u l.initial.y l.n l.x l.y l.k

abbrev pub decreases-loop-k : goal.decreases-loop-k
decreases-loop-k l = l.k
