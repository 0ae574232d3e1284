use Rattle.multiple.proofs.Running.{Running}
use Rattle.multiple.proofs.by_tuples.Given as goal

abbrev pub invariant-loop-k : goal.invariant-loop-k
invariant-loop-k l = Running l.c l.a l.at l.length l.r l.k

abbrev pub decreases-loop-k : goal.decreases-loop-k
decreases-loop-k l = l.k
