use Rattle.sum_cantor.proofs.Stepping.{Reducing}
use Rattle.sum_cantor.proofs.reduce.Given as goal

abbrev pub invariant-loop-n : goal.invariant-loop-n
invariant-loop-n l = Reducing l.prime.m l.f l.initial.y l.y l.n

abbrev pub decreases-loop-n : goal.decreases-loop-n
decreases-loop-n l = l.n
