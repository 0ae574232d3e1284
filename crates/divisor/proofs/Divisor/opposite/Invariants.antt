use Rattle.divisor.proofs.Opposite.{Turning}
use Rattle.divisor.proofs.Divisor.opposite.Given as goal

abbrev pub invariant-loop-k : goal.invariant-loop-k
invariant-loop-k l = Turning l.m l.w l.initial.r l.r l.k
