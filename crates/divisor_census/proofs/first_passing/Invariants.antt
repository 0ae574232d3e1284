use Rattle.divisor_census.proofs.Screening.{Passing}
use Rattle.divisor_census.proofs.first_passing.Given as goal

abbrev pub invariant-loop-n : goal.invariant-loop-n
invariant-loop-n l = Passing l.m l.s l.initial.x l.x l._n
