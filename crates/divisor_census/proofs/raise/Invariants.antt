use Rattle.divisor_census.proofs.Raising.{Clearing}
use Rattle.divisor_census.proofs.raise.Given as goal

abbrev pub invariant-loop-k : goal.invariant-loop-k
invariant-loop-k l = Clearing l.m l.n l.initial.row l.row l.k
