use Rattle.scalar.proofs.numbers.Numbers.{Capping}
use Rattle.scalar.proofs.numbers.capped.Given as goal

abbrev pub invariant-loop-k : goal.invariant-loop-k
invariant-loop-k l = Capping l.n l.t l.k
