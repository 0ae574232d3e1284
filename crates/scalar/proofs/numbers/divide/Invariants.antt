use Rattle.scalar.proofs.numbers.Numbers.{Dividing}
use Rattle.scalar.proofs.numbers.divide.Given as goal

abbrev pub invariant-loop-k : goal.invariant-loop-k
invariant-loop-k l = Dividing l.n l.q l.quotient l.left l.k
