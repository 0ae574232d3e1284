use Rattle.record_numbers.proofs.write.Numbers.{Row}
use Rattle.record_numbers.proofs.write.numbers_of.Given as goal

abbrev pub invariant-loop-k : goal.invariant-loop-k
invariant-loop-k l = Row l.m l.n l.r l.x l.k
