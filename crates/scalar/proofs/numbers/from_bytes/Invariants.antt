use Rattle.scalar.proofs.numbers.Numbers.{Copied}
use Rattle.scalar.proofs.numbers.from_bytes.Given as goal

abbrev pub invariant-loop-k : goal.invariant-loop-k
invariant-loop-k l = Copied l.s l.n l.from l.k
