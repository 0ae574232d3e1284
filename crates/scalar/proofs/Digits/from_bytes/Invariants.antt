use Rattle.scalar.proofs.Recoding.{Recoding}
use Rattle.scalar.proofs.Digits.from_bytes.Given as goal

abbrev pub invariant-loop-k : goal.invariant-loop-k
invariant-loop-k l = Recoding l.s l.at l.next l.carry l.k
