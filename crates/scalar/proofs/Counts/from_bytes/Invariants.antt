use Rattle.scalar.proofs.Counting.{Reading}
use Rattle.scalar.proofs.Counts.from_bytes.Given as goal

abbrev pub invariant-loop-j : goal.invariant-loop-j
invariant-loop-j l = Reading l.s l.carry l.length l.nonzeros l.j
