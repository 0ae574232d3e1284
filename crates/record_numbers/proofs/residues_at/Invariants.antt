use Rattle.record_numbers.proofs.Rows.{Filled}
use Rattle.record_numbers.proofs.residues_at.Given as goal

abbrev pub invariant-loop-k : goal.invariant-loop-k
invariant-loop-k l = Filled l.s l.a l.n l.m l.r l.k
