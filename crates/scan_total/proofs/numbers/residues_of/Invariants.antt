use Rattle.scan_total.proofs.numbers.Mapped.{Changing}
use Rattle.scan_total.proofs.numbers.Kept.{Enters}
use Rattle.scan_total.proofs.numbers.residues_of.Given as goal

abbrev pub invariant-loop-k : goal.invariant-loop-k
invariant-loop-k l = Changing (Enters l.m) l.w l.initial.r l.r l.k
