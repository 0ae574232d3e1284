use Rattle.scan_total.proofs.numbers.Mapped.{Changing}
use Rattle.scan_total.proofs.numbers.Kept.{Leaves}
use Rattle.scan_total.proofs.numbers.numbers_of.Given as goal

abbrev pub invariant-loop-k : goal.invariant-loop-k
invariant-loop-k l = Changing (Leaves l.m) l.w l.initial.r l.r l.k
