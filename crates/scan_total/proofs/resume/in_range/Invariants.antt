use Rattle.scan_total.proofs.resume.Ranges.{Ranged}
use Rattle.scan_total.proofs.resume.in_range.Given as goal

abbrev pub invariant-loop-k : goal.invariant-loop-k
invariant-loop-k l = Ranged l.m l.k-end l.r l.k
