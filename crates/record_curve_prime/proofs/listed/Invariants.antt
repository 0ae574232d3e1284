use Rattle.record_curve_prime.proofs.Rows.{Filled}
use Rattle.record_curve_prime.proofs.listed.Given as goal

abbrev pub invariant-loop-i : goal.invariant-loop-i
invariant-loop-i l = Filled l.s l.a l.k l.q l.i
