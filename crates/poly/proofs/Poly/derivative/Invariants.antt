use Rattle.poly.proofs.Derivative.{Deriving}
use Rattle.poly.proofs.Poly.derivative.Given as goal

abbrev pub invariant-loop-k : goal.invariant-loop-k
invariant-loop-k l = Deriving l.m l.self l.r.c l.i l.k
