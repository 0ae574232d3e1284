use Rattle.poly.specs.Polys.{pol}
use Rattle.poly.proofs.Build.{Built}
use Rattle.poly.proofs.Poly.add.Given as goal

abbrev pub invariant-loop-k : goal.invariant-loop-k
invariant-loop-k l = Built l.m (pol l.m l.self) (pol l.m l.other) 0 l.other.n l.r.c l.k
