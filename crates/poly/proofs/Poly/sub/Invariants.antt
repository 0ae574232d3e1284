use Rattle.poly.specs.Polys.{P, pol}
use Rattle.poly.proofs.Build.{Built}
use Rattle.poly.proofs.Poly.sub.Given as goal

abbrev pub invariant-loop-k : goal.invariant-loop-k
invariant-loop-k l = Built l.m (pol l.m l.self) ((P l.m).neg (pol l.m l.other)) 0 l.other.n l.r.c l.k
