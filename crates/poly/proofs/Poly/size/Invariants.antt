use Rattle.algebra.proofs.Poly.Bound.{Below}
use Rattle.algebra.proofs.Poly.Poly.{coef}
use Rattle.poly.specs.Polys.{K, pol_l}
use Rattle.poly.proofs.Poly.size.Given as goal

abbrev pub invariant-loop-n : goal.invariant-loop-n
invariant-loop-n l = Below (K l.m) l.n (coef (K l.m) (pol_l l.m l.self.c))
