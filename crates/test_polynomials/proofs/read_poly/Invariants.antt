use Rattle.poly.specs.Polys.{Ok}
use Rattle.test_polynomials.proofs.read_poly.Given as goal

abbrev pub invariant-loop-k : goal.invariant-loop-k
invariant-loop-k l = Ok l.m l.r
