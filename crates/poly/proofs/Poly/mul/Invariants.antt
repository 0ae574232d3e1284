use Rattle.field.specs.Residues.{el}
use Rattle.poly.specs.Polys.{pol_l}
use Rattle.poly.proofs.Rows.{Rowing}
use Rattle.poly.proofs.Product.{Multiplying}
use Rattle.poly.proofs.Poly.mul.Given as goal

abbrev pub invariant-loop-k : goal.invariant-loop-k
invariant-loop-k l = Rowing l.m (pol_l l.m l.initial.r.c) (el l.m l.x) l.i l.other l.r.c l.k

abbrev pub invariant-loop-i : goal.invariant-loop-i
invariant-loop-i l = Multiplying l.m l.self l.other l.r.c l.i
