use Rattle.field.specs.Residues.{el}
use Rattle.poly.specs.Polys.{P}
use Rattle.poly.proofs.Rows.{Rowing}
use Rattle.poly.proofs.Poly.scale.Given as goal

abbrev pub invariant-loop-k : goal.invariant-loop-k
invariant-loop-k l = Rowing l.m (P l.m).zer (el l.m l.x) 0 l.self l.r.c l.k
