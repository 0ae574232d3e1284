use native.Mathlib.Omega.{arith}
use Rattle.poly_euclid.proofs.Steps.{scaled_zero, scaled}
use Rattle.poly_euclid.proofs.Line.monic.Goals as goal

pub returns-then-r-eq0 : goal.returns-then-r-eq0
returns-then-r-eq0 c = scaled_zero c.args.prime.m c.requires (omega (arith, c.if-r-eq0.true))

pub returns : goal.returns
returns c = scaled c.args.prime.m c.lead_inverse-x.result c.requires (omega arith) c.lead_inverse-x.ensures.1 c.scale-r1.ensures c.scale-s1.ensures c.scale-t1.ensures
