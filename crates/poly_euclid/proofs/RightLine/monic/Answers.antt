use native.Mathlib.Omega.{arith}
use Rattle.poly_euclid.proofs.Steps.{half_zero, half_scaled}
use Rattle.poly_euclid.proofs.RightLine.monic.Goals as goal

pub returns-then-g-eq0 : goal.returns-then-g-eq0
returns-then-g-eq0 c = half_zero c.args.prime.m c.requires (omega (arith, c.if-g-eq0.true))

pub returns : goal.returns
returns c = half_scaled c.args.prime.m c.lead_inverse-x.result c.requires (omega arith) c.lead_inverse-x.ensures.1 c.scale-r1.ensures c.scale-t1.ensures
