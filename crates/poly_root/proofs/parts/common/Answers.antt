use Rattle.poly_root.proofs.parts.Parts.{cubic_poly, rest_poly, shared}
use Rattle.poly_root.proofs.parts.common.Goals as goal

pub returns : goal.returns
returns c = shared c.args.prime.m c.args.prime.prime c.args.u c.args.r (cubic_poly c.args.prime.m c.args.u _ c.one.ensures c.parabola.ensures c.put-a.ensures) (rest_poly c.args.prime.m c.args.r c.settle.ensures c.settle-2.ensures c.settle-3.ensures c.parabola-b.ensures) c.gcd.ensures
