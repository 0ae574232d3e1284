use Rattle.multiple_tuple.proofs.Sums.{doubled_is}
use Rattle.multiple_tuple.proofs.double.Goals as goal

pub returns : goal.returns
returns c = doubled_is c.args.prime.m c.args.prime.prime c.args.f2 c.args.f3 c.args.f4 c.args.a c.cofactor_mod_u-k.result c.cofactor_mod_u-k.ensures c.tangent-s.result c.tangent-s.ensures c.prepare-p.result c.prepare-p.ensures c.new_u_twice-h.result c.new_u_twice-h.ensures c.new_v.result c.new_v.ensures
