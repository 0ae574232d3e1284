use Rattle.field.proofs.Laws.{settled_kept}
use Rattle.sum_genus2.proofs.Found.{opens_twice}
use Rattle.sum_genus2.proofs.tangent.Goals as goal

pub returns : goal.returns
returns c = opens_twice c.args.prime.m c.args.prime.prime c.args.f2 c.args.f3 c.args.f4 c.args.a
    c.invert_twice_v-x.result c.invert_twice_v-x.ensures
    c.cofactor_mod_u-c.result c.cofactor_mod_u-c.ensures
    c.times-s.result c.times-s.ensures
