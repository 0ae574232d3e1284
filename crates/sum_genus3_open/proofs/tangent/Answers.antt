use Rattle.sum_genus3_open.proofs.Joined.{joins_twice}
use Rattle.sum_genus3_open.proofs.tangent.Goals as goal

pub returns : goal.returns
returns c =
    record {
      ready = record { r = c.invert_twice_v-x.ensures.settled; s = c.times-s.ensures.settled };
      none = c.invert_twice_v-x.ensures.none;
      joins = joins_twice c.args.prime.m c.args.prime.prime c.args.f3 c.args.f4 c.args.f5 c.args.f6 c.args.a c.invert_twice_v-x.result c.invert_twice_v-x.ensures c.cofactor_mod_u-c.result c.cofactor_mod_u-c.ensures c.times-s.result c.times-s.ensures;
    }
