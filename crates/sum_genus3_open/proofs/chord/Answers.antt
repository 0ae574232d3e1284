use Rattle.sum_genus3_open.proofs.Joined.{joins}
use Rattle.sum_genus3_open.proofs.chord.Goals as goal

pub returns : goal.returns
returns c =
    record {
      ready = record { r = c.invert_u-x.ensures.settled; s = c.times-s.ensures.settled };
      none = c.invert_u-x.ensures.none;
      joins = joins c.args.prime.m c.args.prime.prime c.args.a c.args.b c.invert_u-x.result c.invert_u-x.ensures c.v_gap-c.result c.v_gap-c.ensures c.times-s.result c.times-s.ensures;
    }
