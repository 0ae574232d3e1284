use Rattle.sum_genus2.proofs.Found.{opens}
use Rattle.sum_genus2.proofs.chord.Goals as goal

pub returns : goal.returns
returns c = opens c.args.prime.m c.args.prime.prime c.args.a c.args.b
    c.invert_u-x.result c.invert_u-x.ensures.0 c.invert_u-x.ensures.1
    c.v_gap-c.result c.v_gap-c.ensures
    c.times-s.result c.times-s.ensures
