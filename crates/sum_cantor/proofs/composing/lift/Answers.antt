use Rattle.sum_cantor.proofs.composing.Slopes.{lift_is}
use Rattle.sum_cantor.proofs.composing.lift.Goals as goal

pub returns : goal.returns
returns c = lift_is c.args.prime.m c.args.v2 c.args.e1 c.args.e2 c.args.k c.div_rem-d.result.quotient c.div_rem-d.result.remainder c.mul.result c.add.result c.requires c.div_rem-d.ensures c.mul.ensures c.add.ensures
