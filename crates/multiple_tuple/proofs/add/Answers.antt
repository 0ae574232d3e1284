use Rattle.multiple_tuple.proofs.Sums.{added_is}
use Rattle.multiple_tuple.proofs.add.Goals as goal

pub returns : goal.returns
returns c = added_is c.args.prime.m c.args.prime.prime c.args.f4 c.args.a c.args.b c.mul-z.result c.mul-z.ensures.is c.widen-p.result c.widen-p.ensures c.widen-w.result c.widen-w.ensures c.through.result c.through.ensures
