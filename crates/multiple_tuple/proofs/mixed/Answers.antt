use Rattle.multiple_tuple.proofs.Sums.{mixed_is}
use Rattle.multiple_tuple.proofs.mixed.Goals as goal

pub returns : goal.returns
returns c = mixed_is c.args.prime.m c.args.prime.prime c.args.f4 c.args.a c.args.b c.widen_plain-p.result c.widen_plain-p.ensures c.through.result c.through.ensures
