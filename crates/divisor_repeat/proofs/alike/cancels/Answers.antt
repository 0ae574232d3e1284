use Rattle.divisor_repeat.proofs.alike.Compared.{cancels_is}
use Rattle.divisor_repeat.proofs.alike.cancels.Goals as goal

pub returns : goal.returns
returns c = cancels_is c.args.m c.args.a c.args.b c.is_zero.result c.add.ensures c.settle.ensures c.is_zero.ensures
