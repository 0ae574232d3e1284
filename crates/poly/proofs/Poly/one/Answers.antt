use Rattle.poly.proofs.Values.{one_is}
use Rattle.poly.proofs.Poly.one.Goals as goal

pub returns : goal.returns
returns c = one_is c.args.m c.one.ensures c.constant.ensures
