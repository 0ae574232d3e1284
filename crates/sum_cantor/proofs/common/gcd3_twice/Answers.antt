use Rattle.sum_cantor.proofs.common.CommonDivisor.{twice_is}
use Rattle.sum_cantor.proofs.common.gcd3_twice.Goals as goal

pub returns : goal.returns
returns c = twice_is c.args.prime.m c.args.u c.args.w c.xgcd_right-h.result c.zero-none.result c.requires c.xgcd_right-h.ensures c.zero-none.ensures
