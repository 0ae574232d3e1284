use native.Mathlib.Omega.{arith}
use Rattle.sum_cantor.proofs.common.CommonDivisor.{coprime_is, common_is, common_fits}
use Rattle.sum_cantor.proofs.common.gcd3.Goals as goal

pub returns-then-first-eq1 : goal.returns-then-first-eq1
returns-then-first-eq1 c = coprime_is c.args.prime.m c.args.u1 c.args.u2 c.args.w c.requires c.xgcd_right-e.result c.xgcd_right-e.ensures c.zero-none.result c.zero-none.ensures c.if-first-eq1.true

pub returns : goal.returns
returns c = common_is c.args.prime.m c.args.u1 c.args.u2 c.args.w c.requires c.xgcd_right-e.result c.xgcd_right-e.ensures c.xgcd-h.result c.mul-s2.result c.xgcd-h.ensures c.mul-s2.ensures
