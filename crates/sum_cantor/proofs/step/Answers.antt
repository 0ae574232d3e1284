use Rattle.sum_cantor.proofs.Stepping.{step_monic, step_is}
use Rattle.sum_cantor.proofs.step.Goals as goal

pub div_rem-d-requires : goal.div_rem-d-requires
div_rem-d-requires c = record { left = c.neg.ensures.ok; right = c.monic-u.ensures.made.ok; monic = step_monic c.args.prime.m c.args.prime.prime c.args.f c.args.x c.requires c.cofactor.result c.cofactor.ensures c.monic-u.result c.monic-u.ensures }

pub returns : goal.returns
returns c = step_is c.args.prime.m c.args.prime.prime c.args.f c.args.x c.requires c.cofactor.result c.cofactor.ensures c.monic-u.result c.monic-u.ensures c.neg.result c.div_rem-d.result.quotient c.div_rem-d.result.remainder c.neg.ensures c.div_rem-d.ensures
