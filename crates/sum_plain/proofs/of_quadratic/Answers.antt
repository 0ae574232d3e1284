use Rattle.divisor.specs.declared.Divisor.TheVariants.{Two}
use Rattle.sum_plain.proofs.Convert.{pair_is}
use Rattle.sum_plain.proofs.of_quadratic.Goals as goal

pub returns : goal.returns
returns c = pair_is c.args.m (Two c.args.d) _ c.one.result c.one.ensures c.parabola-u.ensures c.line-v.ensures
