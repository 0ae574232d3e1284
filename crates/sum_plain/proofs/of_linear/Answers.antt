use Rattle.divisor.specs.declared.Divisor.TheVariants.{One}
use Rattle.curve.proofs.polynomials.Few.{one_term}
use Rattle.sum_plain.proofs.Convert.{pair_is}
use Rattle.sum_plain.proofs.of_linear.Goals as goal

pub returns : goal.returns
returns c = pair_is c.args.m (One c.args.d) _ c.one.result c.one.ensures c.line-u.ensures (one_term c.args.m _ c.constant-v.ensures)
