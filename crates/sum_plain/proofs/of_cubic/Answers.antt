use Rattle.field.specs.Residues.{el}
use Rattle.divisor.specs.declared.Divisor.TheVariants.{Three}
use Rattle.divisor.specs.Divisors.{us, elements}
use Rattle.curve.proofs.polynomials.Few.{next_term}
use Rattle.sum_plain.proofs.Convert.{pair_is}
use Rattle.sum_plain.proofs.of_cubic.Goals as goal

pub returns : goal.returns
returns c = pair_is c.args.m (Three c.args.d) _ c.one.result c.one.ensures (next_term c.args.m (elements c.args.m (us (Three c.args.d))) (el c.args.m c.one.result) c.parabola.ensures c.put-u.ensures) c.parabola-v.ensures
