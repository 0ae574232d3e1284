use Rattle.sum_plain.proofs.Sums.{to_sum, sum_gives}
use mathlib.Core.Path.{subst}
use Rattle.curve.specs.declared.Equation.{Equation}
use Rattle.curve.specs.polynomials.Few.{OfEquation}
use Rattle.sum_plain.proofs.sum.Goals as goal

pub sum-requires : goal.sum-requires
sum-requires c = to_sum c.args.c c.f_of-f.result (subst (λ (e : Equation). OfEquation e c.f_of-f.result) c.equation.ensures c.f_of-f.ensures) c.args.a c.args.b c.pair_of-x.result c.pair_of-y.result c.pair_of-x.ensures c.pair_of-y.ensures c.requires.0 c.requires.1

pub returns : goal.returns
returns c = sum_gives c.args.c c.f_of-f.result (subst (λ (e : Equation). OfEquation e c.f_of-f.result) c.equation.ensures c.f_of-f.ensures) c.args.a c.args.b c.pair_of-x.result c.pair_of-y.result c.pair_of-x.ensures c.pair_of-y.ensures c.requires.0 c.requires.1 c.sum.result c.sum.ensures c.divisor_of.result c.divisor_of.ensures
