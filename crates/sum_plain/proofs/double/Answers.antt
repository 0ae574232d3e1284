use Rattle.sum_plain.proofs.Sums.{to_sum, sum_gives, double-gives}
use mathlib.Core.Path.{subst}
use Rattle.curve.specs.declared.Equation.{Equation}
use Rattle.curve.specs.polynomials.Few.{OfEquation}
use Rattle.sum_plain.proofs.double.Goals as goal

pub double-requires : goal.double-requires
double-requires c = to_sum c.args.c c.f_of-f.result (subst (λ (e : Equation). OfEquation e c.f_of-f.result) c.equation.ensures c.f_of-f.ensures) c.args.a c.args.a c.pair_of-x.result c.pair_of-x.result c.pair_of-x.ensures c.pair_of-x.ensures c.requires c.requires

pub returns : goal.returns
returns c = double-gives c.args.c c.args.a c.divisor_of.result (sum_gives c.args.c c.f_of-f.result (subst (λ (e : Equation). OfEquation e c.f_of-f.result) c.equation.ensures c.f_of-f.ensures) c.args.a c.args.a c.pair_of-x.result c.pair_of-x.result c.pair_of-x.ensures c.pair_of-x.ensures c.requires c.requires c.double.result c.double.ensures c.divisor_of.result c.divisor_of.ensures)
