use mathlib.Core.Path.{sym, subst}
use Rattle.sum_plain.specs.Pairs.{FromPair}
use native.Mathlib.Omega.{arith}
use Rattle.divisor.specs.declared.Divisor.TheVariants.{Neutral}
use Rattle.sum_plain.proofs.Convert.{divisor_is}
use Rattle.sum_plain.proofs.divisor_of.Goals as goal

pub returns-then-n-eq1 : goal.returns-then-n-eq1
returns-then-n-eq1 c = subst (FromPair c.args.m c.args.x) (sym c.neutral.ensures) (divisor_is c.args.m c.args.x Neutral c.requires (sym c.if-n-eq1.true) tt tt)

pub returns-then-n-eq2 : goal.returns-then-n-eq2
returns-then-n-eq2 c = divisor_is c.args.m c.args.x _ c.requires (sym c.if-n-eq2.true) (c.coefficient-u0.ensures, tt) (c.coefficient-v0.ensures, tt)

pub returns-then-n-eq3 : goal.returns-then-n-eq3
returns-then-n-eq3 c = divisor_is c.args.m c.args.x _ c.requires (sym c.if-n-eq3.true) (c.coefficient-u0.ensures, (c.coefficient-u1.ensures, tt)) (c.coefficient-v0.ensures, (c.coefficient-v1.ensures, tt))

pub returns : goal.returns
returns c = divisor_is c.args.m c.args.x _ c.requires (omega (arith, c.if-n-eq3.false, c.if-n-eq2.false, c.if-n-eq1.false, c.requires.short, c.requires.monic.some)) (c.coefficient-u0.ensures, (c.coefficient-u1.ensures, (c.coefficient-u2.ensures, tt))) (c.coefficient-v0.ensures, (c.coefficient-v1.ensures, (c.coefficient-v2.ensures, tt)))
