use mathlib.Core.Path.{sym, subst}
use Rattle.divisor.specs.declared.Divisor.{Divisor}
use Rattle.divisor.specs.Divisors.{Held}
use Rattle.sum_plain.specs.Pairs.{AsPair}
use Rattle.sum_plain.proofs.Convert.{pair_neutral}
use Rattle.sum_plain.proofs.pair_of.Goals as goal

pub returns-in-Neutral : goal.returns-in-Neutral
returns-in-Neutral c = subst (λ (d : Divisor). AsPair c.args.m d (record { u = c.one-u.result; v = c.zero-v.result })) (sym c.in-Neutral.is) (pair_neutral c.args.m (record { u = c.one-u.result; v = c.zero-v.result }) c.one-u.ensures c.zero-v.ensures)
