use Rattle.std.proofs.Common.{arith, subst, sym}
use Rattle.curve.proofs.Contains.{neutral-holds}
use Rattle.curve.specs.Curves.{Holds}
use Rattle.curve.specs.Record.{record_of}
use Rattle.divisor.specs.Divisors.{pair}
use Rattle.text_lines.proofs.Rule.Census.{fewer}
use Rattle.text_files.proofs.print_lines.Goals as goal

pub loop-y-init : goal.loop-y-init
loop-y-init g c = subst (Holds c.args.c) (sym c.neutral-d.ensures) (neutral-holds c.args.c)

-- Each turn leaves one divisor less behind the one printed.
pub loop-y-smaller : goal.loop-y-smaller
loop-y-smaller g c =
    fewer (record_of c.args.c) (omega (arith, c.args.c.prime.m.odd.from)) (omega (arith, c.args.c.prime.m.odd.most))
    (pair c.args.c.prime.m c.loop-y.d) c.loop-y.invariant.valid _ c.in-Some.ensures.1
