use mathlib.Core.Path.{sym, ◌∙◌}
use native.Mathlib.Omega.{arith}
use Rattle.field.proofs.Decide.{decided_yes, decided_no}
use Rattle.record_divisor.proofs.Divisors.{no_weight, too_heavy, no_room, fits-within, too_large, held, on_curve, off_curve}
use borrow.Author.Tests.{not-true, not-false}
use Rattle.std.proofs.Common.{ap}
use Rattle.std.proofs.Common.{not}
use Rattle.record_divisor.proofs.divisor_at.Goals as goal

pub returns-then-s-a : goal.returns-then-s-a
returns-then-s-a c = no_weight c.args.c c.args.whole c.args.s.now c.args.a c.if-s-a.true

pub returns-then-g-w : goal.returns-then-g-w
returns-then-g-w c = too_heavy c.args.c c.args.whole c.args.s.now c.args.a _ c.wide-w.ensures.0 c.if-s-a.false c.if-g-w.true

pub returns-then-not-record_fits : goal.returns-then-not-record_fits
returns-then-not-record_fits c = no_room c.args.c c.args.whole c.args.s.now c.args.a _ c.wide-w.ensures.0 c.if-s-a.false c.if-g-w.false (sym c.record_fits.ensures ∙ not-true _ (ap not c.if-not-record_fits.true))

pub returns-in_default : goal.returns-in_default
returns-in_default c = too_large c.args.c c.args.whole c.args.s.now c.args.a _ c.wide-w.ensures.0 c.if-s-a.false c.if-g-w.false (sym c.record_fits.ensures ∙ not-false _ (ap not c.if-not-record_fits.false)) c.in_default.ensures

pub contains-requires : goal.contains-requires
contains-requires c = (held c.args.c c.args.whole c.args.s.now c.args.a _ c.wide-w.ensures.0 c.if-s-a.false c.if-g-w.false (sym c.record_fits.ensures ∙ not-false _ (ap not c.if-not-record_fits.false)) _ c.in-Some.ensures _ c.of_row-d.ensures.0 c.of_row-d.ensures.1, omega (arith, c.of_row-d.ensures.0, c.if-g-w.false))

pub returns-then-not-contains : goal.returns-then-not-contains
returns-then-not-contains c =
    off_curve c.args.c c.args.whole c.args.s.now c.args.a _ c.wide-w.ensures.0 c.if-s-a.false c.if-g-w.false (sym c.record_fits.ensures ∙ not-false _ (ap not c.if-not-record_fits.false)) _ c.in-Some.ensures _ c.of_row-d.ensures.0 c.of_row-d.ensures.1 (decided_no {b = c.contains.result} (not-true _ (ap not c.if-not-contains.true)) c.contains.ensures)

pub returns : goal.returns
returns c =
    on_curve c.args.c c.args.whole c.args.s.now c.args.a _ c.wide-w.ensures.0 c.if-s-a.false c.if-g-w.false (sym c.record_fits.ensures ∙ not-false _ (ap not c.if-not-record_fits.false)) _ c.in-Some.ensures _ c.of_row-d.ensures.0 c.of_row-d.ensures.1 (decided_yes {b = c.contains.result} (not-false _ (ap not c.if-not-contains.false)) c.contains.ensures)
