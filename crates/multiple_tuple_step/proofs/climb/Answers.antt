use mathlib.Core.Path.{ap}
use Rattle.field.proofs.Decide.{decided_no}
use Rattle.scalar.specs.Recoded.{digit}
use Rattle.scalar.proofs.Upper.{plus_else}
use Rattle.multiple_tuple_step.proofs.Climbing.{climbed, climbed_up, climbed_down}
use Rattle.multiple_tuple_step.proofs.climb.Goals as goal

pub returns-then-digit-eq-MINUS : goal.returns-then-digit-eq-MINUS
returns-then-digit-eq-MINUS c = climbed_down c.args.c c.args.f2 c.args.f3 c.args.f4 c.requires.reads c.args.q c.requires.right c.args.t c.double-d.result c.double-d.ensures c.args.digit (decided_no c.if-is_zero.false c.is_zero.ensures) c.args.p c.requires.opposed c.mixed.result c.mixed.ensures (ap digit c.if-digit-eq-MINUS.true)

pub returns-then-digit-eq-NULL : goal.returns-then-digit-eq-NULL
returns-then-digit-eq-NULL c = climbed c.args.c c.args.f2 c.args.f3 c.args.f4 c.requires.reads c.args.q c.requires.right c.args.t c.double-d.result c.double-d.ensures c.args.digit (decided_no c.if-is_zero.false c.is_zero.ensures) (ap digit c.if-digit-eq-NULL.true)

pub returns : goal.returns
returns c = climbed_up c.args.c c.args.f2 c.args.f3 c.args.f4 c.requires.reads c.args.q c.requires.right c.args.t c.double-d.result c.double-d.ensures c.args.digit (decided_no c.if-is_zero.false c.is_zero.ensures) c.mixed-2.result c.mixed-2.ensures (plus_else c.args.digit c.if-digit-eq-MINUS.false c.if-digit-eq-NULL.false)
