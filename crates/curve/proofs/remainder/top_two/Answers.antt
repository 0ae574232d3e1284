use Rattle.field.proofs.Laws.{settled_kept}
use Rattle.curve.proofs.Rests.{top_two_low, top_two_high}
use Rattle.curve.proofs.remainder.top_two.Goals as goal

pub returns-then-g-eq2 : goal.returns-then-g-eq2
returns-then-g-eq2 c = top_two_low c.args.c _ c.one-o.ensures c.args.d c.if-g-eq2.true

pub returns : goal.returns
returns c = top_two_high c.args.c _ c.one-o.ensures c.args.d c.if-g-eq2.false _ _ c.turn_two-b.ensures c.turn_two.ensures
