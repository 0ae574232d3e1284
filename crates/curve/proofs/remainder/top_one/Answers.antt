use Rattle.field.proofs.Laws.{settled_kept}
use Rattle.curve.proofs.Rests.{top_one_low, top_one_high}
use Rattle.curve.proofs.remainder.top_one.Goals as goal

pub returns-then-g-eq2 : goal.returns-then-g-eq2
returns-then-g-eq2 c = top_one_low c.args.c _ c.one-a.ensures c.args.d c.if-g-eq2.true

pub returns : goal.returns
returns c = top_one_high c.args.c _ c.one-a.ensures c.args.d c.if-g-eq2.false _ _ c.turn_one-b.ensures c.turn_one.ensures
