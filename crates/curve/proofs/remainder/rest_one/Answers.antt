use Rattle.field.proofs.Laws.{settled_kept}
use Rattle.curve.proofs.Rests.{rests_one}
use Rattle.curve.proofs.remainder.rest_one.Goals as goal

pub returns : goal.returns
returns c = rests_one c.args.c c.args.d c.top_one-a.ensures c.turn_one-a4.ensures c.turn_one-a3.ensures c.turn_one-a2.ensures c.turn_one-a1.ensures c.less-h0.ensures c.turn_one.ensures
