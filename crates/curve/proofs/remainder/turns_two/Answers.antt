use Rattle.field.proofs.Laws.{settled_kept}
use Rattle.curve.proofs.Rests.{rests_two}
use Rattle.curve.proofs.remainder.turns_two.Goals as goal

pub returns : goal.returns
returns c = rests_two c.args.c c.args.d c.top_two-a.ensures c.dbl.ensures c.turn_two-a3.ensures c.less-h2.ensures c.turn_two-a2.ensures c.less-h1.ensures c.turn_two-a1.ensures c.less-h0.ensures c.turn_two.ensures
