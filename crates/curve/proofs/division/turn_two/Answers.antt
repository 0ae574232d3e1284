use Rattle.field.proofs.Laws.{settled_kept}
use Rattle.curve.proofs.division.Turned.{turned_two}
use Rattle.curve.proofs.division.turn_two.Goals as goal

pub returns : goal.returns
returns c = turned_two c.args.m c.args.d c.args.c c.args.a _ c.less-c0.ensures c.less-c1.ensures
