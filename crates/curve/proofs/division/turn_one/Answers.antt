use Rattle.field.proofs.Laws.{settled_kept}
use Rattle.curve.proofs.division.Turned.{turned_one}
use Rattle.curve.proofs.division.turn_one.Goals as goal

pub returns : goal.returns
returns c = turned_one c.args.m c.args.d c.args.c c.args.a _ c.less.ensures
