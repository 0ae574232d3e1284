use mathlib.Core.Path.{subst}
use Rattle.field.proofs.Laws.{settled_kept}
use Rattle.curve.specs.Curves.{Holds}
use Rattle.sum_lanes.proofs.openings.Sums.{closed_two, gives_known, two_known}
use Rattle.sum_lanes.proofs.openings.close_two.Goals as goal

pub returns-in-Two-Two : goal.returns-in-Two-Two
returns-in-Two-Two c =
    let h = Holds c.args.c in
    gives_known c.args.c c.in-Two-Two.is-0 c.in-Two-Two.is-1 _ (closed_two c.args.c _ _ _ c.args.o (two_known c.args.c c.in-Two-Two.is-0 c.in-Two-Two.is-1 c.args.o c.requires.1.1.0) c.requires.1.1.1.0.0 (subst h c.in-Two-Two.is-0 c.requires.0) (subst h c.in-Two-Two.is-1 c.requires.1.0) c.close.ensures)
