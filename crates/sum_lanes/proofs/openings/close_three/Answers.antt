use mathlib.Core.Path.{subst}
use Rattle.field.proofs.Laws.{settled_kept}
use Rattle.curve.specs.Curves.{Holds}
use Rattle.sum_lanes.proofs.openings.Sums.{closed_three, gives_known, three_known}
use Rattle.sum_lanes.proofs.openings.close_three.Goals as goal

pub returns-in-Three-Three : goal.returns-in-Three-Three
returns-in-Three-Three c =
    let h = Holds c.args.c in
    gives_known c.args.c c.in-Three-Three.is-0 c.in-Three-Three.is-1 _ (closed_three c.args.c _ _ _ c.args.o (three_known c.args.c c.in-Three-Three.is-0 c.in-Three-Three.is-1 c.args.o c.requires.1.1.0) c.requires.1.1.1.0.0 (subst h c.in-Three-Three.is-0 c.requires.0) (subst h c.in-Three-Three.is-1 c.requires.1.0) c.close.ensures)
