use mathlib.Core.Path.{subst}
use borrow.Author.Rules.{rules}
use native.Mathlib.Omega.{arith}
use Rattle.curve.specs.Curves.{Gives}
use Rattle.sum_lanes.specs.Lanes.{together, lane}
use Rattle.sum_lanes.proofs.Side.{together_none, together_more}
use Rattle.sum_lanes.proofs.lane_total.Goals as goal

pub loop-i-init : goal.loop-i-init
loop-i-init c = (omega arith, together_none _ (lane c.args.l) _ c.neutral-t.ensures)
