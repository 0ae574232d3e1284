use Prim.Native.Nat.{◌≤◌}
use Rattle.curve.specs.Curves.{Gives}
use Rattle.sum_lanes.specs.Lanes.{together, lane}
use Rattle.sum_lanes.proofs.lane_total.Given as goal

abbrev pub invariant-loop-i : goal.invariant-loop-i
invariant-loop-i l = (l.i ≤ 16) × Gives l.c l.t (together l.c (lane l.l) l.i)
