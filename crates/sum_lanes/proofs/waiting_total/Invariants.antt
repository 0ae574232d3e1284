use Prim.Native.Nat.{◌≤◌}
use Rattle.curve.specs.Curves.{Gives}
use Rattle.sum_lanes.specs.Lanes.{together, waiter}
use Rattle.sum_lanes.proofs.waiting_total.Given as goal

abbrev pub invariant-loop-i : goal.invariant-loop-i
invariant-loop-i l = (l.i ≤ l.n) × Gives l.c l.t (together l.c (waiter l.l) l.i)
