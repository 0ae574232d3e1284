use Prim.Native.Nat.{◌-◌}
use lib.ListN.{length}
use Rattle.call_total.proofs.Totals.{Filling, Shutting}
use Rattle.call_total.proofs.total_on.Given as goal

abbrev pub invariant-loop-n : goal.invariant-loop-n
invariant-loop-n l = Shutting l.c l.s l.one l.sums l.next l.back l.n l.k l.a

abbrev pub decreases-loop-n : goal.decreases-loop-n
decreases-loop-n l = l.n

abbrev pub invariant-loop-a : goal.invariant-loop-a
invariant-loop-a l = Filling l.c l.s l.one l.sums l.next l.all l.n l.k l.a

abbrev pub decreases-loop-a : goal.decreases-loop-a
decreases-loop-a l = length l.s - l.a
