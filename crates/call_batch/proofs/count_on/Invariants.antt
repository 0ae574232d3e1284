use Prim.Native.Nat.{◌-◌}
use lib.ListN.{length}
use Rattle.call_batch.proofs.Counts.{Counting}
use Rattle.call_batch.proofs.count_on.Given as goal

abbrev pub invariant-loop-a : goal.invariant-loop-a
invariant-loop-a l = Counting l.c l.s l.k l.a

abbrev pub decreases-loop-a : goal.decreases-loop-a
decreases-loop-a l = length l.s - l.a
