use Prim.Native.Nat.{◌-◌}
use lib.ListN.{length}
use Rattle.call_batch.proofs.repeat.Listed.{Listing}
use Rattle.call_batch.proofs.repeat.repeat_on.Given as goal

abbrev pub invariant-loop-a : goal.invariant-loop-a
invariant-loop-a l = Listing l.c l.s l.places l.n l.a

abbrev pub decreases-loop-a : goal.decreases-loop-a
decreases-loop-a l = length l.s - l.a
