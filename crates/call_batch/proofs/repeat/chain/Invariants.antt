use Prim.Native.Nat.{◌+◌}
use Rattle.call_batch.proofs.repeat.Hashes.{Mixing}
use Rattle.call_batch.proofs.repeat.chain.Given as goal

abbrev pub invariant-loop-k : goal.invariant-loop-k
invariant-loop-k l = Mixing l.s (l.a + 1) l.w l.k l.h
