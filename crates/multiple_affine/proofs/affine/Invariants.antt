use Rattle.multiple_affine.proofs.promise.Multiplying.{Multiplying}
use Rattle.multiple_affine.proofs.affine.Given as goal

abbrev pub invariant-loop-k : goal.invariant-loop-k
invariant-loop-k l = Multiplying l.c l.a l.at l.length l.r l.k
