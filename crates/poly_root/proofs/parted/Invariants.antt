use Rattle.poly_root.proofs.Shifts.{Tried}
use Rattle.poly_root.proofs.parted.Given as goal

abbrev pub invariant-loop-k : goal.invariant-loop-k
invariant-loop-k l = Tried l.m l.u l.a l._k
