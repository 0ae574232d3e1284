use Prim.Native.Nat.{◌+◌}
use Rattle.algebra.proofs.Zmod.Zmod.{zmod}
use Rattle.field_montgomery.proofs.halving.Halving.{Halving}
use Rattle.field_montgomery.proofs.halving.almost.Given as goal

abbrev pub invariant-loop-u : goal.invariant-loop-u
invariant-loop-u l = Halving l.p l.a (zmod l.p).one l.u l.v l.r l.s l.k

abbrev pub decreases-loop-u : goal.decreases-loop-u
decreases-loop-u l = l.u + l.v
