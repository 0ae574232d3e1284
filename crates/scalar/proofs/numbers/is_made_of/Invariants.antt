use Prim.Native.Nat.{◌/◌}
use lib.ListN.{length}
use Rattle.rules.specs.Bytes.{number}
use Rattle.scalar.proofs.numbers.Stripped.{Looking}
use Rattle.scalar.proofs.numbers.is_made_of.Given as goal

abbrev pub invariant-loop-i : goal.invariant-loop-i
invariant-loop-i l = Looking l.primes (length l.primes / 4) (number l.initial.left) l.last (number l.left) l.i
