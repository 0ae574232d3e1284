use Prim.Native.Nat.{◌/◌}
use lib.ListN.{length}
use Rattle.rules.specs.Bytes.{number}
use Rattle.call_multiply.proofs.order.Folds.{Looking}
use Rattle.call_multiply.proofs.order.is_none_below.Given as goal

abbrev pub invariant-loop-j : goal.invariant-loop-j
invariant-loop-j l = Looking l.c l.a (number l.n) l.primes (length l.primes / 4) l.j
