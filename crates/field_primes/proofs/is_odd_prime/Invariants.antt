use Prim.Native.Nat.{◌-◌}
use Rattle.field_primes.proofs.Trial.{Tried}
use Rattle.field_primes.proofs.is_odd_prime.Given as goal

abbrev pub invariant-loop-d : goal.invariant-loop-d
invariant-loop-d l = Tried l.p l.d

abbrev pub decreases-loop-d : goal.decreases-loop-d
decreases-loop-d l = l.p - l.d
