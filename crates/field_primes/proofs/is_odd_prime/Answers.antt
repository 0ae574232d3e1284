use native.Mathlib.Omega.{arith}
use Rattle.field_primes.proofs.Trial.{tried_begin, left, room, tried_turn, tried-end, not_whole, not_divided, decides_small, three-prime, five_prime, fits}
use Rattle.field_primes.proofs.Decide.{decided_yes, decided_no}
use Rattle.field_primes.proofs.is_odd_prime.Goals as goal

pub returns : goal.returns
returns c = tried-end c.loop-d.invariant (omega arith) (omega arith) (omega arith)
