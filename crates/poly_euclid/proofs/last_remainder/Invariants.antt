use mathlib.Core.Path.{◌≡◌}
use Rattle.poly_euclid.proofs.Common.{Euclid}
use Rattle.poly_euclid.proofs.last_remainder.Given as goal

abbrev pub invariant-loop-n : goal.invariant-loop-n
invariant-loop-n l = Euclid l.prime.m l.initial.x l.initial.y l.x l.y × (l.n ≡ l.y.n)

abbrev pub decreases-loop-n : goal.decreases-loop-n
decreases-loop-n l = l.n
