use mathlib.Core.Path.{◌≡◌}
use Rattle.poly_euclid.proofs.Cofactors.{Extended}
use Rattle.poly_euclid.proofs.xgcd.Given as goal

abbrev pub invariant-loop-n : goal.invariant-loop-n
invariant-loop-n l = Extended l.prime.m l.initial.x.r l.initial.y.r l.x l.y × (l.n ≡ l.y.r.n)

abbrev pub decreases-loop-n : goal.decreases-loop-n
decreases-loop-n l = l.n
