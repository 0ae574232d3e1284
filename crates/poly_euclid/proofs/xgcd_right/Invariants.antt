use mathlib.Core.Path.{◌≡◌}
use Rattle.poly_euclid.proofs.Cofactors.{Halving}
use Rattle.poly_euclid.proofs.xgcd_right.Given as goal

abbrev pub invariant-loop-size : goal.invariant-loop-size
invariant-loop-size l = Halving l.m l.initial.x.r l.initial.y.r l.x l.y × (l.size ≡ l.y.r.n)

abbrev pub decreases-loop-size : goal.decreases-loop-size
decreases-loop-size l = l.size
