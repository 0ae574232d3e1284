use mathlib.Core.Path.{◌≡◌}
use Prim.Native.Nat.{◌+◌, ◌-◌, ◌≤◌}
use Rattle.field.specs.Residues.{el}
use Rattle.poly.specs.Polys.{K, pol_l, pol}
use Rattle.poly.proofs.Rows.{Rowing}
use Rattle.poly.proofs.Division.{Reducing, Quoting}
use Rattle.poly.proofs.Poly.div_rem.Given as goal

abbrev pub invariant-loop-i : goal.invariant-loop-i
invariant-loop-i l = Rowing l.m (pol_l l.m l.initial.r.c) ((K l.m).neg (el l.m l.x)) l.k l.u l.r.c l.i × (l.i ≤ l.low)

abbrev pub invariant-rows : goal.invariant-rows
invariant-rows l = Reducing l.m l.initial.r l.u (pol l.m l.q) l.r.c l.k × (Quoting l.m l.initial.r l.u l.q.c l.k × (l.q.n ≡ l.initial.r.n + 1 - l.u.n))
