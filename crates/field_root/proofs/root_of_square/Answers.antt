use Rattle.field_root.proofs.Descent.{first_level, stays, changes, descended}
use Rattle.field_root.proofs.Descent.{stays, changes, descended}
use Rattle.field.proofs.Decide.{decided_yes, decided_no}
use Rattle.field_montgomery.proofs.Finishing.{power_is}
use native.Mathlib.Omega.{arith}
use Prim.Native.Nat.{ℕ, ◌-◌, ◌/◌}
use mathlib.Core.Path.{ap}
use mathlib.Core.Path.{◌≡◌}
use Rattle.field.specs.Residues.{el}
use Rattle.field_root.proofs.root_of_square.Goals as goal

pub loop-i-preserved-then-is_one : goal.loop-i-preserved-then-is_one
loop-i-preserved-then-is_one c =
    stays c.args.prime.m c.args.prime.prime c.loop-i.invariant c.loop-i-test.true _ c.sqr-d.ensures _ (power_is _ (omega (arith, c.loop-i.invariant.few))) _ c.power.ensures (decided_yes {b = c.is_one.result} c.if-is_one.true c.is_one.ensures)

pub loop-i-preserved : goal.loop-i-preserved
loop-i-preserved c =
    changes c.args.prime.m c.args.prime.prime c.loop-i.invariant c.loop-i-test.true _ c.sqr-d.ensures _ (power_is _ (omega (arith, c.loop-i.invariant.few))) _ _ _ c.power.ensures (decided_no {A = el _ _ ≡ _} {b = c.is_one.result} c.if-is_one.false c.is_one.ensures) c.mul-x.ensures c.mul-b.ensures

pub returns : goal.returns
returns c = descended c.args.prime.m c.args.prime.prime c.args.a c.loop-i.invariant (first_level c.args.prime.m c.args.prime.prime c.args.a _ (ap (λ (n : ℕ). (n - 1) / 2) c.number.ensures) _ _ _ _ _ c.twos-twos.ensures c.requires c.least_nonsquare.ensures c.power-x.ensures c.power-b.ensures c.power-c.ensures) (omega (arith, c.loop-i-test.false))
