use Rattle.field_root.proofs.Search.{by_power}
use Prim.Native.Nat.{ℕ, ◌-◌, ◌/◌}
use mathlib.Core.Path.{◌∙◌, ap}
use Rattle.algebra.proofs.Ring.Power.{power}
use Rattle.algebra.proofs.Zmod.Zmod.{zmod}
use Rattle.field.specs.Residues.{el}
use Rattle.field_root.proofs.is_square.Goals as goal

pub returns : goal.returns
returns c = by_power c.args.prime.m c.args.prime.prime c.is_one.result (el c.args.prime.m c.args.a) _ c.requires.nonzero (c.power.ensures.is ∙ ap (λ (n : ℕ). power (zmod c.args.prime.m.p) (el c.args.prime.m c.args.a) ((n - 1) / 2)) c.number.ensures) c.is_one.ensures
