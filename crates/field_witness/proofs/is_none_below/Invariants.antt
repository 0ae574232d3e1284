use mathlib.Core.Path.{◌≡◌}
use lib.ListN.{drop}
use Rattle.algebra.proofs.Ring.Power.{has_power_one}
use Rattle.algebra.proofs.Zmod.PrimeField.{modulo}
use Rattle.field.specs.Residues.{el}
use Rattle.rules.specs.Orders.Tests.{is_none_below}
use Rattle.field_witness.proofs.is_none_below.Given as goal

abbrev pub invariant-loop-j : goal.invariant-loop-j
invariant-loop-j l = is_none_below (has_power_one (modulo l.m.p) (el l.m l.a)) l.n (drop l.j l.q) ≡ is_none_below (has_power_one (modulo l.m.p) (el l.m l.a)) l.n l.q
