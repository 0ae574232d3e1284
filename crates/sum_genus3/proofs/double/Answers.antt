use mathlib.Core.Logic.{inl, inr}
use Rattle.field.proofs.Laws.{settled_kept}
use Rattle.field.proofs.Units.{product-unit}
use Rattle.field.specs.Residues.{el}
use Rattle.sum_genus3.proofs.Main.{told, taken, divisible}
use Rattle.sum_genus3.proofs.double.Goals as goal

pub inverse-i-requires : goal.inverse-i-requires
inverse-i-requires c =
    let u = taken c.args.prime.m c.args.prime.prime c.tangent-o.result c.tangent-o.ensures.ready c.look-k.result c.look-k.ensures c.in-Main.is in
    product-unit c.args.prime c.tangent-o.result.r c.tangent-o.result.s.c2 c.mul-p.result u.0 u.1 c.mul-p.ensures
