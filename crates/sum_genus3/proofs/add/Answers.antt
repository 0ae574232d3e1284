use mathlib.Core.Logic.{inl, inr}
use Rattle.field.proofs.Laws.{settled_kept}
use Rattle.field.proofs.Units.{product-unit}
use Rattle.rules.specs.Curve.{f}
use Rattle.sum_genus3_open.specs.Opens.{curve_with}
use Rattle.sum_genus3.proofs.Main.{told, taken, divisible}
use Rattle.sum_genus3.proofs.add.Goals as goal

pub inverse-i-requires : goal.inverse-i-requires
inverse-i-requires c =
    let u = taken c.args.prime.m c.args.prime.prime c.chord-o.result c.chord-o.ensures.ready c.look-k.result c.look-k.ensures c.in-Main.is in
    product-unit c.args.prime c.chord-o.result.r c.chord-o.result.s.c2 c.mul-p.result u.0 u.1 c.mul-p.ensures

pub returns-in-Main : goal.returns-in-Main
returns-in-Main c =
    let u = taken c.args.prime.m c.args.prime.prime c.chord-o.result c.chord-o.ensures.ready c.look-k.result c.look-k.ensures c.in-Main.is in
    record {
      held = c.close-d.ensures.held;
      is = λ g0 g1 g2 g3 ok va vb. c.close-d.ensures.is g0 g1 g2 g3 ok va vb (c.chord-o.ensures.joins u.0.nonzero (f (curve_with c.args.prime.m c.args.f4 c.args.f5 c.args.f6 g0 g1 g2 g3)));
    }
