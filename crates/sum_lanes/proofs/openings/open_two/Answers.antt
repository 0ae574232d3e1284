use native.Mathlib.Omega.{arith}
use mathlib.Core.Logic.{inl, inr}
use Rattle.sum_lanes.proofs.openings.Sums.{looked_known, both_units}
use Rattle.sum_lanes.proofs.openings.open_two.Goals as goal

pub returns-in-Flat : goal.returns-in-Flat
returns-in-Flat c =
    let l = looked_known c.args.c.prime.m c.chord-o.result.r c.chord-o.result.s.c1 c.in-Flat.is c.look.ensures in
    record {
      from = inr (record { o = c.chord-o.result; opens = record { genus = (omega (arith, c.if-c-ne2.false)); opens = c.chord-o.ensures }; nonzero = l.0; top = l.1 });
      fit = tt;
    }
