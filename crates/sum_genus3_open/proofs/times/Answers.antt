use mathlib.Core.Path.{refl, ap₂, ◌∙◌}
use Rattle.algebra.proofs.Zmod.Zmod.{zmod}
use Rattle.field.proofs.Laws.{settled_kept}
use Rattle.sum_formulas.proofs.Open3.{times_is}
use Rattle.sum_genus3_open.proofs.times.Goals as goal

pub returns : goal.returns
returns c =
    let K = zmod c.args.m.p in
    record {
      settled = record { c0 = c.cross-s0.ensures.kept; c1 = c.add-s1.ensures.kept; c2 = c.settle-s2.ensures.settled };
      q = _;
      is = times_is K _ _ _ _ _ _ _ _ _ _ _ _ _ _ _ _
          c.requires.1.0.low
          c.dot-p.ensures.is
          c.dot-q.ensures.is
          c.dot-d.ensures.is
          (c.settle-s2.ensures.is ∙ (c.add.ensures.is ∙ ap₂ K.add refl c.mul.ensures.is))
          (c.add-s1.ensures.is ∙ ap₂ K.add c.dot.ensures.is c.cross.ensures.is)
          c.cross-s0.ensures.is;
    }
