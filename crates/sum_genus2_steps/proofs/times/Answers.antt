use mathlib.Core.Path.{◌∙◌}
use Rattle.algebra.proofs.Zmod.Zmod.{zmod}
use Rattle.field.proofs.Laws.{settled_kept}
use Rattle.sum_genus2_steps.proofs.Tables.{times_is}
use Rattle.sum_genus2_steps.proofs.times.Goals as goal

pub returns : goal.returns
returns c = record {
  c0 = c.cross-s0.ensures.kept;
  c1 = c.settle-s1.ensures.settled;
  q = _;
  is = times_is (zmod c.args.m.p) _ _ _ _ _ _ _ _ _ _ c.requires.1.0.is
      c.mul-k.ensures.is
      (c.settle-s1.ensures.is ∙ c.dot.ensures.is)
      c.cross-s0.ensures.is;
}
