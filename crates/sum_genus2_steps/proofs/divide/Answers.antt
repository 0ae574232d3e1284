use mathlib.Core.Path.{refl, ap₂, ◌∙◌}
use Rattle.algebra.proofs.Zmod.Zmod.{zmod}
use Rattle.algebra.proofs.Poly.Term.{constants}
use Rattle.sum_formulas.proofs.Genus2.{slope2_is, unit2_is}
use Rattle.sum_genus2_steps.proofs.divide.Goals as goal

pub returns : goal.returns
returns c = let K = zmod c.args.m.p in record {
  kept = record { w = c.mul-w.ensures.kept; wi = c.mul-wi.ensures.kept; t = c.mul-t.ensures.kept };
  unit = unit2_is K _ _ _ _ _ _ c.mul-x.ensures.is (c.mul-w.ensures.is ∙ ap₂ K.mul c.sqr.ensures.is refl) c.mul-wi.ensures.is c.requires.1.1.is ∙ (constants K).h_one;
  is = slope2_is K _ _ _ _ _ _ _ c.mul-x.ensures.is (c.mul-w.ensures.is ∙ ap₂ K.mul c.sqr.ensures.is refl) c.mul-t.ensures.is c.requires.1.1.is;
}
