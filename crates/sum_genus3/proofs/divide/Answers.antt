use mathlib.Core.Path.{refl, ap₂, ◌∙◌}
use Rattle.algebra.proofs.Zmod.Zmod.{zmod}
use Rattle.field.proofs.Laws.{settled_kept}
use Rattle.algebra.proofs.Poly.Term.{constants}
use Rattle.sum_formulas.proofs.Genus2.{unit2_is}
use Rattle.sum_formulas.proofs.Close3.{slope_is}
use Rattle.sum_genus3.proofs.divide.Goals as goal

pub returns : goal.returns
returns c =
    let K = zmod c.args.m.p in
    record {
      kept = record { w = c.mul-w.ensures.kept; wi = c.mul-wi.ensures.kept; s0 = c.mul-p0.ensures.kept; s1 = c.mul-p1.ensures.kept };
      unit = unit2_is K _ _ _ _ _ _
          c.mul-x.ensures.is
          (c.mul-w.ensures.is ∙ ap₂ K.mul c.sqr.ensures.is refl)
          c.mul-wi.ensures.is
          c.requires.is
          ∙ (constants K).h_one;
      is = slope_is K _ _ _ _ _ _ _ _ _
          c.mul-x.ensures.is
          (c.mul-w.ensures.is ∙ ap₂ K.mul c.sqr.ensures.is refl)
          c.mul-p0.ensures.is
          c.mul-p1.ensures.is
          c.requires.is;
    }
