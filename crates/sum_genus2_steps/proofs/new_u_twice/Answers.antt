use mathlib.Core.Path.{refl, ap₂, ◌∙◌}
use Rattle.algebra.proofs.Zmod.Zmod.{zmod}
use Rattle.field.proofs.Laws.{settled_kept}
use Rattle.sum_formulas.proofs.Genus2.{quotient2_twice}
use Rattle.sum_genus2_steps.proofs.new_u_twice.Goals as goal

pub returns : goal.returns
returns c = let K = zmod c.args.m.p in record {
  kept = record { c0 = c.add-n0.ensures.kept; c1 = c.sub-n1.ensures.kept };
  tops = quotient2_twice K _ _ _ _ _ _ _ _ _ _
      c.sqr-w5.ensures.is
      (c.sub-n1.ensures.is ∙ ap₂ (λ x y. K.add x (K.neg y)) c.dbl.ensures.is refl)
      (c.add-n0.ensures.is ∙ ap₂ K.add (c.dot.ensures.is ∙ ap₂ K.add refl (ap₂ K.mul c.dbl-2.ensures.is refl)) (c.mul_diff.ensures.is ∙ ap₂ K.mul refl (ap₂ (λ x y. K.add x (K.neg y)) c.dbl-3.ensures.is refl)));
}
