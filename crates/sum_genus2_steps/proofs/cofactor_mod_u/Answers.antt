use mathlib.Core.Path.{refl, ap₂, ◌∙◌}
use Rattle.algebra.proofs.Zmod.Zmod.{zmod}
use Rattle.field.proofs.Laws.{settled_kept}
use Rattle.sum_genus2_steps.proofs.Tables.{right_tops}
use Rattle.sum_genus2_steps.proofs.cofactor_mod_u.Goals as goal

pub returns : goal.returns
returns c = let K = zmod c.args.m.p in record {
  kept = record { c0 = c.sub-k0.ensures.kept; c1 = c.add-k1.ensures.kept };
  q = _;
  tops = λ f0 f1. right_tops K _ _ _ _ _ _ _ _ _ _ _ _ _ _ _ _ c.requires.1.0.is
      c.sub-k.ensures.is
      c.mul-e.ensures.is
      c.dbl-w4.ensures.is
      (c.add-d.ensures.is ∙ ap₂ K.add c.sub.ensures.is refl)
      (c.add-k1.ensures.is ∙ ap₂ K.add refl c.mul_sum.ensures.is)
      (c.sub-k0.ensures.is ∙ ap₂ (λ x y. K.add x (K.neg y)) (c.add.ensures.is ∙ ap₂ K.add refl c.cross.ensures.is) refl);
}
