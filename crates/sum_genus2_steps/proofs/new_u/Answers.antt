use mathlib.Core.Path.{refl, ap₂, ◌∙◌}
use Rattle.algebra.proofs.Zmod.Zmod.{zmod}
use Rattle.field.proofs.Laws.{settled_kept}
use Rattle.sum_genus2_steps.proofs.Tables.{quotient_is}
use Rattle.sum_genus2_steps.proofs.new_u.Goals as goal

pub returns : goal.returns
returns c =
    let K = zmod c.args.m.p in record {
      kept = record { c0 = c.add-n0.ensures.kept; c1 = c.sub-n1.ensures.kept };
      tops = quotient_is K _ _ _ _ _ _ _ _ _ _ _ _ _ _ _ c.requires.1.1.1.0.c1 c.requires.1.1.1.0.c0
          c.sub-y.ensures.is
          c.sqr-w5.ensures.is
          (c.sub-n1.ensures.is ∙ ap₂ (λ x y. K.add x (K.neg y)) c.add.ensures.is refl)
          (c.add-n0.ensures.is ∙ ap₂ K.add (c.add-2.ensures.is ∙ ap₂ K.add c.mul_diff.ensures.is refl) (c.dot.ensures.is ∙ ap₂ K.add (ap₂ K.mul c.dbl.ensures.is refl) (ap₂ K.mul (c.sub.ensures.is ∙ ap₂ (λ x y. K.add x (K.neg y)) c.add-3.ensures.is refl) refl)));
    }
