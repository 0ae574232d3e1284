use mathlib.Core.Path.{refl, ap₂, ◌∙◌}
use Rattle.algebra.proofs.Zmod.Zmod.{zmod}
use Rattle.field.proofs.Laws.{settled_kept}
use Rattle.sum_formulas.proofs.Genus2.{rest2_is}
use Rattle.sum_genus2_steps.proofs.new_v.Goals as goal

pub returns : goal.returns
returns c =
    let K = zmod c.args.m.p in record {
      held = record { u = (c.settle-u0.ensures.settled, (c.settle-u1.ensures.settled, tt)); v = (c.settle-v0.ensures.settled, (c.settle-v1.ensures.settled, tt)) };
      u0 = c.settle-u0.ensures.is;
      u1 = c.settle-u1.ensures.is;
      q = _;
      is = rest2_is K _ _ _ _ _ _ _ _ _ _ _
          (c.sub-k.ensures.is ∙ ap₂ (λ x y. K.add x (K.neg y)) c.add.ensures.is refl)
          (c.settle-v1.ensures.is ∙ c.sub.ensures.is ∙ ap₂ (λ x y. K.add x (K.neg y)) (c.mul_diff.ensures.is ∙ ap₂ K.mul refl (ap₂ (λ x y. K.add x (K.neg y)) (c.add-2.ensures.is ∙ ap₂ K.add c.cross.ensures.is refl) refl)) refl)
          (c.settle-v0.ensures.is ∙ c.sub-2.ensures.is ∙ ap₂ (λ x y. K.add x (K.neg y)) (c.mul.ensures.is ∙ ap₂ K.mul refl c.cross-2.ensures.is) refl);
    }
