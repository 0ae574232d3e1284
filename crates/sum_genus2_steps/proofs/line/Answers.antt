use borrow.Author.Rules.{rules}
use mathlib.Core.Path.{refl, ap₂, ◌∙◌}
use Rattle.algebra.proofs.Zmod.Zmod.{zmod}
use Rattle.field.proofs.Laws.{settled_kept}
use Rattle.sum_formulas.proofs.Genus2.{line2_tops, line2_rest}
use Rattle.sum_genus2_steps.proofs.line.Goals as goal

pub returns : goal.returns
returns c = let K = zmod c.args.m.p in record {
  held = record { u = (c.settle-u0.ensures.settled, tt); v = (c.settle-v0.ensures.settled, tt) };
  tops = line2_tops K _ _ _ _ _ _ _ _ _ (c.settle-u0.ensures.is ∙ c.sub-3.ensures.is ∙ ap₂ (λ x y. K.add x (K.neg y)) (c.sub-2.ensures.is ∙ ap₂ (λ x y. K.add x (K.neg y)) c.sub.ensures.is refl) c.sqr.ensures.is);
  q = _;
  is = line2_rest K _ _ _ _ _ _ _ _
      (c.add-k.ensures.is ∙ ap₂ K.add c.mul_diff.ensures.is refl)
      (c.settle-v0.ensures.is ∙ c.sub-4.ensures.is ∙ ap₂ (λ x y. K.add x (K.neg y)) c.cross.ensures.is refl);
}
