use mathlib.Core.Path.{refl, ap₂, ◌∙◌}
use Rattle.algebra.proofs.Zmod.Zmod.{zmod}
use Rattle.field.proofs.Laws.{settled_kept}
use Rattle.curve.proofs.Quotients.{left_two, quotients_two}
use Rattle.curve.proofs.remainder.quotient_two.Goals as goal

pub returns : goal.returns
returns c =
    let K = zmod c.args.c.prime.m.p in
    quotients_two c.args.c c.args.d _ c.requires.0 (c.sub-r0.ensures.kept, (c.sub-r1.ensures.kept, tt)) (left_two K _ _ _ _ _ _ _ _ _ _ _ _ _ _ _
    c.dbl-w0.ensures.is
    c.sub-q2.ensures.is
    (c.sub-q1.ensures.is ∙ ap₂ (λ c t. K.add c (K.neg t)) c.sub.ensures.is c.mul.ensures.is)
    (c.sub-q0.ensures.is ∙ ap₂ (λ c t. K.add c (K.neg t)) (c.sub-2.ensures.is ∙ ap₂ (λ c t. K.add c (K.neg t)) refl c.dot.ensures.is) c.mul-2.ensures.is)
    (c.sub-r1.ensures.is ∙ ap₂ (λ c t. K.add c (K.neg t)) (c.sub-3.ensures.is ∙ ap₂ (λ c t. K.add c (K.neg t)) refl c.dot-2.ensures.is) c.mul-3.ensures.is)
    (c.sub-r0.ensures.is ∙ ap₂ (λ c t. K.add c (K.neg t)) refl c.dot-3.ensures.is))
