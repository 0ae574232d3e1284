use mathlib.Core.Path.{refl, ap, ap₂, ◌∙◌}
use Rattle.algebra.proofs.Zmod.Zmod.{zmod}
use Rattle.divisor_census.proofs.Screening.{screens_by}
use Rattle.divisor_census.proofs.screen_of.Goals as goal

pub returns : goal.returns
returns c =
    let K = zmod c.args.c.prime.m.p in
    screens_by c.args.c c.requires.0 c.args.d _ (record { c0 = c.sub-c0.ensures.kept; c1 = c.mul-c1.ensures.kept; c2 = c.neg-c2.ensures.kept }) _ _ _ _ _
    c.sub-q3.ensures.is
    (c.sub-q2.ensures.is ∙ ap₂ (λ c t. K.add c (K.neg t)) c.sub.ensures.is c.mul.ensures.is)
    (c.sub-a.ensures.is ∙ ap₂ (λ c t. K.add c (K.neg t)) c.sub-2.ensures.is c.dot.ensures.is)
    (c.sub-b.ensures.is ∙ ap₂ (λ c t. K.add c (K.neg t)) refl c.dot-2.ensures.is)
    (c.sub-q.ensures.is ∙ ap₂ (λ c t. K.add c (K.neg t)) refl c.mul-2.ensures.is)
    (c.sub-c0.ensures.is ∙ ap₂ (λ c t. K.add c (K.neg t)) refl c.dot-3.ensures.is)
    (c.mul-c1.ensures.is ∙ ap₂ K.mul c.dbl.ensures.is refl)
    (c.neg-c2.ensures.is ∙ ap K.neg c.mul-3.ensures.is)
