use mathlib.Core.Path.{refl, ◌∙◌}
use Rattle.algebra.proofs.Zmod.Zmod.{zmod}
use Rattle.field.proofs.Laws.{settled_kept}
use Rattle.curve.proofs.Quotients.{less, left_three, quotients_three}
use Rattle.curve.proofs.remainder.rest_three.Goals as goal

pub returns : goal.returns
returns c =
    let K = zmod c.args.c.prime.m.p in
    quotients_three c.args.c c.args.d _ c.requires.0 (c.sub-r0.ensures.kept, (c.sub-r1.ensures.kept, (c.sub-r2.ensures.kept, tt)))
    (left_three K _ _ _ _ _ _ _ _ _ _ _ _ _ _ _ _ _ _ _ _ _ _
    c.dbl-w0.ensures.is
    c.dbl-w2.ensures.is
    refl
    c.quotient_three-q.ensures.q2
    c.quotient_three-q.ensures.q1
    c.quotient_three-q.ensures.q0
    (c.sub-r2.ensures.is ∙ less K (c.sub-2.ensures.is ∙ less K (c.sub.ensures.is ∙ less K refl c.dot.ensures.is) c.dot-2.ensures.is) c.mul.ensures.is)
    (c.sub-r1.ensures.is ∙ less K (c.sub-3.ensures.is ∙ less K refl c.dot-3.ensures.is) c.mul-2.ensures.is)
    (c.sub-r0.ensures.is ∙ less K refl c.dot-4.ensures.is))
