use mathlib.Core.Path.{refl, ap₂, ◌∙◌}
use Rattle.algebra.proofs.Zmod.Zmod.{zmod}
use Rattle.field.proofs.Laws.{settled_kept}
use Rattle.sum_genus3_open.proofs.Inverted.{inverted}
use Rattle.sum_genus3_open.proofs.invert_u.Goals as goal

pub returns : goal.returns
returns c =
    let K = zmod c.args.prime.m.p in
    inverted c.args.prime.m c.args.prime.prime c.args.a c.args.b _ _ _ _ _ _ _
    (record { e0 = c.cross-e0.ensures.kept; e1 = c.cross-e1.ensures.kept; e2 = c.cross-e2.ensures.kept; i0 = c.add-i0.ensures.kept; low = (c.add-i0.ensures.is ∙ ap₂ K.add c.dot.ensures.is refl) })
    c.settle-r.ensures.settled
    c.cross-t1.ensures.is
    c.cross-t2.ensures.is
    c.sub-t3.ensures.is
    c.sub-t4.ensures.is
    c.sub-t5.ensures.is
    (c.add-t8.ensures.is ∙ ap₂ K.add c.cross.ensures.is refl)
    c.cross-e2.ensures.is
    c.cross-e1.ensures.is
    c.cross-e0.ensures.is
    (c.settle-r.ensures.is ∙ (c.cross-2.ensures.is ∙ ap₂ (λ c t. K.add c (K.neg t)) (ap₂ K.mul refl c.dot-2.ensures.is) refl))
