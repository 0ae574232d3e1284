use mathlib.Core.Path.{refl, ap₂, ◌∙◌}
use Rattle.algebra.proofs.Zmod.Zmod.{zmod}
use Rattle.sum_formulas.proofs.Tuples.Projective2.{right_d, right_k1, right_k0}
use Rattle.multiple_tuple.proofs.cofactor_mod_u.Goals as goal

pub returns : goal.returns
returns c =
    let K = zmod c.args.m.p in
    record { kept = record { k0 = c.cross-k0.ensures.kept; k1 = c.add-k1.ensures.kept; d = c.add-d.ensures.kept }; d_is = λ a0 a1 c0 c1 h. right_d K _ _ _ _ _ _ h.u1 (c.sub-b.ensures.is ∙ ap₂ (λ s t. K.add s (K.neg t)) (refl) c.mul.ensures.is) c.add-d.ensures.is; k1_is = λ a0 a1 c0 c1 h. right_k1 K _ _ _ _ _ _ _ _ _ _ _ _ _ h.u1 h.u0 (c.sub-b.ensures.is ∙ ap₂ (λ s t. K.add s (K.neg t)) (refl) c.mul.ensures.is) c.add-d.ensures.is c.dbl-w.ensures.is c.sqr-q.ensures.is c.dot-e.ensures.is (c.add-k1.ensures.is ∙ ap₂ K.add c.cross.ensures.is (refl)); k0_is = λ a0 a1 c0 c1 h. right_k0 K _ _ _ _ _ _ _ _ _ _ _ _ _ _ _ _ _ h.u1 h.u0 (c.sub-b.ensures.is ∙ ap₂ (λ s t. K.add s (K.neg t)) (refl) c.mul.ensures.is) c.add-d.ensures.is c.dbl-w.ensures.is c.sqr-q.ensures.is c.dot-e.ensures.is h.v1 (c.sub-g.ensures.is ∙ ap₂ (λ s t. K.add s (K.neg t)) c.dot.ensures.is c.sqr.ensures.is) c.cross-k0.ensures.is }
