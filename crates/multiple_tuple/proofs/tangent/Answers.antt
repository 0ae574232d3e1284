use mathlib.Core.Path.{refl, ap₂, ◌∙◌}
use Rattle.algebra.proofs.Zmod.Zmod.{zmod}
use Rattle.sum_formulas.proofs.Tuples.Projective2.{tangent_r, tangent_s1, tangent_s0}
use Rattle.multiple_tuple.proofs.tangent.Goals as goal

pub returns : goal.returns
returns c =
    let K = zmod c.args.m.p in
    record { kept = record { r = c.dot-r.ensures.kept; s1 = c.cross-s1.ensures.kept; s0 = c.dot-s0.ensures.kept }; is = λ f2 f3 f4 hk a0 a1 c0 c1 h. record { r = tangent_r K _ _ _ _ _ _ _ _ _ _ _ _ _ _ _ h.u1 h.u0 h.v1 h.v0 c.dbl-g1.ensures.is c.dbl-g0.ensures.is c.mul-e.ensures.is (c.sub-i0.ensures.is ∙ ap₂ (λ s t. K.add s (K.neg t)) (refl) c.mul.ensures.is) (c.mul-y.ensures.is ∙ ap₂ K.mul c.mul-2.ensures.is (refl)) c.dot-r.ensures.is; s1 = tangent_s1 K _ _ _ _ _ _ _ _ _ _ _ _ _ _ h.v1 h.v0 c.dbl-g1.ensures.is c.dbl-g0.ensures.is c.mul-e.ensures.is (hk.k0_is a0 a1 c0 c1 h) (hk.k1_is a0 a1 c0 c1 h) c.cross-s1.ensures.is; s0 = tangent_s0 K _ _ _ _ _ _ _ _ _ _ _ _ _ _ _ _ _ _ _ h.u1 h.u0 h.v1 h.v0 c.dbl-g1.ensures.is c.dbl-g0.ensures.is c.mul-e.ensures.is (c.sub-i0.ensures.is ∙ ap₂ (λ s t. K.add s (K.neg t)) (refl) c.mul.ensures.is) (c.mul-y.ensures.is ∙ ap₂ K.mul c.mul-2.ensures.is (refl)) (hk.k0_is a0 a1 c0 c1 h) (hk.k1_is a0 a1 c0 c1 h) c.dot-s0.ensures.is } }
