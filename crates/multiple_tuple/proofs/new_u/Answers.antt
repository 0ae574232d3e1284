use mathlib.Core.Path.{refl, ap₂, ◌∙◌}
use Rattle.algebra.proofs.Zmod.Zmod.{zmod}
use Rattle.sum_formulas.proofs.Tuples.Projective2.{new_u0, new_u1}
use Rattle.multiple_tuple.proofs.new_u.Goals as goal

pub returns : goal.returns
returns c =
    let K = zmod c.args.m.p in
    record { kept = record { c0 = c.add-n0.ensures.kept; c1 = c.cross-n1.ensures.kept }; is = λ a0 a1 c0 c1 b0 b1 t wi hb e1 e2 e3 q. record { n0 = new_u0 K _ _ _ _ _ _ _ _ _ _ _ _ _ _ _ _ _ _ _ _ _ _ _ _ _ q.r q.s0 c.requires.1.1.0.rz c.requires.1.1.0.s3 c.requires.1.1.0.ss hb.u1 hb.v1 c.requires.1.1.0.t e1 e2 e3 c.mul-y.ensures.is c.sub-d.ensures.is (c.dot-c.ensures.is ∙ ap₂ K.add (ap₂ K.mul (refl) c.dbl.ensures.is) (ap₂ K.mul (refl) (c.sub.ensures.is ∙ ap₂ (λ s t. K.add s (K.neg t)) (refl) c.mul.ensures.is))) (c.add-n0.ensures.is ∙ ap₂ K.add c.dot.ensures.is (c.dot-2.ensures.is ∙ ap₂ K.add (ap₂ K.mul (refl) c.mul-2.ensures.is) (refl))); n1 = new_u1 K _ _ _ _ _ _ _ _ _ _ _ _ _ _ _ q.r q.s0 c.requires.1.1.0.rz c.requires.1.1.0.s3 c.requires.1.1.0.ss e1 c.mul-y.ensures.is c.sub-d.ensures.is (c.cross-n1.ensures.is ∙ ap₂ (λ s t. K.add s (K.neg t)) (ap₂ K.mul (refl) c.add.ensures.is) (refl)) } }
