use mathlib.Core.Path.{refl, ap₂, ◌∙◌}
use Rattle.algebra.proofs.Zmod.Zmod.{zmod}
use Rattle.sum_formulas.proofs.Tuples.Projective2.{twice_u0, twice_u1}
use Rattle.multiple_tuple.proofs.new_u_twice.Goals as goal

pub returns : goal.returns
returns c = record { kept = record { c0 = c.dot-n0.ensures.kept; c1 = c.cross-n1.ensures.kept }; is = λ a0 a1 c0 c1 t wi f4 hb e q. record { n0 = twice_u0 (zmod c.args.m.p) _ _ _ _ _ _ _ _ _ _ _ _ _ _ _ _ _ q.r q.s0 c.requires.1.1.0.rz c.requires.1.1.0.s3 c.requires.1.1.0.ss hb.v1 e (c.dot-c.ensures.is ∙ ap₂ (zmod c.args.m.p).add (ap₂ (zmod c.args.m.p).mul (refl) c.dbl-2.ensures.is) (refl)) c.dot-n0.ensures.is; n1 = twice_u1 (zmod c.args.m.p) _ _ _ _ _ _ _ _ _ _ _ q.r q.s0 c.requires.1.1.0.rz c.requires.1.1.0.s3 c.requires.1.1.0.ss (c.cross-n1.ensures.is ∙ ap₂ (λ s t. (zmod c.args.m.p).add s ((zmod c.args.m.p).neg t)) (ap₂ (zmod c.args.m.p).mul (refl) c.dbl.ensures.is) (refl)) } }
