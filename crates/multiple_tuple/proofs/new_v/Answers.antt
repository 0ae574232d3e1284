use mathlib.Core.Path.{refl, ap₂, ◌∙◌}
use Rattle.algebra.proofs.Zmod.Zmod.{zmod}
use Rattle.field.proofs.Laws.{settled_kept}
use Rattle.sum_formulas.proofs.Tuples.Projective2.{line_3, line_0, line_1, over_z, new_v0, new_v1}
use Rattle.multiple_tuple.proofs.new_v.Goals as goal

pub returns : goal.returns
returns c =
    let K = zmod c.args.m.p in
    record { kept = record { u1 = c.mul-u1.ensures.kept; u0 = c.mul-u0.ensures.kept; v1 = c.dot-v1.ensures.kept; v0 = c.cross-v0.ensures.kept; z = (settled_kept c.args.m c.settle-z.ensures.settled) }; settled = c.settle-z.ensures.settled; z_is = (c.settle-z.ensures.is ∙ c.mul.ensures.is); is = λ hp a0 a1 c0 c1 x0 x1 t w wi hb q unit hh. record { u0 = over_z K _ _ _ _ _ _ hh.n0 (c.settle-z.ensures.is ∙ c.mul.ensures.is) c.mul-u0.ensures.is; u1 = over_z K _ _ _ _ _ _ hh.n1 (c.settle-z.ensures.is ∙ c.mul.ensures.is) c.mul-u1.ensures.is; v0 = new_v0 K _ _ _ _ _ _ _ _ _ _ _ _ _ _ _ _ _ _ q.r hp.rz hp.s3 hp.ra hp.ss (c.settle-z.ensures.is ∙ c.mul.ensures.is) hh.n0 (line_0 K _ _ _ _ _ _ _ _ _ _ _ _ _ _ q.r q.s0 hp.rz hp.s3 hp.ss hb.u0 hb.v0 (c.mul-j0.ensures.is ∙ ap₂ K.mul (refl) c.dot.ensures.is)) (line_3 K _ _ _ _ _ _ _ _ _ _ _ _ q.s0 hp.s3 hp.ss hb.u1 hp.t hh.n1 (c.sub-l3.ensures.is ∙ ap₂ (λ s t. K.add s (K.neg t)) c.mul_sum.ensures.is (refl))) c.cross-v0.ensures.is unit; v1 = new_v1 K _ _ _ _ _ _ _ _ _ _ _ _ _ _ _ _ _ _ _ _ q.r hp.rz hp.s3 hp.ra hp.ss (c.settle-z.ensures.is ∙ c.mul.ensures.is) hh.n0 hh.n1 (line_1 K _ _ _ _ _ _ _ _ _ _ _ _ _ _ _ _ _ q.r q.s0 hp.rz hp.s3 hp.ss hb.u1 hb.u0 hb.v1 hp.t (c.dot-j1.ensures.is ∙ ap₂ K.add (refl) (ap₂ K.mul (refl) c.dot-2.ensures.is))) (line_3 K _ _ _ _ _ _ _ _ _ _ _ _ q.s0 hp.s3 hp.ss hb.u1 hp.t hh.n1 (c.sub-l3.ensures.is ∙ ap₂ (λ s t. K.add s (K.neg t)) c.mul_sum.ensures.is (refl))) (c.dot-v1.ensures.is ∙ ap₂ K.add (refl) (ap₂ K.mul (refl) c.sub.ensures.is)) unit } }
