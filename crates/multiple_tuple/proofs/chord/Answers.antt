use mathlib.Core.Path.{refl, ap₂, ◌∙◌}
use Rattle.algebra.proofs.Zmod.Zmod.{zmod}
use Rattle.sum_formulas.proofs.Tuples.Projective2.{differ_1, differ_2, chord_r, chord_s1, chord_s0}
use Rattle.multiple_tuple.proofs.chord.Goals as goal

pub returns : goal.returns
returns c =
    let K = zmod c.args.m.p in
    record { kept = record { r = c.dot-r.ensures.kept; s1 = c.mul-s1.ensures.kept; s0 = c.mul-s0.ensures.kept }; is = λ a0 a1 c0 c1 b0 b1 d0 d1 ho hw hb. record { r = chord_r K _ _ _ _ _ _ _ _ _ _ _ _ _ ho.u1 ho.u0 (differ_1 K _ _ _ _ _ _ hw.u1 hb.u1 c.requires.1.1.1.z1) (differ_2 K _ _ _ _ _ _ hw.u0 hb.u0 c.requires.1.1.1.z2) c.dot-z3.ensures.is c.mul-y.ensures.is c.dot-r.ensures.is; s1 = chord_s1 K _ _ _ _ _ _ _ _ _ _ _ _ _ _ _ _ _ _ _ (differ_1 K _ _ _ _ _ _ hw.u1 hb.u1 c.requires.1.1.1.z1) (differ_2 K _ _ _ _ _ _ hw.u0 hb.u0 c.requires.1.1.1.z2) hw.v1 hw.v0 hb.v1 hb.v0 c.sub-w0.ensures.is c.sub-w1.ensures.is (c.mul-s1.ensures.is ∙ ap₂ K.mul c.dot.ensures.is (refl)); s0 = chord_s0 K _ _ _ _ _ _ _ _ _ _ _ _ _ _ _ _ _ _ _ _ _ _ _ ho.u1 ho.u0 (differ_1 K _ _ _ _ _ _ hw.u1 hb.u1 c.requires.1.1.1.z1) (differ_2 K _ _ _ _ _ _ hw.u0 hb.u0 c.requires.1.1.1.z2) c.dot-z3.ensures.is c.mul-y.ensures.is hw.v1 hw.v0 hb.v1 hb.v0 c.sub-w0.ensures.is c.sub-w1.ensures.is (c.mul-s0.ensures.is ∙ ap₂ K.mul c.cross.ensures.is (refl)) } }
