use Rattle.field.proofs.Laws.{settled_kept}
use Rattle.sum_genus3.proofs.Made.{rests}
use Rattle.sum_genus3.proofs.new_v.Goals as goal

pub returns : goal.returns
returns c =
    rests c.args.m c.args.a c.args.x c.args.z c.args.n _ _ _ _ _ _ _ _
    (record { c0 = c.add-m0.ensures.kept; c1 = c.add-m1.ensures.kept; c2 = c.add-m2.ensures.kept; c3 = c.dot-m3.ensures.kept })
    c.mul_diff-y.ensures.is
    c.dot.ensures.is
    c.add-m0.ensures.is
    c.sub.ensures.is
    c.dot-2.ensures.is
    c.add-m1.ensures.is
    c.sub-2.ensures.is
    c.dot-3.ensures.is
    c.add-m2.ensures.is
    c.sub-3.ensures.is
    c.dot-m3.ensures.is
