use Rattle.field.proofs.Laws.{settled_kept}
use Rattle.sum_genus3.proofs.Made.{quotients}
use Rattle.sum_genus3.proofs.new_u.Goals as goal

pub returns : goal.returns
returns c =
    quotients c.args.m c.args.a c.args.x c.args.z _ c.args.f6 c.args.b _ _ _ _ _
    (record { c0 = c.quotient_0-n0.ensures.kept; c1 = c.quotient_1-n1.ensures.kept; c2 = c.sub-n2.ensures.kept; c3 = c.sub-n3.ensures.kept })
    c.add.ensures.is
    c.sub-n3.ensures.is
    c.cross-t5.ensures.is
    c.add-2.ensures.is
    c.add-3.ensures.is
    c.sub-n2.ensures.is
    c.dbl-d.ensures.is
    c.quotient_1-n1.ensures
    c.quotient_0-n0.ensures
