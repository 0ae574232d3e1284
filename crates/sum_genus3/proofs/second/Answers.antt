use Rattle.field.proofs.Laws.{settled_kept}
use Rattle.sum_genus3.proofs.Made.{seconds}
use Rattle.sum_genus3.proofs.second.Goals as goal

pub returns : goal.returns
returns c =
    seconds c.args.m c.args.n c.args.t c.args.f4 c.args.f5 c.args.f6 _ _ _ _ _ _ _ _ _ _ _
    c.dbl-t1.ensures.is
    c.sqr.ensures.is
    c.add.ensures.is
    c.sub.ensures.is
    c.settle-e2.ensures.is
    c.sub-2.ensures.is
    c.dot.ensures.is
    c.sub-3.ensures.is
    c.settle-e1.ensures.is
    c.second_u0-e0.ensures
    c.second_v.ensures
