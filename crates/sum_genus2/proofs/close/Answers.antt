use Rattle.field.proofs.Laws.{settled_kept}
use Rattle.sum_genus2.proofs.Found.{closes}
use Rattle.sum_genus2.proofs.close.Goals as goal

pub returns : goal.returns
returns c = closes c.args.m c.args.f4 c.args.a c.args.b c.args.o
    c.divide-x.result c.divide-x.ensures
    c.new_u-n.result c.new_u-n.ensures
    c.new_v.result c.new_v.ensures
