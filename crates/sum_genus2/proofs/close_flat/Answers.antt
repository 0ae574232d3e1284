use Rattle.sum_genus2.proofs.Found.{closes_flat}
use Rattle.sum_genus2.proofs.close_flat.Goals as goal

pub returns : goal.returns
returns c = closes_flat c.args.m c.args.f4 c.args.a c.args.b c.args.o c.args.i
    c.mul-k.result c.requires.1.1.1.1.0 c.mul-k.ensures c.requires.1.1.1.0.is
    c.line.result c.line.ensures
