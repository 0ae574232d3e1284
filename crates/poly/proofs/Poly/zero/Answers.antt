use Rattle.poly.specs.Polys.{room}
use Rattle.poly.proofs.Stored.{zeros_are}
use Rattle.poly.proofs.Poly.zero.Goals as goal

pub returns : goal.returns
returns c = zeros_are c.args.m c.zero-z.result c.zero-z.ensures room
