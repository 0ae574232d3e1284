use Rattle.poly.proofs.Division.{quotient_is}
use Rattle.poly.proofs.Poly.quotient.Goals as goal

pub returns : goal.returns
returns c = quotient_is c.args.m c.requires c.div_rem-d.ensures
