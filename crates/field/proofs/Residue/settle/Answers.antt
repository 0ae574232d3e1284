use Rattle.field.proofs.Sums.{settle_is}
use Rattle.field.proofs.Residue.settle.Goals as goal

pub returns : goal.returns
returns c = settle_is c.args.m c.args.self c.requires c.lower.ensures
