use Rattle.field.proofs.Products.{power_requires, power_is}
use Rattle.field.proofs.Residue.power.Goals as goal

pub power-requires : goal.power-requires
power-requires c = power_requires c.args.m c.args.self c.requires

pub returns : goal.returns
returns c = power_is c.args.m c.args.self c.requires c.power.ensures
