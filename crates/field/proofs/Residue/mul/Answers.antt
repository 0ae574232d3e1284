use Rattle.field.proofs.Products.{mul_requires, mul_is}
use Rattle.field.proofs.Residue.mul.Goals as goal

pub returns : goal.returns
returns c = mul_is c.args.m c.args.self c.requires.0 c.args.other c.requires.1 c.product.ensures
