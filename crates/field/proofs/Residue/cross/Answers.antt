use Rattle.field.proofs.Products.{cross_requires, cross_is}
use Rattle.field.proofs.Residue.cross.Goals as goal

pub returns : goal.returns
returns c = cross_is c.args.m c.args.self c.requires.0 c.args.b c.requires.1 c.args.c c.requires.2 c.args.d c.requires.3 c.products.ensures
