use Rattle.field.proofs.Products.{dot_requires, dot_is}
use Rattle.field.proofs.Residue.dot.Goals as goal

pub returns : goal.returns
returns c = dot_is c.args.m c.args.self c.requires.0 c.args.b c.requires.1 c.args.c c.requires.2 c.args.d c.requires.3 c.products.ensures
