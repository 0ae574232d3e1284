use Rattle.field.proofs.Laws.{settled_kept}
use Rattle.field.proofs.Products.{number_requires, number_is}
use Rattle.field.proofs.Residue.number.Goals as goal

pub returns : goal.returns
returns c = number_is c.args.m c.args.self (settled_kept c.args.m c.requires) c.product.ensures c.lower.ensures
