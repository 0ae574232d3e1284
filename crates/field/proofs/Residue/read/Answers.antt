use Rattle.field.proofs.Products.{read_requires, read_is}
use Rattle.field.proofs.Residue.read.Goals as goal

pub returns-then-n-m : goal.returns-then-n-m
returns-then-n-m c = (c.if-n-m.true, read_is c.args.m _ c.product-x.ensures c.lower.ensures)
