use native.Mathlib.Omega.{arith}
use Rattle.field_words.proofs.Bounds.{room}
use Rattle.field.proofs.Products.{diff_requires, mul_diff_is}
use Rattle.field.proofs.Residue.mul_diff.Goals as goal

pub returns : goal.returns
returns c = mul_diff_is c.args.m c.args.self c.requires.0 c.args.b c.requires.1 c.args.c c.requires.2 c.product.ensures
