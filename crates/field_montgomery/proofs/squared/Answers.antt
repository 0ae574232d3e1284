use native.Mathlib.Omega.{arith}
use Rattle.field_words.proofs.Bounds.{room}
use Rattle.field_montgomery.proofs.Constants.{square_requires, squared_is}
use Rattle.field_montgomery.proofs.squared.Goals as goal

pub returns : goal.returns
returns c = squared_is _ _ c.requires.turns c.requires.words c.product-x.ensures c.product-x2.ensures c.product-x3.ensures c.product-x4.ensures c.product-x5.ensures c.product.ensures
