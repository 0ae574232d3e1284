use native.Mathlib.Omega.{arith}
use Rattle.field_words.proofs.Bounds.{room}
use Rattle.field_montgomery.proofs.Finishing.{shift_requires, cube_requires, square_requires, power_is, finish_low, finish_high}
use Rattle.field_montgomery.proofs.finish.Goals as goal

pub returns-then-k-lt64 : goal.returns-then-k-lt64
returns-then-k-lt64 c = finish_low c.args.p c.args.q c.args.square c.args.cube c.args.s c.args.k c.requires _ _ _ _ (power_is _ (omega arith)) c.product-x.ensures (omega arith) c.product.ensures

pub returns : goal.returns
returns c = finish_high c.args.p c.args.q c.args.square c.args.cube c.args.s c.args.k c.requires _ _ _ _ (power_is _ (omega arith)) c.product-x-2.ensures (omega (arith, c.requires.few)) c.product-2.ensures
