use Rattle.divisor_split.proofs.Parts.{three_rest, left_of_rest, settled_as, times_plus}
use Rattle.divisor_split.proofs.rest_of_three.Goals as goal

pub returns : goal.returns
returns c = let u1 = settled_as c.args.prime.m c.add.ensures c.settle-u1.ensures in three_rest c.args.prime.m c.args.prime.prime c.args.d c.requires.root u1 (times_plus c.args.prime.m c.args.d.u1 c.args.y u1 c.mul.ensures c.add-2.ensures c.settle-u0.ensures) (left_of_rest c.args.prime.m c.args.d c.requires.take.held _ c.less-2.ensures c.less.ensures) c.settle-v0.ensures c.settle-v1.ensures
