use Rattle.divisor.specs.declared.Divisor.TheVariants.{Three}
use Rattle.divisor_split.proofs.Parts.{point_is, left_of_three, settled_as}
use Rattle.divisor_split.proofs.point_of_three.Goals as goal

pub returns : goal.returns
returns c = point_is c.args.m (Three c.args.d) (settled_as c.args.m c.neg.ensures c.settle-u0.ensures) (left_of_three c.args.m c.args.d c.requires.held _ c.less-w.ensures c.less.ensures) c.settle-v0.ensures
