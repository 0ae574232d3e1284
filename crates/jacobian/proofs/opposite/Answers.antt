use Rattle.jacobian.proofs.Quicks.{opposite-gives}
use Rattle.jacobian.proofs.opposite.Goals as goal

pub returns : goal.returns
returns c = opposite-gives c.args.c c.args.a c.opposite.result c.requires c.opposite.ensures
