use Rattle.sum_plain.proofs.Sums.{double-gives}
use Rattle.jacobian.proofs.double.Goals as goal

pub returns-in-Some : goal.returns-in-Some
returns-in-Some c = double-gives c.args.c c.args.a _ c.in-Some.ensures
