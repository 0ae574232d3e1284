use Rattle.divisor_split.proofs.Parts.{three_parts, three_none}
use Rattle.divisor_split.proofs.split_three.Goals as goal

pub returns-in_err-y : goal.returns-in_err-y
returns-in_err-y c = rw c.from_residual.ensures (three_none c.args.prime.m c.args.prime.prime c.args.d c.in_err-y.ensures)

pub returns : goal.returns
returns c = three_parts c.args.prime.m c.args.prime.prime c.args.d c.in_ok-y.ensures c.point_of_three-a.ensures c.rest_of_three-b.ensures
