use native.Mathlib.Omega.{arith}
use Rattle.divisor_split.proofs.Parts.{two_parts, two_none, turned}
use Rattle.divisor_split.proofs.split_two.Goals as goal

pub returns-in_err-r : goal.returns-in_err-r
returns-in_err-r c = rw c.from_residual.ensures (two_none c.args.prime.m c.args.prime.prime c.args.d c.in_err-r.ensures)

pub returns-then-number : goal.returns-then-number
returns-then-number c = two_parts c.args.prime.m c.args.prime.prime c.args.d (turned c.args.prime.m c.args.prime.prime c.args.d c.in_ok-r.ensures) c.point_of_two-b.ensures c.point_of_two-a.ensures (omega (arith, c.if-number.true, c.number.ensures, c.number-2.ensures))

pub returns : goal.returns
returns c = two_parts c.args.prime.m c.args.prime.prime c.args.d c.in_ok-r.ensures c.point_of_two-a.ensures c.point_of_two-b.ensures (omega (arith, c.if-number.false, c.number.ensures, c.number-2.ensures))
