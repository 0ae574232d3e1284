use Rattle.poly_root.proofs.Shifts.{line_root, no_root, parabola_root, parabola_none}
use Rattle.poly_root.proofs.some_root.Goals as goal

pub returns-in-1 : goal.returns-in-1
returns-in-1 c = no_root c.args.prime.m c.args.prime.prime c.field_part-g.ensures c.in-1.is

pub returns-in-2 : goal.returns-in-2
returns-in-2 c = line_root c.args.prime.m c.field_part-g.ensures c.in-2.is (c.get.ensures c.args.prime.m c.field_part-g.ensures.ok.fill) c.neg.ensures

pub returns-in_err-r-in-3 : goal.returns-in_err-r-in-3
returns-in_err-r-in-3 c =
    rw c.from_residual.ensures (parabola_none c.args.prime.m c.args.prime.prime c.field_part-g.ensures c.in-3.is (c.get-in-3.ensures c.args.prime.m c.field_part-g.ensures.ok.fill) (c.get-in-3-2.ensures c.args.prime.m c.field_part-g.ensures.ok.fill) c.in_err-r-in-3.ensures)

pub returns-in_ok-r-in-3 : goal.returns-in_ok-r-in-3
returns-in_ok-r-in-3 c =
    parabola_root c.args.prime.m c.args.prime.prime c.field_part-g.ensures c.in-3.is (c.get-in-3.ensures c.args.prime.m c.field_part-g.ensures.ok.fill) (c.get-in-3-2.ensures c.args.prime.m c.field_part-g.ensures.ok.fill) c.in_ok-r-in-3.ensures
