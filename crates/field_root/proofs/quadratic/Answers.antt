use Rattle.field_root.proofs.Formula.{both, neither}
use Rattle.field_root.proofs.quadratic.Goals as goal

pub returns-in_err-s : goal.returns-in_err-s
returns-in_err-s c = rw c.from_residual.ensures (neither c.args.prime.m c.args.prime.prime c.args.b c.args.c c.sqr.ensures c.dbl.ensures c.dbl-2.ensures c.sub-d.ensures c.in_err-s.ensures)

pub returns : goal.returns
returns c =
    both c.args.prime.m c.args.prime.prime c.args.b c.args.c c.sqr.ensures c.dbl.ensures c.dbl-2.ensures c.sub-d.ensures c.in_ok-s.ensures c.neg-n.ensures c.add.ensures c.half-r.ensures c.sub.ensures c.half-t.ensures
