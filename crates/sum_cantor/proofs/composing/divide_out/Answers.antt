use Rattle.sum_cantor.proofs.composing.Cofactors.{divide_out_none}
use Rattle.sum_cantor.proofs.composing.divide_out.Goals as goal

pub returns-then-d-eq1 : goal.returns-then-d-eq1
returns-then-d-eq1 c = divide_out_none c.args.m c.requires c.if-d-eq1.true
