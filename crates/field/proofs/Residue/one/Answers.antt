use Rattle.field.proofs.Laws.{one_settles}
use Rattle.field.proofs.Residue.one.Goals as goal

pub returns : goal.returns
returns c = one_settles c.args.m
