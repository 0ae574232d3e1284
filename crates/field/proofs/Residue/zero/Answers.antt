use Rattle.field.proofs.Laws.{zero_settled}
use Rattle.field.proofs.Residue.zero.Goals as goal

pub returns : goal.returns
returns c = λ m l. zero_settled m
