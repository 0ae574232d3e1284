use Rattle.rules.specs.Bytes.{number}
use Rattle.call_multiply.proofs.order.Folds.{folded}
use Rattle.call_multiply.proofs.order.is_neutral_fold.Goals as goal

pub returns : goal.returns
returns c = folded c.args.c c.args.a (number c.args.n) c.quicker.result c.quicker.ensures c.weight.result c.weight.ensures
