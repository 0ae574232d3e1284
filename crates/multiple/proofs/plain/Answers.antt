use Rattle.multiple_tuple_step.proofs.Steps.{plain_of, known}
use Rattle.multiple.proofs.plain.Goals as goal

pub returns-in-Free : goal.returns-in-Free
returns-in-Free c = λ x y. plain_of c.args.c _ c.back.result c.back.ensures x (known c.args.c c.args.s _ c.in-Free.is x y)
