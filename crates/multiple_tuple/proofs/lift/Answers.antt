use Rattle.multiple_tuple.proofs.Plain.{lifted_is}
use Rattle.multiple_tuple.proofs.lift.Goals as goal

pub returns : goal.returns
returns c = lifted_is c.args.m c.args.q c.requires c.one.result c.one.ensures
