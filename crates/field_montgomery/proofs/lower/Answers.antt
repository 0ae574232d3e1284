use Rattle.field_montgomery.proofs.Constants.{lowered}
use Rattle.field_montgomery.proofs.lower.Goals as goal

pub returns : goal.returns
returns c = lowered _ _ c.requires c.if-x-p.false
