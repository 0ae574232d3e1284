use Rattle.poly_euclid.proofs.Steps.{to_divide, divided}
use Rattle.poly_euclid.proofs.divide.Goals as goal

pub div_rem-d-requires : goal.div_rem-d-requires
div_rem-d-requires c = to_divide c.args.prime.m c.lead_inverse-x.result c.requires c.lead_inverse-x.ensures.1 c.scale.ensures

pub returns : goal.returns
returns c = divided c.args.prime.m c.lead_inverse-x.result c.requires c.lead_inverse-x.ensures.1 c.scale.ensures c.div_rem-d.ensures c.scale-q1.ensures
