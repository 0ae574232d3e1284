use Rattle.sum_cantor.proofs.composing.Joining.{to_lift, u_monic, composed_is}
use Rattle.sum_cantor.proofs.composing.compose_by.Goals as goal

pub lift-v-requires : goal.lift-v-requires
lift-v-requires c = to_lift c.args.prime.m c.args.f c.args.a c.args.b c.args.t c.requires c.divide_out-e1.result c.divide_out-e2.result c.divide_out-e1.ensures c.divide_out-e2.ensures c.slope-k.result c.slope-k.ensures.ok

pub div_rem-d-requires : goal.div_rem-d-requires
div_rem-d-requires c = record { left = c.lift-v.ensures.ok; right = c.mul-u.ensures.ok; monic = u_monic c.args.prime.m c.args.f c.args.a c.args.b c.args.t c.requires c.divide_out-e1.result c.divide_out-e2.result c.divide_out-e1.ensures c.divide_out-e2.ensures c.slope-k.result c.lift-v.result c.mul-u.result c.slope-k.ensures c.lift-v.ensures c.mul-u.ensures }

pub returns : goal.returns
returns c = composed_is c.args.prime.m c.args.f c.args.a c.args.b c.args.t c.requires c.divide_out-e1.result c.divide_out-e2.result c.divide_out-e1.ensures c.divide_out-e2.ensures c.slope-k.result c.lift-v.result c.mul-u.result c.slope-k.ensures c.lift-v.ensures c.mul-u.ensures c.div_rem-d.result.quotient c.div_rem-d.result.remainder c.div_rem-d.ensures
