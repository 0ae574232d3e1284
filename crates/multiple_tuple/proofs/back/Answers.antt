use mathlib.Core.Path.{◌∙◌}
use Rattle.multiple_tuple.proofs.Plain.{divided_is}
use Rattle.multiple_tuple.proofs.back.Goals as goal

pub returns : goal.returns
returns c = divided_is c.args.prime.m c.args.t c.inverse-i.result c.inverse-i.ensures _ (record { u = (c.settle-u0.ensures.settled, (c.settle-u1.ensures.settled, tt)); v = (c.settle-v0.ensures.settled, (c.settle-v1.ensures.settled, tt)) }) (c.settle-u0.ensures.is ∙ c.mul.ensures.is) (c.settle-u1.ensures.is ∙ c.mul-2.ensures.is) (c.settle-v0.ensures.is ∙ c.mul-3.ensures.is) (c.settle-v1.ensures.is ∙ c.mul-4.ensures.is)
