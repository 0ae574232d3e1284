use Rattle.sum_cantor.proofs.composing.Cofactors.{to_quotient, cofactor_is}
use Rattle.sum_cantor.proofs.composing.cofactor.Goals as goal

pub returns : goal.returns
returns c = cofactor_is c.args.prime.m c.args.f c.args.x c.requires c.mul.result c.sub.result c.mul.ensures c.sub.ensures c.quotient.result c.quotient.ensures
