use Rattle.poly_euclid.proofs.Common.{shared_monic}
use Rattle.poly_euclid.proofs.gcd.Goals as goal

pub returns : goal.returns
returns c = shared_monic c.args.prime.m c.last_remainder.ensures c.monic.ensures.made
