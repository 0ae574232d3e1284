use Rattle.sum_cantor.proofs.composing.Slopes.{slope_none, slope_is}
use Rattle.sum_cantor.proofs.composing.slope.Goals as goal

pub returns-then-s3-eq0 : goal.returns-then-s3-eq0
returns-then-s3-eq0 c = slope_none c.args.prime.m c.args.f c.args.v1 c.args.b c.args.t c.requires c.sub.result c.mul-x.result c.sub.ensures c.mul-x.ensures c.if-s3-eq0.true
