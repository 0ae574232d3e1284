use Rattle.poly_root.proofs.rests.Times.{times_is}
use Rattle.poly_root.proofs.rests.Rest.times.Goals as goal

pub returns : goal.returns
returns c =
    times_is c.args.m c.args.u c.args.self c.args.b c.mul-x4.ensures c.dot.ensures c.mul.ensures c.sub-x3.ensures c.dot-2.ensures c.mul-2.ensures c.add-s2.ensures c.dot-3.ensures c.sub-c2.ensures c.dot-s1.ensures c.dot-4.ensures c.sub-c1.ensures c.cross-c0.ensures
