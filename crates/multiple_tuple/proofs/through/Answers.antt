use Rattle.multiple_tuple.proofs.Sums.{through_is}
use Rattle.multiple_tuple.proofs.through.Goals as goal

pub returns : goal.returns
returns c = through_is c.args.prime.m c.args.prime.prime c.args.o c.args.w c.args.b c.args.f4 c.u_gap-g.result c.u_gap-g.ensures c.chord-s.result c.chord-s.ensures c.prepare-p.result c.prepare-p.ensures c.new_u-h.result c.new_u-h.ensures c.new_v.result c.new_v.ensures
