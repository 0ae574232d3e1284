use Rattle.std.proofs.Common.{arith}
use Rattle.field_words.proofs.Montgomery.{covered, reduced}
use Rattle.field_words.proofs.reduce.Goals as goal

pub returns : goal.returns
returns c = reduced c.args.p c.args.q c.requires.0 c.args.l (omega arith) _ _ c.low.ensures c.high-n.ensures c.args.h c.requires.1
