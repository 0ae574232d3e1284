use Rattle.field.proofs.Sums.{neg_zero, neg_is}
use Rattle.field.proofs.Residue.neg.Goals as goal

pub returns-then-self-eq0 : goal.returns-then-self-eq0
returns-then-self-eq0 c = neg_zero c.args.m c.args.self c.requires c.if-self-eq0.true

pub returns : goal.returns
returns c = neg_is c.args.m c.args.self c.requires c.if-self-eq0.false
