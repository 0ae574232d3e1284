use native.Mathlib.Omega.{arith}
use Rattle.field_words.proofs.Bounds.{room}
use Rattle.field.proofs.Sums.{difference_past, difference_is}
use Rattle.field.proofs.Residue.sub.Goals as goal

pub returns-then-self-other : goal.returns-then-self-other
returns-then-self-other c = difference_past c.args.m c.args.self c.requires.0 c.args.other c.requires.1 c.if-self-other.true

pub returns : goal.returns
returns c = difference_is c.args.m c.args.self c.requires.0 c.args.other c.requires.1 c.if-self-other.false
