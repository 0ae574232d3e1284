use native.Mathlib.Omega.{arith}
use Rattle.field_words.proofs.Bounds.{room}
use Rattle.field.proofs.Sums.{half_even, half_odd}
use Rattle.field.proofs.Residue.half.Goals as goal

pub returns-then-self-eq0 : goal.returns-then-self-eq0
returns-then-self-eq0 c = half_even c.args.m c.args.self c.requires c.if-self-eq0.true

pub returns : goal.returns
returns c = half_odd c.args.m c.args.self c.requires c.if-self-eq0.false
