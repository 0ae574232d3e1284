use native.Mathlib.Omega.{arith}
use Rattle.field_words.proofs.Bounds.{room}
use Rattle.field.proofs.Sums.{sum_below, sum_past}
use Rattle.field.proofs.Residue.add.Goals as goal

pub returns-then-sum-m : goal.returns-then-sum-m
returns-then-sum-m c = sum_below c.args.m c.args.self c.requires.0 c.args.other c.requires.1 c.if-sum-m.true

pub returns : goal.returns
returns c = sum_past c.args.m c.args.self c.requires.0 c.args.other c.requires.1 c.if-sum-m.false
