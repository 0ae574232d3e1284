use Rattle.rules.specs.Bytes.{number}
use Rattle.scalar.proofs.numbers.Stripped.{strip_turn, strip_end}
use Rattle.scalar.proofs.numbers.without.Goals as goal

pub returns-then-d-ne0 : goal.returns-then-d-ne0
returns-then-d-ne0 c = strip_end (number c.args.n) c.args.q (number c.loop-d.k) c.divide-d.result c.divide-d.ensures c.requires.1.0 c.loop-d.invariant c.if-d-ne0.true

pub loop-d-preserved : goal.loop-d-preserved
loop-d-preserved c = strip_turn (number c.args.n) c.args.q (number c.loop-d.k) c.divide-d.result c.divide-d.ensures c.requires.1.0 c.loop-d.invariant c.if-d-ne0.false
