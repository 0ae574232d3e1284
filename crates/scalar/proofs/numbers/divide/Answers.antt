use borrow.Author.Rules.{rules}
use mathlib.Core.Path.{◌≡◌}
use lib.ListN.{length}
use Rattle.scalar.proofs.numbers.Numbers.{dividing_begin, dividing_turn, dividing_end}
use Rattle.scalar.proofs.numbers.divide.Goals as goal

pub loop-k-init : goal.loop-k-init
loop-k-init c = dividing_begin c.args.n c.args.q c.requires.0

pub loop-k-preserved : goal.loop-k-preserved
loop-k-preserved c = let e : length c.args.n ≡ 32 = search rules in dividing_turn c.args.n c.args.q c.loop-k.quotient c.loop-k.left c.loop-k.k c.loop-k.invariant e c.loop-k-test.true c.wide.result c.wide.ensures.0

pub returns : goal.returns
returns c = let e : length c.args.n ≡ 32 = search rules in dividing_end c.args.n c.args.q c.loop-k.quotient c.loop-k.left c.loop-k.k c.loop-k.invariant e c.loop-k-test.false
