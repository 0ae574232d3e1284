use native.Mathlib.Omega.{arith}
use borrow.Author.Rules.{rules}
use mathlib.Core.Path.{◌≡◌}
use lib.ListN.{length}
use Rattle.scalar.proofs.numbers.Numbers.{capping_begin, capping_stop, capping_turn}
use Rattle.scalar.proofs.numbers.capped.Goals as goal

pub loop-k-init : goal.loop-k-init
loop-k-init c = capping_begin c.args.n

pub returns-then-t-ne0 : goal.returns-then-t-ne0
returns-then-t-ne0 c = let e : length c.args.n ≡ 32 = search rules in capping_stop c.args.n e c.loop-k.t c.loop-k.k c.loop-k.invariant c.loop-k-test.true c.if-t-ne0.true

pub loop-k-preserved : goal.loop-k-preserved
loop-k-preserved c = let e : length c.args.n ≡ 32 = search rules in capping_turn c.args.n e c.loop-k.t c.loop-k.k c.loop-k.invariant c.loop-k-test.true (omega (arith, c.if-t-ne0.false)) c.wide-t.result c.wide-t.ensures.0 c.wide-t.ensures.1
