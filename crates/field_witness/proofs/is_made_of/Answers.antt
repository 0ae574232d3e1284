use Rattle.field_witness.specs.Witness.{SmallPrime}
use native.Mathlib.Omega.{arith}
use borrow.Author.Tests.{not-true, not-false}
use Rattle.field.proofs.Decide.{decided_yes, decided_no}
use Rattle.field_witness.proofs.Listed.{next, at_end, not_above, not_prime, not_divided, left_turn, left_end}
use Rattle.std.proofs.Common.{ap}
use Rattle.std.proofs.Common.{not}
use Rattle.field_witness.proofs.is_made_of.Goals as goal

pub returns-then-x-last : goal.returns-then-x-last
returns-then-x-last c = not_above c.args.n c.args.q.now _ c.loop-i.last c.loop-i.left _ _ c.loop-i.invariant (next c.args.q.now c.loop-i.i 0 c.loop-i-test.true) c.if-x-last.true

pub returns-then-not-is_small_prime : goal.returns-then-not-is_small_prime
returns-then-not-is_small_prime c = not_prime c.args.n c.args.q.now _ c.loop-i.last c.loop-i.left _ _ c.loop-i.invariant (next c.args.q.now c.loop-i.i 0 c.loop-i-test.true) (decided_no {A = SmallPrime _} {b = c.is_small_prime.result} (not-true c.is_small_prime.result (ap not c.if-not-is_small_prime.true)) c.is_small_prime.ensures)

pub returns-then-left-x-ne0 : goal.returns-then-left-x-ne0
returns-then-left-x-ne0 c = not_divided c.args.n c.args.q.now _ c.loop-i.last c.loop-i.left _ _ c.loop-i.invariant (next c.args.q.now c.loop-i.i 0 c.loop-i-test.true) c.if-left-x-ne0.true

pub loop-i-preserved : goal.loop-i-preserved
loop-i-preserved c = left_turn c.args.n c.args.q.now _ c.loop-i.last c.loop-i.left _ _ c.loop-i.invariant (next c.args.q.now c.loop-i.i 0 c.loop-i-test.true) (omega arith) (decided_yes {A = SmallPrime _} {b = c.is_small_prime.result} (not-false c.is_small_prime.result (ap not c.if-not-is_small_prime.false)) c.is_small_prime.ensures) c.if-left-x-ne0.false c.without-left.result c.without-left.ensures

pub returns : goal.returns
returns c = left_end c.args.n c.args.q.now _ c.loop-i.last c.loop-i.left c.loop-i.invariant (at_end c.args.q.now c.loop-i.i (omega (arith, c.loop-i-test.false)))
