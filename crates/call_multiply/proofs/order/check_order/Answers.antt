use native.Mathlib.Omega.{arith}
use borrow.Author.Tests.{not-true, not-false}
use Rattle.std.proofs.Common.{ap, not}
use Rattle.rules.proofs.Calls.Orders.{Tested}
use Rattle.field.proofs.Decide.{decided_yes, decided_no}
use Rattle.call_multiply.proofs.order.Orders.{order_done, order_not}
use Rattle.call_multiply.proofs.order.check_order.Goals as goal

pub returns-then-not-is_order : goal.returns-then-not-is_order
returns-then-not-is_order c =
    rw c.at-then-not-is_order.ensures (order_not c.args.curve.now c.args.divisor.now c.args.order.now c.args.primes.now _ _ c.in_ok-c.ensures (omega arith) (decided_no {A = Tested _ _ _ _} {b = c.is_order.result} (not-true _ (ap not c.if-not-is_order.true)) c.is_order.ensures))

pub returns : goal.returns
returns c = order_done c.args.curve.now c.args.divisor.now c.args.order.now c.args.primes.now _ _ c.in_ok-c.ensures (omega arith) (decided_yes {A = Tested _ _ _ _} {b = c.is_order.result} (not-false _ (ap not c.if-not-is_order.false)) c.is_order.ensures)
