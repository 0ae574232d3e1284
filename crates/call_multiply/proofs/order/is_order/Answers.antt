use native.Mathlib.Omega.{arith}
use borrow.Author.Tests.{not-true, not-false}
use mathlib.Core.Bool.{Bool}
use mathlib.Core.Path.{sym, ◌∙◌, subst}
use Rattle.rules.proofs.Calls.Orders.{Tested}
use Rattle.field.specs.Primes.{Decides}
use Rattle.divisor.specs.Divisors.{pair}
use Rattle.curve.specs.Record.{record_of}
use Rattle.rules.specs.Bytes.{number}
use Rattle.rules.specs.Calls.{listed}
use Rattle.field.proofs.Decide.{decided_yes, decided_no}
use Rattle.field_witness.specs.Witness.{MadeOf}
use Rattle.field_witness.proofs.Listed.{all-some}
use Rattle.scalar.proofs.numbers.Stripped.{capped_none, capped_some}
use Rattle.call_multiply.proofs.order.Folds.{not_zero, not_made, not_here, decided}
use Rattle.std.proofs.Common.{ap}
use Rattle.std.proofs.Common.{not}
use Rattle.call_multiply.proofs.order.is_order.Goals as goal

pub returns-then-eq : goal.returns-then-eq
returns-then-eq c = not_zero c.args.c c.args.a c.args.order.now c.args.primes.now (number c.from_bytes-n.result) c.from_bytes-n.ensures (let e = capped_none (number c.from_bytes-n.result) _ c.capped.result c.capped.ensures c.eq.result c.eq.ensures c.if-eq.true in omega (arith, e.0, e.1))

pub is_made_of-requires : goal.is_made_of-requires
is_made_of-requires c = omega (arith, capped_some (number c.from_bytes-n.result) _ c.capped.result c.capped.ensures c.eq.result c.eq.ensures c.if-eq.false)

pub returns-then-not-is_made_of : goal.returns-then-not-is_made_of
returns-then-not-is_made_of c = not_made c.args.c c.args.a c.args.order.now c.args.primes.now (number c.from_bytes-n.result) c.from_bytes-n.ensures (decided_no {A = MadeOf _ _} {b = c.is_made_of.result} (not-true c.is_made_of.result (ap not c.if-not-is_made_of.true)) c.is_made_of.ensures)

pub is_none_below-requires : goal.is_none_below-requires
is_none_below-requires c =
    record { holds = c.requires.holds; some = all-some 0 (number c.from_bytes-n.result) (listed c.args.primes.now) (decided_yes {A = MadeOf _ _} {b = c.is_made_of.result} (not-false c.is_made_of.result (ap not c.if-not-is_made_of.false)) c.is_made_of.ensures).is }

pub returns-then-is_neutral_fold : goal.returns-then-is_neutral_fold
returns-then-is_neutral_fold c =
    decided c.args.c c.args.a c.args.order.now c.args.primes.now (number c.from_bytes-n.result) c.from_bytes-n.ensures (omega (arith, capped_some (number c.from_bytes-n.result) _ c.capped.result c.capped.ensures c.eq.result c.eq.ensures c.if-eq.false)) c.if-primes-ne0.false (omega arith)
    (decided_yes {A = MadeOf _ _} {b = c.is_made_of.result} (not-false c.is_made_of.result (ap not c.if-not-is_made_of.false)) c.is_made_of.ensures) (sym c.is_neutral_fold.ensures.is ∙ c.if-is_neutral_fold.true) c.is_none_below.result c.is_none_below.ensures.is

pub returns-else-is_neutral_fold : goal.returns-else-is_neutral_fold
returns-else-is_neutral_fold c = subst (λ (b : Bool). Decides b (Tested (record_of c.args.c) (pair c.args.c.prime.m c.args.a) c.args.order.now c.args.primes.now)) (sym c.if-is_neutral_fold.false)
    (not_here c.args.c c.args.a c.args.order.now c.args.primes.now (number c.from_bytes-n.result) c.from_bytes-n.ensures (sym c.is_neutral_fold.ensures.is ∙ c.if-is_neutral_fold.false))
