-- From what was read and tested to the rule's answer: an order too long, an order that isn't, and one that is.
use Prim.Native.Nat.{ℕ, ◌≤◌, ◌<◌}
use mathlib.Core.Path.{◌≡◌, sym, ap, ◌∙◌}
use mathlib.Core.List.{List, []}
use lib.ListN.{length}
use Rattle.std.specs.Prelude.{Ok, Err}
use Rattle.refusals.specs.declared.Refusal.TheVariants.{ScalarLength, Order}
use Rattle.rules.specs.Checks.{Checked, first_failed}
use Rattle.rules.specs.Records.{CurveRecord, PairOf}
use Rattle.rules.specs.Calls.{Answer, Result, deliver, order_checks, check_order}
use Rattle.rules.proofs.Calls.Refusals.{on_taken}
use Rattle.rules.proofs.Calls.Written.{only}
use Rattle.rules.proofs.Calls.Orders.{Tested, checks_long, checks_pass, checks_fail}
use Rattle.divisor.specs.declared.Divisor.{Divisor}
use Rattle.divisor.specs.Divisors.{pair}
use Rattle.curve.specs.declared.Curve.{Curve}
use Rattle.curve.specs.Record.{record_of}
use Rattle.call_answer.specs.Answers.{CheckIs, Firsts}

answer : Checked (Result (Unit {0})) → Answer
answer x = (deliver tt [] x).answer

module _ (s a order primes : List ℕ) (e : Curve) (x : Divisor) (h : Firsts s a e x) where
  abbrev c : CurveRecord
  c = record_of e

  abbrev d : PairOf c
  d = pair e.prime.m x

  on : {r : Checked (Result (Unit {0}))} → first_failed (order_checks c order primes d) (only []) ≡ r → answer r ≡ check_order s a order primes
  unfolding check_order answer
  on q = sym (ap answer (on_taken _ _ h.curve ∙ on_taken _ _ h.divisor ∙ q))

  pub order_long : 32 < length order → CheckIs (Err (record { by = ScalarLength; place = 0 })) (check_order s a order primes)
  unfolding answer
  order_long l = on (checks_long (only []) c order primes d l)

  pub order_done : length order ≤ 32 → Tested c d order primes → CheckIs (Ok tt) (check_order s a order primes)
  unfolding answer
  order_done l t = on (checks_pass (only []) c order primes d l t)

  pub order_not : length order ≤ 32 → (Tested c d order primes → ⊥) → CheckIs (Err (record { by = Order; place = 0 })) (check_order s a order primes)
  unfolding answer
  order_not l t = on (checks_fail (only []) c order primes d l t)
