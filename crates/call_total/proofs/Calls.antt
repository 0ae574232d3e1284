-- What `total_call` comes to, by what its parts answer: the curve, the batch on it, and what is written.
use Prim.Native.Nat.{ℕ}
use mathlib.Core.Path.{◌≡◌, sym, ap, ◌∙◌}
use mathlib.Core.List.{List}
use Rattle.std.specs.Prelude.{Ok, Err}
use Rattle.rules.specs.Pair.{neutral}
use Rattle.rules.specs.Sum.{sum}
use Rattle.rules.specs.Checks.{Checked, taken, go_on}
use Rattle.rules.specs.Records.{CurveRecord, PairOf, curve, read_curve, divisor_bytes}
use Rattle.rules.specs.Lists.{Batch, batch}
use Rattle.rules.specs.Calls.{Result, deliver, done, stop, write, total_call}
use Rattle.rules.proofs.Calls.Refusals.{on_taken, on_refused}
use Rattle.refusals.specs.declared.Refusal.{Refusal}
use Rattle.refusals.specs.declared.Refused.{Refused}
use Rattle.refusals.specs.Refusal.{number_of}
use Rattle.divisor.specs.Divisors.{pair}
use Rattle.curve.specs.declared.Curve.{Curve}
use Rattle.curve.specs.Record.{record_of}
use Rattle.record_curve.specs.Read.{CurveIs}
use Rattle.call_answer.specs.Answers.{Wrote}
use Rattle.call_answer.proofs.Owned.{owned, not_owned}
use Rattle.call_total.specs.declared.Total.{Total}
use Rattle.call_total.specs.Totals.{TotalIs}

module _ (s b out : List ℕ) where
  -- what follows on a curve that was taken
  abbrev after : (c : CurveRecord) → Checked (Batch (PairOf c)) → Checked (Result ℕ)
  after c x = go_on x (λ y. taken (record { bytes = divisor_bytes c.p y.result; own = y.count }))

  abbrev next : CurveRecord → Checked (Result ℕ)
  next c = after c (batch c (sum (curve c)) b neutral)

  call_is : {x : Checked (Result ℕ)} → go_on (read_curve s) next ≡ x → total_call s b out ≡ deliver 0 out x
  unfolding total_call
  call_is e = ap (deliver 0 out) e

  pub no_curve : (by : Refusal) → CurveIs s (Err by) → stop 0 out (number_of by) 0 ≡ total_call s b out
  no_curve by h = sym (call_is (on_refused _ next h))

  module _ (c : Curve) (h : CurveIs s (Ok c)) where
    on_curve : {x : Checked (Batch (PairOf (record_of c)))} → batch (record_of c) (sum (curve (record_of c))) b neutral ≡ x → total_call s b out ≡ deliver 0 out (after (record_of c) x)
    on_curve e = call_is (on_taken _ next h ∙ ap (after (record_of c)) e)

    pub no_total : (r : Refused) → TotalIs c b (Err r) → stop 0 out (number_of r.by) r.place ≡ total_call s b out
    no_total r is = sym (on_curve is)

    module _ (t : Total) (is : TotalIs c b (Ok t)) where
      abbrev bytes : List ℕ
      bytes = divisor_bytes c.prime.m.p (pair c.prime.m t.divisor)

      pub no_room : (r : Refused) {o : List ℕ} → Wrote (Err r) o (write out bytes) → stop 0 o (number_of r.by) r.place ≡ total_call s b out
      no_room r e = not_owned 0 t.count out bytes r e ∙ sym (on_curve is.1)

      pub written : {n : ℕ} {o : List ℕ} → Wrote (Ok n) o (write out bytes) → record { answer = done n; out = o; own = t.count } ≡ total_call s b out
      written e = owned 0 t.count out bytes e ∙ sym (on_curve is.1)
