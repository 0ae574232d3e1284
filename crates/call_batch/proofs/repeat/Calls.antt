-- The call `repeat_call`, by what its parts answer: the curve, and the first repeat of the batch on it.
use Prim.Native.Nat.{ℕ}
use mathlib.Core.Path.{sym, ap, ◌∙◌}
use mathlib.Core.List.{List, [], ◌∷◌, ◌++◌}
use Rattle.std.specs.Prelude.{Option, Result as Outcome, Ok, Err}
use Rattle.refusals.specs.declared.Refusal.{Refusal}
use Rattle.refusals.specs.declared.Refused.{Refused}
use Rattle.rules.specs.Records.{CurveRecord}
use Rattle.rules.specs.Checks.{Checked, taken, go_on}
use Rattle.rules.specs.Lists.{batch, Repeat, first_repeat}
use Rattle.rules.specs.Calls.{Result, deliver, repeat_call}
use Rattle.rules.proofs.Calls.Refusals.{on_taken, on_refused}
use Rattle.curve.specs.declared.Curve.{Curve}
use Rattle.record_curve.specs.Read.{CurveIs}
use Rattle.call_batch.specs.declared.places.Repeat.{Repeat as Found}
use Rattle.call_batch.specs.repeat.Repeats.{no_repeat, repeat_on, RepeatIs}

module _ (s b : List ℕ) where
  -- what follows on a curve that was taken
  abbrev next : CurveRecord → Checked (Result Repeat)
  next c = go_on (batch c (λ l d. l ++ (d ∷ [])) b []) (λ x. taken (record { bytes = []; own = first_repeat c.p x.result }))

  pub no_curve : (by : Refusal) → CurveIs s (Err by) → RepeatIs (Err (record { by = by; place = 0 })) (repeat_call s b)
  unfolding repeat_call
  no_curve by h = sym (ap (deliver no_repeat []) (on_refused _ next h))

  pub on_curve : (c : Curve) → CurveIs s (Ok c) → (x : Outcome (Option Found) Refused) → RepeatIs x (repeat_on c b) → RepeatIs x (repeat_call s b)
  unfolding repeat_call
  on_curve c h x e = e ∙ sym (ap (deliver no_repeat []) (on_taken _ next h))
