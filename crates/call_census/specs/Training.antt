-- W-211: a training curve as code reads it, and what the call comes to on it.
use Rattle.std.specs.Prelude.{◌≡◌, Result as Outcome, Ok, Err, List, ℕ}
use Rattle.refusals.specs.declared.Refusal.{Refusal}
use Rattle.refusals.specs.Refusal.{number_of}
use Rattle.rules.specs.Checks.{Checked, refused, taken, go_on}
use Rattle.rules.specs.Records.{CurveRecord, PairOf, read_divisor, divisor_bytes}
use Rattle.rules.specs.Census.{next}
use Rattle.rules.specs.Calls.{Result, read_training}
use Rattle.rules.proofs.Calls.Written.{only}
use Rattle.curve.specs.declared.Curve.{Curve}
use Rattle.curve.specs.Record.{record_of}

abbrev pub TrainingIs : List ℕ → Outcome Curve Refusal → Type 0
TrainingIs s (Ok c) = read_training s ≡ taken (record_of c)
TrainingIs s (Err by) = read_training s ≡ refused (number_of by) 0

-- the record of the next one after x, or 24
abbrev pub next_result : (c : CurveRecord) → PairOf c → Checked (Result (Unit {0}))
next_result c x = go_on (next c x) (λ y. taken (only (divisor_bytes c.p y)))

abbrev pub next_rule : List ℕ → List ℕ → Checked (Result (Unit {0}))
next_rule s a = go_on (read_training s) (λ c. go_on (read_divisor c 1 a) (next_result c))
