-- The first repeat of a batch on a curve in code, and what the call promises of its answer: its own numbers are the two places.
use Rattle.std.specs.Prelude.{◌≡◌, ℕ, Option, Result as Outcome, List, [], ◌∷◌, ◌++◌}
use Rattle.rules.specs.Checks.{Checked, taken, go_on}
use Rattle.rules.specs.Records.{PairOf}
use Rattle.rules.specs.Lists.{Batch, batch, Repeat, first_repeat}
use Rattle.rules.specs.Calls.{Result, Reply, deliver}
use Rattle.curve.specs.declared.Curve.{Curve}
use Rattle.curve.specs.Record.{record_of}
use Rattle.refusals.specs.declared.Refused.{Refused}
use Rattle.call_answer.specs.Answers.{reply}
use Rattle.call_batch.specs.declared.places.Repeat.{Repeat as Found}
use Rattle.call_batch.specs.repeat.Rows.{places_of}

-- the divisors of a batch in a list
abbrev pub list_rule : (c : Curve) → List ℕ → Checked (Batch (List (PairOf (record_of c))))
list_rule c s = batch (record_of c) (λ l d. l ++ (d ∷ [])) s []

-- the first repeat of that list
abbrev pub no_repeat : Repeat
no_repeat = record { first = 0; second = 0 }

abbrev pub repeat_of : (c : Curve) → Checked (Batch (List (PairOf (record_of c)))) → Checked (Result Repeat)
repeat_of c x = go_on x (λ b. taken (record { bytes = []; own = first_repeat c.prime.m.p b.result }))

abbrev pub repeat_on : (c : Curve) → List ℕ → Reply Repeat
repeat_on c s = deliver no_repeat [] (repeat_of c (list_rule c s))

-- nothing is written
abbrev pub RepeatIs : Outcome (Option Found) Refused → Reply Repeat → Type 0
RepeatIs r rule = reply no_repeat (λ x. (0, places_of x)) r [] ≡ rule
