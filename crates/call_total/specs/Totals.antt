-- What the reader of a batch promises of its total, and the call of its answer: its own number is the count of records.
use Rattle.std.specs.Prelude.{ℕ, ◌≡◌, Result, Ok, Err, List}
use Rattle.rules.specs.Pair.{neutral}
use Rattle.rules.specs.Sum.{sum}
use Rattle.rules.specs.Records.{Checked, refused, taken, PairOf}
use Rattle.rules.specs.Lists.{Batch, batch}
use Rattle.rules.specs.Calls.{Reply}
use Rattle.refusals.specs.declared.Refused.{Refused}
use Rattle.refusals.specs.Refusal.{number_of}
use Rattle.divisor.specs.Divisors.{pair}
use Rattle.curve.specs.declared.Curve.{Curve}
use Rattle.curve.specs.Curves.{curve_of, Holds}
use Rattle.curve.specs.Record.{record_of}
use Rattle.call_answer.specs.Answers.{reply}
use Rattle.call_total.specs.declared.Total.{Total}
use Rattle.call_total.specs.declared.Totalled.{Totalled}

-- the batch of a curve in code: neutral, then each record added from first to last
abbrev pub total_on : (c : Curve) → List ℕ → Checked (Batch (PairOf (record_of c)))
total_on c s = batch (record_of c) (sum (curve_of c)) s neutral

abbrev pub TotalIs : Curve → List ℕ → Result Total Refused → Type 0
TotalIs c s (Ok t) = Holds c t.divisor × (total_on c s ≡ taken (record { result = pair c.prime.m t.divisor; count = t.count }))
TotalIs c s (Err r) = total_on c s ≡ refused (number_of r.by) r.place

abbrev pub TotalAnswerIs : Result Totalled Refused → List ℕ → Reply ℕ → Type 0
TotalAnswerIs r out rule = reply 0 (λ t. (t.length, t.count)) r out ≡ rule
