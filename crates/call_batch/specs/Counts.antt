-- What the reader of a batch promises of its count: records one after the other, all of them good and at most 4,096, or the first refusal.
use Rattle.std.specs.Prelude.{ℕ, ◌≡◌, Result, Ok, Err, List}
use Rattle.rules.specs.Checks.{Checked, refused, taken}
use Rattle.rules.specs.Lists.{Batch}
use Rattle.curve.specs.declared.Curve.{Curve}
use Rattle.curve.specs.Record.{record_of}
use Rattle.rules.specs.Calls.{counted, check_batch}
use Rattle.refusals.specs.declared.Refused.{Refused}
use Rattle.refusals.specs.Refusal.{number_of}

-- a batch read is the rule's
abbrev pub ReadAs : Result ℕ Refused → Checked (Batch (Unit {0})) → Type 0
ReadAs (Ok k) rule = rule ≡ taken (record { result = tt; count = k })
ReadAs (Err r) rule = rule ≡ refused (number_of r.by) r.place

abbrev pub CountedIs : Curve → List ℕ → Result ℕ Refused → Type 0
CountedIs c s r = ReadAs r (counted (record_of c) s)

abbrev pub BatchIs : List ℕ → List ℕ → Result ℕ Refused → Type 0
BatchIs s records r = ReadAs r (check_batch s records)
