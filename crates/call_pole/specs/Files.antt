-- What the functions over a pole file promise: answers of code are the rule's on the same bytes. The reader's own number is the pole's.
use Rattle.std.specs.Prelude.{ℕ, ◌≤◌, ◌≡◌, Result, Ok, Err, List, length, take, drop}
use Rattle.rules.specs.Checks.{Checked, refused, taken}
use Rattle.rules.specs.Lists.{Batch}
use Rattle.rules.specs.Calls.{Reply}
use Rattle.refusals.specs.declared.Refused.{Refused}
use Rattle.refusals.specs.Refusal.{number_of}
use Rattle.call_answer.specs.Answers.{reply}
use Rattle.call_batch.specs.Counts.{ReadAs}
use Rattle.rules.specs.Pole.PoleFile.{curve_part, behind_curve}
use Rattle.rules.proofs.Pole.Counted.{as_file}
use Rattle.call_pole.specs.declared.PoleRead.{PoleRead}

abbrev pub PoleIs : Result PoleRead Refused → List ℕ → Reply ℕ → Type 0
PoleIs r out rule = reply 0 (λ x. (x.length, x.pole)) r out ≡ rule

-- where the curve record that s begins with ends
pub record Ends (s : List ℕ) (r : ℕ) : Type 0 where
  pub inside : r ≤ length s
  pub part : take r s ≡ curve_part s
  pub rest : drop r s ≡ behind_curve s

-- the parts were taken, or refused
abbrev pub PartsAre : Result (Unit {0}) Refused → Checked (Unit {0}) → Type 0
PartsAre (Ok x) rule = rule ≡ taken tt
PartsAre (Err r) rule = rule ≡ refused (number_of r.by) r.place

-- x is what r, of a batch, is in a file whose count is n
abbrev pub InFile : ℕ → Result ℕ Refused → Result (Unit {0}) Refused → Type 0
InFile n r x = (rule : Checked (Batch (Unit {0}))) → ReadAs r rule → PartsAre x (as_file n rule)
