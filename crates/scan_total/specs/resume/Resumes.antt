-- A total of a divisor, a count and a pole, as the rule has it, and what it is taken up as, whatever its pole.
use Rattle.std.specs.Prelude.{ℕ, ◌<◌, ◌≡◌, Result, Ok, Err, map}
use Rattle.rules.specs.Records.{refused, taken}
use Rattle.rules.specs.Lists.{most_records}
use Rattle.rules.specs.Calls.{Running as RuleRunning, resume}
use Rattle.field.specs.Residues.{raw}
use Rattle.divisor.specs.declared.Divisor.{Divisor}
use Rattle.divisor.specs.Divisors.{us, vs, pair}
use Rattle.curve.specs.declared.Curve.{Curve}
use Rattle.curve.specs.Curves.{Holds}
use Rattle.curve.specs.Record.{record_of}
use Rattle.refusals.specs.declared.Refusal.{Refusal}
use Rattle.refusals.specs.Refusal.{number_of}

-- its divisor by the numbers it is written as, its count and its pole
abbrev pub total_of : Divisor → ℕ → ℕ → RuleRunning
total_of d count pole = record { u = map raw (us d); v = map raw (vs d); count = count; pole = pole }

pub record Resumes (c : Curve) (d : Divisor) (count : ℕ) (x : Divisor) : Type 0 where
  pub holds : Holds c x
  pub room : count < most_records
  pub takes : (pole : ℕ) → resume (record_of c) (total_of d count pole) ≡ taken (pair c.prime.m x)

abbrev pub ResumeIs : Curve → Divisor → ℕ → Result Divisor Refusal → Type 0
ResumeIs c d count (Ok x) = Resumes c d count x
ResumeIs c d count (Err by) = (pole : ℕ) → resume (record_of c) (total_of d count pole) ≡ refused (number_of by) 0
