-- Document 01, "The pole's list": the running total is lent to the scan and changed in place. The answer and the total after are the rule's,
-- whatever total was lent; refused, it keeps every bit.
use Rattle.std.specs.Prelude.{ℕ, ◌≡◌, Result, Ok, Err, List, []}
use Rattle.rules.specs.Calls.{Answer, Running as RuleRunning, Reply, done, scan_call}
use Rattle.refusals.specs.declared.Refused.{Refused}
use Rattle.refusals.specs.Refusal.{number_of}
use Rattle.scan_total.specs.declared.Running.{Running}
use Rattle.scan_record.specs.Scans.{running_of}

-- what the lent scan reports
abbrev pub Report : Type 0
Report = Result (Unit {0}) Refused

-- the scan writes no output
abbrev pub answer_of : Report → Answer
answer_of (Ok x) = done 0
answer_of (Err r) = record { number = number_of r.by; place = r.place; length = 0 }

abbrev pub lent_of : Report → Running → Reply RuleRunning
lent_of r after = record { answer = answer_of r; out = []; own = running_of after }

-- a scan of the record a into the total t, under the curve record s, reported r and left the total after
pub record ScanIs (t : Running) (s a : List ℕ) (r : Report) (after : Running) : Type 0 where
  pub is : lent_of r after ≡ scan_call (running_of t) s a
  pub kept : ((answer_of r).number ≡ 0 → ⊥) → after ≡ t
