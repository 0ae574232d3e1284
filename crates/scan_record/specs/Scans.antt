-- The running total in code, as the rule has it: its divisor by the numbers it is written as, its count and its pole.
use Rattle.std.specs.Prelude.{Result, Ok, Err, [], map}
use Rattle.rules.specs.Calls.{Running as RuleRunning, Reply, done, stop}
use Rattle.field.specs.Residues.{raw}
use Rattle.divisor.specs.Divisors.{us, vs}
use Rattle.scan_total.specs.declared.Running.{Running}
use Rattle.refusals.specs.declared.Refused.{Refused}
use Rattle.refusals.specs.Refusal.{number_of}

abbrev pub running_of : Running → RuleRunning
running_of t = record { u = map raw (us t.divisor); v = map raw (vs t.divisor); count = t.count; pole = t.pole }

-- number, place, length and the total after a scan of t
abbrev pub scanned_of : Running → Result Running Refused → Reply RuleRunning
scanned_of t (Ok r) = record { answer = done 0; out = []; own = running_of r }
scanned_of t (Err r) = stop (running_of t) [] (number_of r.by) r.place
