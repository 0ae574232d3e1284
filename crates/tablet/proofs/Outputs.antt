-- A fresh total is the rule's.
use Prim.Native.Nat.{ℕ}
use mathlib.Core.Path.{◌≡◌}
use Rattle.rules.specs.Calls.{fresh}
use Rattle.scan_total.specs.declared.Running.{Running}
use Rattle.scan_total.specs.Totals.{Fresh}
use Rattle.scan_total.specs.resume.Resumes.{total_of}
use Rattle.scan_flat.specs.Flats.{flat_running}

pub fresh_is : (pole : ℕ) (t : Running) → Fresh pole t → flat_running (total_of t.divisor t.count t.pole) ≡ flat_running (fresh pole)
fresh_is pole t h = λ i. flat_running (total_of (h.neutral i) (h.none i) (h.given i))
