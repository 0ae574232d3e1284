use mathlib.Core.Path.{◌≡◌}
use lib.ListN.{length}
use Rattle.test_text.proofs.decimal.Given as goal

abbrev pub invariant-loop-unit : goal.invariant-loop-unit
invariant-loop-unit l = length l.text ≡ length l.initial.text

abbrev pub decreases-loop-unit : goal.decreases-loop-unit
decreases-loop-unit l = l.unit
