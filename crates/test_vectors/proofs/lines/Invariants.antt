use Rattle.std.proofs.Common.{length, ◌-◌, ◌≤◌, ◌≡◌}
use Rattle.test_vectors.proofs.lines.Given as goal

abbrev pub invariant-loop-f : goal.invariant-loop-f
invariant-loop-f l = (length l.text ≡ length l.initial.text) × (l.end ≤ length l.text) × (l.at ≤ length l.s)

abbrev pub decreases-loop-f : goal.decreases-loop-f
decreases-loop-f l = length l.s - l.at
