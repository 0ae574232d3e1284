use mathlib.Core.Path.{◌≡◌}
use Rattle.std.specs.Prelude.{None}
use Rattle.rules.specs.First.{Clear}
use Rattle.call_batch.specs.repeat.Rows.{SameIn}
use Rattle.call_batch.proofs.repeat.Chains.{Chained, Walk}
use Rattle.call_batch.proofs.repeat.search.Given as goal

abbrev pub invariant-loop-i : goal.invariant-loop-i
invariant-loop-i l = (l.answer ≡ None) × Walk l.c l.s l.places l.j l.i

abbrev pub decreases-loop-i : goal.decreases-loop-i
decreases-loop-i l = l.i

abbrev pub invariant-search : goal.invariant-search
invariant-search l = (l.answer ≡ None) × (Chained l.s l.places l.head l.before l.j × Clear (SameIn l.c l.s l.places) l.j)
