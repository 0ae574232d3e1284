use Rattle.std.proofs.Common.{length}
use Rattle.text_lines.proofs.Rule.Census.{onward}
use Rattle.divisor.specs.Divisors.{pair}
use Rattle.curve.specs.Curves.{Holds}
use Rattle.curve.specs.Record.{record_of}
use Rattle.text_files.proofs.print_lines.Given as goal

abbrev pub invariant-loop-y : goal.invariant-loop-y
invariant-loop-y g l = Holds l.c l.d

abbrev pub decreases-loop-y : goal.decreases-loop-y
decreases-loop-y g l = length (onward (record_of l.c) (pair l.c.prime.m l.d))
