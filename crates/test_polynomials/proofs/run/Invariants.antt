use Rattle.std.proofs.Common.{◌-◌}
use Rattle.test_polynomials.proofs.run.Given as goal

abbrev pub decreases-loop-at : goal.decreases-loop-at
decreases-loop-at g l = l.end - l.at
