use Rattle.field_root.proofs.Search.{Trying}
use Rattle.field_root.proofs.least_nonsquare.Given as goal

abbrev pub invariant-loop-n : goal.invariant-loop-n
invariant-loop-n l = Trying l.m l.z l._n
