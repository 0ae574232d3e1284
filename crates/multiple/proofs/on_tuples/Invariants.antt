use Rattle.multiple.proofs.Runs.{Going}
use Rattle.multiple.proofs.on_tuples.Given as goal

abbrev pub invariant-loop-j : goal.invariant-loop-j
invariant-loop-j l = Going l.c l.q l.at l.k l.r l.j
