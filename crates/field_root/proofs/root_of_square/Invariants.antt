use Rattle.field_root.proofs.Descent.{Descending}
use Rattle.field_root.proofs.root_of_square.Given as goal

abbrev pub invariant-loop-i : goal.invariant-loop-i
invariant-loop-i l = Descending l.m l.initial.i l.initial.x l.initial.b l.initial.c l.i l.x l.b l.c
