use lib.ListN.{drop}
use Rattle.field_witness.proofs.Listed.{Left}
use Rattle.field_witness.proofs.is_made_of.Given as goal

abbrev pub invariant-loop-i : goal.invariant-loop-i
invariant-loop-i l = Left l.n l.q (drop l.i l.q) l.last l.left
