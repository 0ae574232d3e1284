use lib.ListN.{length}
use Rattle.curve.specs.Record.{record_of}
use Rattle.divisor_census.specs.Rows.{ahead, row_of}
use Rattle.divisor_census.proofs.Seeking.{Seeking}
use Rattle.divisor_census.proofs.next_valid.Given as goal

abbrev pub invariant-loop-t : goal.invariant-loop-t
invariant-loop-t l = Seeking l.c l.initial.t.weight l.initial.t.row l.t.weight l.t.row

abbrev pub decreases-loop-t : goal.decreases-loop-t
decreases-loop-t l = length (ahead (record_of l.c) l.t.weight (row_of l.c.prime.m l.t.weight l.t.row))
