use Rattle.rules.specs.Bytes.{number}
use Rattle.field_witness.proofs.Listed.{Out}
use Rattle.scalar.proofs.numbers.without.Given as goal

abbrev pub invariant-loop-d : goal.invariant-loop-d
invariant-loop-d l = Out (number l.initial.k) l.q (number l.k)

abbrev pub decreases-loop-d : goal.decreases-loop-d
decreases-loop-d l = number l.k
