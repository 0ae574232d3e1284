use native.Mathlib.Omega.{arith}
use Rattle.refusals.proofs.Exits.{exit_err}
use Rattle.call_batch.proofs.Counts.{count_begin, count_ends, count_full, count_refuses, count_turn}
use Rattle.call_batch.proofs.count_on.Goals as goal

pub loop-a-init : goal.loop-a-init
loop-a-init c = count_begin _ _

pub returns-then-k-eq-MOST_COUNT : goal.returns-then-k-eq-MOST_COUNT
returns-then-k-eq-MOST_COUNT c = rw c.at.ensures (count_full _ _ _ _ c.loop-a.invariant (omega arith) (omega arith))

pub returns-in_err-record_at : goal.returns-in_err-record_at
returns-in_err-record_at c = rw (exit_err c.from_residual.result c.from_residual.ensures.1) (count_refuses _ _ _ _ c.loop-a.invariant (omega arith) (omega arith) _ c.in_err-record_at.ensures)

pub loop-a-preserved : goal.loop-a-preserved
loop-a-preserved c = count_turn _ _ _ _ c.loop-a.invariant (omega arith) (omega arith) c.in_ok-record_at.ensures c.wide.ensures.0

pub returns : goal.returns
returns c = count_ends _ _ _ _ c.loop-a.invariant (omega arith)
