use native.Mathlib.Omega.{arith}
use mathlib.Core.Path.{refl}
use Rattle.refusals.proofs.Exits.{exit_err}
use Rattle.call_batch.proofs.repeat.Listed.{list_begin, list_full, list_refuses, list_turn, list_searched}
use Rattle.call_batch.proofs.repeat.repeat_on.Goals as goal

pub loop-a-init : goal.loop-a-init
loop-a-init c = list_begin _ _ _ refl

pub returns-then-n-eq-MOST : goal.returns-then-n-eq-MOST
returns-then-n-eq-MOST c = rw c.at.ensures (list_full _ _ _ _ _ c.loop-a.invariant (omega arith) (omega arith))

pub returns-in_err-record_at : goal.returns-in_err-record_at
returns-in_err-record_at c = rw (exit_err c.from_residual.result c.from_residual.ensures.1) (list_refuses _ _ _ _ _ c.loop-a.invariant _ (omega arith) (omega arith) c.in_err-record_at.ensures)

pub loop-a-preserved : goal.loop-a-preserved
loop-a-preserved c = list_turn _ _ _ _ _ c.loop-a.invariant (omega arith) (omega arith) c.in_ok-record_at.ensures c.wide.ensures.0

pub returns : goal.returns
returns c = list_searched _ _ _ _ _ c.loop-a.invariant (omega arith) c.search.result c.search.ensures
