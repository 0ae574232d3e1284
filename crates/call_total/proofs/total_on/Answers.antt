use Prim.Native.Nat.{◌-◌}
use Rattle.refusals.proofs.Exits.{exit_err}
use Rattle.sum_lanes.proofs.Rows.{row_waiting}
use Rattle.call_total.proofs.Places.{last_is}
use Rattle.call_total.proofs.Totals.{total_begin, total_full, total_refuses, total_ends, turned_unit, total_turn, shut_begin, waits, lane_holds, before_kept, undoes, shut_turn, shut_ends}
use Rattle.call_total.proofs.total_on.Goals as goal

pub loop-a-init : goal.loop-a-init
loop-a-init c = total_begin _ _ _ _ _ c.neutral-sums.ensures c.one-one.ensures

pub returns-in_err-d : goal.returns-in_err-d
returns-in_err-d c = rw (exit_err c.from_residual.result c.from_residual.ensures.1) (total_refuses _ _ _ _ _ _ _ c.loop-a.invariant.total _ c.loop-a-test.true c.if-k-most.false c.in_err-d.ensures)

pub inverse-back-requires : goal.inverse-back-requires
inverse-back-requires c =
    turned_unit _ _ _ _ _ _ _ _ _ c.loop-a.invariant _ c.loop-a-test.true c.if-k-most.false c.in_ok-d.ensures _ c.open-o.ensures _ c.under-f.ensures _ c.mul-all.ensures c.wide.ensures.0

pub loop-n-init : goal.loop-n-init
loop-n-init c =
    shut_begin _ _ _ _ _ _ _ _ _ c.loop-a.invariant _ c.loop-a-test.true c.if-k-most.false c.in_ok-d.ensures _ c.open-o.ensures _ c.under-f.ensures _ c.mul-all.ensures c.wide.ensures.0 _ c.inverse-back.ensures

pub mul-i-requires : goal.mul-i-requires
mul-i-requires c = (c.loop-n.invariant.kept, before_kept _ _ _ _ _ _ _ _ _ c.loop-n.invariant (c.loop-n.n - 1) (last_is c.loop-n-test.true))

pub close-requires : goal.close-requires
close-requires c =
    let q = waits _ _ _ _ _ _ _ _ _ c.loop-n.invariant (c.loop-n.n - 1) (last_is c.loop-n-test.true) in
    (lane_holds _ _ _ _ _ _ _ _ _ c.loop-n.invariant (c.loop-n.n - 1) (last_is c.loop-n-test.true), (q.holds, (q.opened, undoes _ _ _ _ _ _ _ _ _ c.loop-n.invariant (c.loop-n.n - 1) (last_is c.loop-n-test.true) _ c.mul-i.ensures)))

pub loop-n-preserved : goal.loop-n-preserved
loop-n-preserved c = shut_turn _ _ _ _ _ _ _ _ _ c.loop-n.invariant (c.loop-n.n - 1) (last_is c.loop-n-test.true) _ _ c.close.ensures c.mul-back.ensures

pub loop-a-preserved-then-n-eq-LANES : goal.loop-a-preserved-then-n-eq-LANES
loop-a-preserved-then-n-eq-LANES c = shut_ends _ _ _ _ _ _ _ _ _ c.loop-n.invariant c.loop-n-test.false

pub loop-a-preserved : goal.loop-a-preserved
loop-a-preserved c =
    total_turn _ _ _ _ _ _ _ _ _ c.loop-a.invariant _ c.loop-a-test.true c.if-k-most.false c.in_ok-d.ensures _ c.open-o.ensures _ c.under-f.ensures _ c.mul-all.ensures c.wide.ensures.0 c.if-n-eq-LANES.false

pub waiting_total-x-requires : goal.waiting_total-x-requires
waiting_total-x-requires c = (c.loop-a.invariant.total.row.few, row_waiting _ c.loop-a.invariant.total.row)

pub returns : goal.returns
returns c = total_ends _ _ _ _ _ _ _ c.loop-a.invariant.total c.loop-a-test.false _ _ _ c.waiting_total-x.ensures c.lane_total-y.ensures c.sum.ensures

pub returns-then-k-most : goal.returns-then-k-most
returns-then-k-most c = rw c.at.ensures (total_full _ _ _ _ _ _ _ c.loop-a.invariant.total c.loop-a-test.true c.if-k-most.true)
