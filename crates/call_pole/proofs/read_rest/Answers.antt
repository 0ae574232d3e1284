use Prim.Native.Nat.{◌+◌, ◌≤◌}
use lib.ListN.{length}
use borrow.Author.Rules.{rules}
use Rattle.refusals.proofs.Exits.{exit_err}
use Rattle.call_pole.proofs.Parts.{parts_stop, parts_long, parts_go}
use Rattle.call_pole.proofs.read_rest.Goals as goal

pub slice_bounds-write_both-count : goal.slice_bounds-write_both-count
slice_bounds-write_both-count c = parts_long c.args.pole c.args.s.now c.args.out.now c.curve_end-e.ensures c.in_ok-check_parts.ensures

pub slice_bounds-write_both-start : goal.slice_bounds-write_both-start
slice_bounds-write_both-start c = let l : c.curve_end-e.result + 2 ≤ length c.args.s.now = parts_long c.args.pole c.args.s.now c.args.out.now c.curve_end-e.ensures c.in_ok-check_parts.ensures in search rules

pub returns-in_err-check_parts : goal.returns-in_err-check_parts
returns-in_err-check_parts c = rw (exit_err c.from_residual.result c.from_residual.ensures.1) (parts_stop c.args.pole c.args.s.now c.args.out.now c.curve_end-e.ensures _ c.in_err-check_parts.ensures)

pub returns : goal.returns
returns c = parts_go c.args.pole c.args.s.now c.args.out.now c.curve_end-e.ensures c.in_ok-check_parts.ensures c.write_both.result c.write_both.new.out c.write_both.ensures
