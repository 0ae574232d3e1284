use Rattle.field.proofs.Arrays.{length_of}
use native.Mathlib.Omega.{arith}
use mathlib.Core.Path.{◌≡◌}
use Rattle.field.proofs.Decide.{decided_yes, decided_no}
use Rattle.divisor.proofs.Laws.{weight_le}
use Rattle.curve.specs.Curves.{Divided}
use Rattle.divisor_census.proofs.Seeking.{seek_from, seek_skip, seek_found, seek_turn, seek_less, seek_end}
use lib.ListN.{length}
use Rattle.divisor_census.proofs.next_valid.Goals as goal

pub returns-then-contains : goal.returns-then-contains
returns-then-contains c =
    let long : length c.row.result ≡ 6 = search (length_of, c.row.type_inv) in
    let h = seek_skip c.args.c _ _ c.loop-t.t.weight c.loop-t.t.row c.loop-t.invariant c.skip-r.result c.skip-r.ensures in
    seek_found c.args.c _ _ c.loop-t.t.weight c.skip-r.result h (omega (arith, c.loop-t-test.true)) c.of_row-x.result c.of_row-x.ensures.0 c.of_row-x.ensures.1 c.args.d
    (seek_from c.args.c c.args.d c.requires c.weight.result c.weight.ensures c.row.result c.row.ensures long (omega (arith, weight_le c.args.d, c.weight.ensures)) c.advance-t.result c.advance-t.ensures)
    (decided_yes {A = Divided c.args.c c.of_row-x.result} {b = c.contains.result} c.if-contains.true c.contains.ensures)

pub loop-t-smaller : goal.loop-t-smaller
loop-t-smaller c =
    let h = seek_skip c.args.c _ _ c.loop-t.t.weight c.loop-t.t.row c.loop-t.invariant c.skip-r.result c.skip-r.ensures in
    let no = decided_no {A = Divided c.args.c c.of_row-x.result} {b = c.contains.result} c.if-contains.false c.contains.ensures in
    omega (arith, c.skip-r.ensures.fewer, seek_less c.args.c _ _ c.loop-t.t.weight c.skip-r.result h (omega (arith, c.loop-t-test.true)) c.of_row-x.result c.of_row-x.ensures.0 c.of_row-x.ensures.1 no c.advance-t-in-loop-t.result c.advance-t-in-loop-t.ensures)

pub loop-t-preserved : goal.loop-t-preserved
loop-t-preserved c =
    let h = seek_skip c.args.c _ _ c.loop-t.t.weight c.loop-t.t.row c.loop-t.invariant c.skip-r.result c.skip-r.ensures in
    let no = decided_no {A = Divided c.args.c c.of_row-x.result} {b = c.contains.result} c.if-contains.false c.contains.ensures in
    seek_turn c.args.c _ _ c.loop-t.t.weight c.skip-r.result h (omega (arith, c.loop-t-test.true)) c.of_row-x.result c.of_row-x.ensures.0 c.of_row-x.ensures.1 no c.advance-t-in-loop-t.result c.advance-t-in-loop-t.ensures

pub returns : goal.returns
returns c = let long : length c.row.result ≡ 6 = search (length_of, c.row.type_inv) in seek_end c.args.c _ _ c.loop-t.t.weight c.loop-t.t.row c.loop-t.invariant c.loop-t-test.false c.args.d
    (seek_from c.args.c c.args.d c.requires c.weight.result c.weight.ensures c.row.result c.row.ensures long (omega (arith, weight_le c.args.d, c.weight.ensures)) c.advance-t.result c.advance-t.ensures)
