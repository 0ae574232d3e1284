use mathlib.Core.Path.{◌≡◌}
use lib.ListN.{length}
use native.Mathlib.Nat.{lt_of_lt_of_le}
use Rattle.poly.specs.Polys.{room}
use Rattle.field.proofs.Arrays.{length_of}
use Rattle.poly.proofs.Stored.{inside, read}
use Rattle.poly.proofs.Rows.{sum_begin, sum_turn, sum_held, sum_end, sub_term, neg_below}
use Rattle.poly.proofs.Poly.sub.Goals as goal

pub loop-k-init : goal.loop-k-init
loop-k-init c = let e : length c.args.self.c ≡ room = search length_of in sum_begin c.args.m c.args.self c.args.other _ c.requires.0 c.requires.1 (neg_below c.args.m c.args.other c.requires.1) e

pub loop-k-preserved : goal.loop-k-preserved
loop-k-preserved c =
    let f : length c.args.other.c ≡ room = search length_of in
    let in-room = lt_of_lt_of_le c.loop-k-test.true c.requires.1.len in
    sum_turn c.args.m c.args.self c.args.other _ c.requires.0 c.requires.1 (neg_below c.args.m c.args.other c.requires.1) c.loop-k.invariant c.loop-k-test.true (sub_term c.args.m c.args.other c.loop-k.k (read c.args.m c.loop-k.k _ c.loop-k.invariant.fill (inside c.loop-k.invariant.long in-room)) (read c.args.m c.loop-k.k _ c.requires.1.fill (inside f in-room)) c.sub.ensures)

pub size-requires : goal.size-requires
size-requires c = sum_held c.args.m c.args.self c.args.other _ c.requires.0 c.requires.1 (neg_below c.args.m c.args.other c.requires.1) c.loop-k.invariant c.loop-k-test.false c.max.ensures

pub returns : goal.returns
returns c = sum_end c.args.m c.args.self c.args.other _ c.requires.0 c.requires.1 (neg_below c.args.m c.args.other c.requires.1) c.loop-k.invariant c.loop-k-test.false c.max.ensures c.size.ensures
