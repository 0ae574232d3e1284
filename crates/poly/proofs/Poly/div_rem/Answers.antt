use mathlib.Core.Path.{◌≡◌, refl, sym, subst}
use lib.ListN.{length}
use Prim.Native.Nat.{◌+◌, ◌-◌, zero-le}
use native.Mathlib.Nat.{le_antisymm, lt_of_lt_of_le, lt_of_le_of_lt}
use Rattle.poly.specs.Polys.{room, pol}
use Rattle.field.proofs.Arrays.{length_of}
use Rattle.poly.proofs.Stored.{inside, read}
use Rattle.poly.proofs.Lengths.{one_back, one_less, one_on, within_one, all_in, rest_of}
use Rattle.poly.proofs.Rows.{row_begin, row_turn, row_less}
use Rattle.poly.proofs.Division.{Reducing, row_in, row_fits, reduce_begin, read_lead, reduce_turn, quote_begin, quote_is, quote_turn, div_short, div_end}
use Rattle.poly.proofs.Poly.div_rem.Goals as goal

pub returns-then-n-low : goal.returns-then-n-low
returns-then-n-low c = div_short c.args.m c.args.self c.args.u c.requires c.zero-q.ensures (lt_of_le_of_lt c.if-n-low.true (one_less c.requires.monic.some))

pub rows-init : goal.rows-init
rows-init c =
    let e : length c.args.self.c ≡ room = search length_of in
    let f : length c.zero-q.result.c ≡ room = search length_of in
    let k = rest_of c.args.self.n c.args.u.n c.requires.monic.some in
    (subst (Reducing c.args.m c.args.self c.args.u (pol c.args.m c.zero-q.result) c.args.self.c) k (reduce_begin c.args.m c.args.self c.args.u c.requires c.zero-q.ensures.is e (all_in c.if-n-low.false)), (quote_begin c.args.m c.args.self c.args.u c.requires _ c.zero-q.ensures f, sym k))

pub loop-i-init : goal.loop-i-init
loop-i-init c =
    (row_begin c.args.m _ _ _ c.args.u c.requires.right (row_fits _ c.requires c.rows.invariant.0 c.rows-test.true) c.rows.invariant.0.long c.rows.invariant.0.fill refl, zero-le)

pub loop-i-preserved : goal.loop-i-preserved
loop-i-preserved c =
    let f : length c.args.u.c ≡ room = search (length_of, c.well_formed) in (
      row_turn c.args.m _ _ (c.rows.k - 1) c.args.u c.requires.right (row_fits _ c.requires c.rows.invariant.0 c.rows-test.true) c.loop-i.invariant.0 (within_one c.loop-i-test.true) refl
          (row_less c.args.m _ (read c.args.m (c.rows.k - 1 + c.loop-i.i) _ c.loop-i.invariant.0.fill (inside c.loop-i.invariant.0.long (row_in _ c.requires c.rows.invariant.0 c.rows-test.true c.loop-i.i c.loop-i-test.true))) (read c.args.m c.loop-i.i _ c.requires.right.fill (inside f (lt_of_lt_of_le (within_one c.loop-i-test.true) c.requires.right.len))) c.mul.ensures c.sub.ensures),
      one_on c.loop-i-test.true,
    )

pub rows-preserved : goal.rows-preserved
rows-preserved c =
    let back = one_back c.rows-test.true in
    let x = read_lead c.args.m c.args.self c.args.u c.requires (c.rows.k - 1) _ c.rows.invariant.0 back in (
      reduce_turn c.args.m c.args.self c.args.u c.requires (c.rows.k - 1) c.rows.invariant.0 back refl x c.loop-i.invariant.0 (le_antisymm c.loop-i.invariant.1 c.loop-i-test.false) c.zero-zero.ensures
          (quote_is c.args.m c.args.self c.args.u c.requires (c.rows.k - 1) c.rows.invariant.1.0 c.rows.invariant.0.within back x.kept),
      (quote_turn c.args.m c.args.self c.args.u c.requires (c.rows.k - 1) c.rows.invariant.1.0 c.rows.invariant.0.within back x.kept, c.rows.invariant.1.1),
    )

pub returns : goal.returns
returns c =
    div_end c.args.m c.args.self c.args.u c.requires c.rows.invariant.0 c.rows.invariant.1.0 c.rows-test.false (all_in c.if-n-low.false) c.rows.invariant.1.1 c.size.ensures
