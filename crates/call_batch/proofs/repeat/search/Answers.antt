use native.Mathlib.Omega.{arith}
use borrow.Author.Count.{below_more}
use Prim.Native.Nat.{◌-◌}
use mathlib.Core.Path.{refl}
use Rattle.field.proofs.Decide.{decided_yes, decided_no}
use Rattle.call_batch.specs.repeat.Rows.{SameIn}
use Rattle.call_batch.proofs.repeat.Hashes.{chain_below}
use Rattle.call_batch.proofs.repeat.Chains.{whole, not_same, chained_begin, chained_turn, walk_begin, walk_turn, found_first}
use Rattle.call_batch.proofs.repeat.search.Goals.{else-may_be_same-via-then-may_be_same+else-alike, else-may_be_same-via-else-may_be_same}
use Rattle.call_batch.proofs.repeat.search.Goals as goal

pub search-init : goal.search-init
search-init c = (refl, (chained_begin c.args.s.now c.args.places.now, λ b l. omega arith))

pub chain-b-requires : goal.chain-b-requires
chain-b-requires c = whole c.args.c c.args.s.now _ (c.requires.row _ (omega arith))

pub offset_bounds-head-b : goal.offset_bounds-head-b
offset_bounds-head-b c = omega (arith, chain_below _ c.chain-b.ensures)

pub bounds-head-b : goal.bounds-head-b
bounds-head-b c = omega (arith, c.search.invariant.1.0.head_long, chain_below _ c.chain-b.ensures)

pub loop-i-init : goal.loop-i-init
loop-i-init c = (c.search.invariant.0, walk_begin c.args.c c.args.s.now c.args.places.now c.args.n c.requires c.search.head c.search.before c.search.j (omega arith) c.search.invariant.1.0 _ _ (chain_below _ c.chain-b.ensures) c.chain-b.ensures refl)

pub may_be_same-requires : goal.may_be_same-requires
may_be_same-requires c = (whole c.args.c c.args.s.now _ (c.requires.row _ (omega (arith, c.loop-i-test.true, c.loop-i.invariant.1.on))), whole c.args.c c.args.s.now _ (c.requires.row _ (omega arith)))

pub loop-i-preserved : goal.loop-i-preserved
loop-i-preserved c = (c.loop-i.invariant.0, walk_turn c.args.c c.args.s.now c.args.places.now c.args.n c.requires c.search.head c.search.before c.search.j (omega arith) c.search.invariant.1.0 c.loop-i.i (c.loop-i.i - 1) _ c.loop-i.invariant.1 (omega (arith, c.loop-i-test.true)) other refl)
  where
    other : SameIn c.args.c c.args.s.now c.args.places.now (c.loop-i.i - 1) c.search.j → ⊥
    other = elim c.else-may_be_same.branch [
      | else-may_be_same-via-then-may_be_same+else-alike w ↦ decided_no w.if-alike.false w.alike.ensures
      | else-may_be_same-via-else-may_be_same w ↦ not_same c.args.c c.args.s.now _ _ (c.requires.row _ (omega (arith, c.loop-i-test.true, c.loop-i.invariant.1.on))) (c.requires.row _ (omega arith)) c.may_be_same.result c.may_be_same.ensures w.if-may_be_same.false
    ]

pub offset_bounds-head-b-in-search : goal.offset_bounds-head-b-in-search
offset_bounds-head-b-in-search c = omega (arith, chain_below _ c.chain-b.ensures)

pub bounds-head-b-in-search : goal.bounds-head-b-in-search
bounds-head-b-in-search c = omega (arith, c.search.invariant.1.0.head_long, chain_below _ c.chain-b.ensures)

pub search-preserved : goal.search-preserved
search-preserved c = (c.loop-i.invariant.0, (chained_turn c.args.s.now c.args.places.now c.search.head c.search.before c.search.j _ _ (omega (arith, c.requires.room)) (chain_below _ c.chain-b.ensures) c.search.invariant.1.0 c.chain-b.ensures refl, below_more _ c.search.j c.search.invariant.1.1 (λ a l. c.loop-i.invariant.1.none a (omega (arith, c.loop-i-test.false)) l)))

pub returns-then-alike : goal.returns-then-alike
returns-then-alike c =
    found_first c.args.c c.args.s.now c.args.places.now c.args.n (c.loop-i.i - 1) c.search.j (omega (arith, c.loop-i-test.true, c.loop-i.invariant.1.on)) (omega arith) c.search.invariant.1.1 (decided_yes c.if-alike.true c.alike.ensures)
