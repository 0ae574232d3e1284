use native.Mathlib.Omega.{arith}
use Rattle.record_curve_head.proofs.Head.{ends_early, count_none, count_many, counted_other, counted_passed, count_at}
use Rattle.record_curve_head.proofs.witness_length.Goals as goal

pub returns-then-s-g : goal.returns-then-s-g
returns-then-s-g c = ends_early _ c.requires.0 c.requires.1 (omega (arith, c.if-s-g.true, c.wide-g.ensures.0))

pub returns-then-k-lt1 : goal.returns-then-k-lt1
returns-then-k-lt1 c = let k = count_at c.args.s.now c.wide-g.result c.wide-g.ensures.0 in count_none _ c.requires.0 c.requires.1 (omega (arith, c.if-s-g.false, c.wide-g.ensures.0)) (omega (arith, c.if-k-lt1.true, c.wide-k.ensures.0, k))

pub returns-then-k-gt-MOST_WITNESS : goal.returns-then-k-gt-MOST_WITNESS
returns-then-k-gt-MOST_WITNESS c = let k = count_at c.args.s.now c.wide-g.result c.wide-g.ensures.0 in count_many _ c.requires.0 c.requires.1 (omega (arith, c.if-s-g.false, c.wide-g.ensures.0)) (omega (arith, c.if-k-gt-MOST_WITNESS.true, c.wide-k.ensures.0, k))

pub returns-then-s-g-2 : goal.returns-then-s-g-2
returns-then-s-g-2 c = let k = count_at c.args.s.now c.wide-g.result c.wide-g.ensures.0 in counted_other _ c.requires.0 c.requires.1 (omega (arith, c.if-s-g.false, c.wide-g.ensures.0)) (omega (arith, c.if-k-lt1.false, c.wide-k.ensures.0, k)) (omega (arith, c.if-k-gt-MOST_WITNESS.false, c.wide-k.ensures.0, k)) (λ e. c.if-s-g-2.true (omega (arith, e, c.wide-g.ensures.0, k, c.wide-k.ensures.0)))

pub returns : goal.returns
returns c = let k = count_at c.args.s.now c.wide-g.result c.wide-g.ensures.0 in counted_passed _ c.requires.0 c.requires.1 (omega (arith, c.if-s-g.false, c.wide-g.ensures.0)) (omega (arith, c.if-k-lt1.false, c.wide-k.ensures.0, k)) (omega (arith, c.wide-k.ensures.0, k)) (omega (arith, c.if-s-g-2.false, c.wide-g.ensures.0, k, c.wide-k.ensures.0))
