use native.Mathlib.Omega.{arith}
use mathlib.Core.Path.{refl}
use Rattle.poly.specs.Polys.{P, pol}
use Rattle.poly_euclid.proofs.Common.{to_divide_by}
use Rattle.poly_euclid.proofs.Steps.{taken}
use Rattle.poly_euclid.proofs.Cofactors.{half_begin, half_fits, half_turn, half_end, half_stop, last-size}
use Rattle.poly_euclid.proofs.xgcd_right.Goals as goal

pub loop-size-init : goal.loop-size-init
loop-size-init c =
    (record { xs = (P c.args.prime.m).one; ys = (P c.args.prime.m).zer; lines = half_begin c.args.prime.m c.requires.0 c.requires.1 c.one-one.ensures c.zero-zero.ensures refl refl }, refl)

pub loop-size-preserved : goal.loop-size-preserved
loop-size-preserved c =
    (record { xs = c.loop-size.invariant.0.ys; ys = (P c.args.prime.m).add c.loop-size.invariant.0.xs ((P c.args.prime.m).neg ((P c.args.prime.m).mul (pol c.args.prime.m c.divide-d.result.quotient) c.loop-size.invariant.0.ys)); lines = half_turn c.args.prime.m c.requires.0 c.loop-size.invariant.0.lines (omega (arith, c.loop-size-test.true, c.loop-size.invariant.1)) c.divide-d.ensures (taken c.args.prime.m c.loop-size.invariant.0.lines.ok_x.t c.divide-d.ensures.ok_q c.loop-size.invariant.0.lines.ok_y.t c.mul.ensures c.sub-w.ensures) refl }, refl)

pub returns-then-size-eq0 : goal.returns-then-size-eq0
returns-then-size-eq0 c = half_end c.args.prime.m c.loop-size.invariant.0.lines (omega (arith, c.if-size-eq0.true, c.loop-size.invariant.1)) c.monic.ensures

pub returns : goal.returns
returns c = half_stop c.args.prime.m c.args.prime.prime c.loop-size.invariant.0.lines (last-size c.if-size-eq0.false c.loop-size-test.false c.loop-size.invariant.1) c.monic-2.ensures
