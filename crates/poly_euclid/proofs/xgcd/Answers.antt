use native.Mathlib.Omega.{arith}
use mathlib.Core.Path.{refl, sym, ap}
use Rattle.poly.specs.declared.Poly.{Poly}
use Rattle.poly_euclid.proofs.Common.{to_divide_by}
use Rattle.poly_euclid.proofs.Cofactors.{first_ok, second_ok, extended_begin, turn_fits, turn_is, extended_end, extended_stop, last-size}
use Rattle.poly_euclid.proofs.xgcd.Goals as goal

pub loop-n-init : goal.loop-n-init
loop-n-init c = (extended_begin c.args.prime.m c.requires.0 c.requires.1 c.one-one.ensures c.zero-zero.ensures, refl)

pub loop-n-preserved : goal.loop-n-preserved
loop-n-preserved c =
    (turn_is c.args.prime.m c.requires.0 c.requires.1 c.loop-n.invariant.0 (omega (arith, c.loop-n-test.true, c.loop-n.invariant.1)) c.divide-d.ensures c.minus_multiple-z.ensures, ap (λ (e : Poly). e.n) (sym c.minus_multiple-z.ensures.r_is))

pub returns-then-n-eq0 : goal.returns-then-n-eq0
returns-then-n-eq0 c = extended_end c.args.prime.m c.loop-n.invariant.0 (omega (arith, c.if-n-eq0.true, c.loop-n.invariant.1)) c.monic.ensures

pub returns : goal.returns
returns c = extended_stop c.args.prime.m c.args.prime.prime c.loop-n.invariant.0 (last-size c.if-n-eq0.false c.loop-n-test.false c.loop-n.invariant.1) c.monic-2.ensures
