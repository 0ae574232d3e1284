use native.Mathlib.Omega.{arith}
use mathlib.Core.Path.{refl}
use Rattle.poly_euclid.proofs.Common.{euclid_begin, euclid_turn, euclid_end, euclid_stop, to_divide_by}
use Rattle.poly_euclid.proofs.Cofactors.{last-size}
use Rattle.poly_euclid.proofs.last_remainder.Goals as goal

pub loop-n-preserved : goal.loop-n-preserved
loop-n-preserved c = (euclid_turn c.args.prime.m c.loop-n.invariant.0 c.divide-d.ensures, refl)

pub returns-then-n-eq0 : goal.returns-then-n-eq0
returns-then-n-eq0 c = euclid_end c.args.prime.m c.loop-n.invariant.0 (omega (arith, c.loop-n.invariant.1, c.if-n-eq0.true))

pub returns : goal.returns
returns c = euclid_stop c.args.prime.m c.loop-n.invariant.0 c.args.prime.prime (last-size c.if-n-eq0.false c.loop-n-test.false c.loop-n.invariant.1)
