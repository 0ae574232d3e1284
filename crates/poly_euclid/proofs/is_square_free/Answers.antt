use native.Mathlib.Omega.{arith}
use Rattle.poly_euclid.proofs.Shares.{shares_none_with, shares_some_with}
use Rattle.poly_euclid.proofs.is_square_free.Goals as goal

pub returns-then-g-eq1 : goal.returns-then-g-eq1
returns-then-g-eq1 c = shares_none_with c.args.prime.m c.args.prime.prime c.derivative.ensures.is c.last_remainder-g.ensures (omega (arith, c.if-g-eq1.true))

pub returns : goal.returns
returns c = shares_some_with c.args.prime.m c.args.prime.prime c.derivative.ensures.is c.last_remainder-g.ensures (λ e. omega (arith, c.if-g-eq1.false))
