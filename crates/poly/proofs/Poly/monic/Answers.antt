use native.Mathlib.Omega.{arith}
use Rattle.poly.proofs.Monic.{made_zero, made_monic}
use Rattle.poly.proofs.Poly.monic.Goals as goal

pub returns-then-self-eq0 : goal.returns-then-self-eq0
returns-then-self-eq0 c = record { up = _; made = made_zero c.args.prime.m c.requires c.if-self-eq0.true }

pub returns : goal.returns
returns c = record { up = _; made = made_monic c.args.prime.m c.lead_inverse.result (record { ok = c.requires; some = omega arith }) c.lead_inverse.ensures.1 c.scale.ensures }
