use native.Mathlib.Omega.{arith}
use Rattle.record_curve_head.proofs.Head.{plain_other, plain_passed}
use Rattle.record_curve_head.proofs.plain_length.Goals as goal

pub returns-then-s-g : goal.returns-then-s-g
returns-then-s-g c = plain_other _ c.requires.0 c.requires.1 (λ e. c.if-s-g.true (omega (arith, e, c.wide-g.ensures.0)))
