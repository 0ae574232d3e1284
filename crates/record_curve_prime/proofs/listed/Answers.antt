use native.Mathlib.Omega.{arith}
use Rattle.record_curve_prime.proofs.Rows.{fill_begin, fill_turn}
use Rattle.record_curve_prime.proofs.listed.Goals as goal

pub loop-i-init : goal.loop-i-init
loop-i-init c = fill_begin _ _ _

pub loop-i-preserved : goal.loop-i-preserved
loop-i-preserved c = fill_turn c.args.s.now c.args.a c.args.k _ _ _ c.requires.0 (omega arith) c.loop-i.invariant c.read64.ensures
