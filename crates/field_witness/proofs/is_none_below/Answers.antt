use native.Mathlib.Omega.{arith}
use Rattle.algebra.proofs.Ring.Power.{has_power_one}
use Rattle.algebra.proofs.Zmod.PrimeField.{modulo}
use Rattle.field.specs.Residues.{el}
use Rattle.field.proofs.Decide.{decided_yes, decided_no}
use Rattle.field_witness.proofs.Listed.{next, at_end, none_stop, none_turn, none_end}
use Rattle.field_witness.proofs.Accepted.{one_yes, one_no, some_at}
use Rattle.field_witness.proofs.is_none_below.Goals as goal

pub nonzero_div-n : goal.nonzero_div-n
nonzero_div-n c = omega (arith, some_at c.args.q.now c.loop-j.j _ _ c.requires.1 (next c.args.q.now c.loop-j.j 0 c.loop-j-test.true))

pub returns-then-is_one : goal.returns-then-is_one
returns-then-is_one c = record { is = none_stop (has_power_one (modulo c.args.m.p) (el c.args.m c.args.a)) c.args.n c.args.q.now _ _ _ c.loop-j.invariant (next c.args.q.now c.loop-j.j 0 c.loop-j-test.true) (one_yes c.args.m c.args.a _ _ c.power.ensures (decided_yes c.if-is_one.true c.is_one.ensures)) }

pub loop-j-preserved : goal.loop-j-preserved
loop-j-preserved c = none_turn (has_power_one (modulo c.args.m.p) (el c.args.m c.args.a)) c.args.n c.args.q.now _ _ _ c.loop-j.invariant (next c.args.q.now c.loop-j.j 0 c.loop-j-test.true) (one_no c.args.m c.args.a _ _ c.power.ensures (decided_no c.if-is_one.false c.is_one.ensures))

pub returns : goal.returns
returns c = record { is = none_end (has_power_one (modulo c.args.m.p) (el c.args.m c.args.a)) c.args.n c.args.q.now _ c.loop-j.invariant (at_end c.args.q.now c.loop-j.j (omega (arith, c.loop-j-test.false))) }
