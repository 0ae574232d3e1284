use Rattle.field_root.proofs.Search.{trying_begin, trying_unit, trying_turn, never}
use Rattle.field.proofs.Decide.{decided_yes}
use native.Mathlib.Omega.{arith}
use Rattle.field_root.proofs.least_nonsquare.Goals as goal

pub loop-n-init : goal.loop-n-init
loop-n-init c = trying_begin c.args.prime.m c.args.prime.prime _ _ c.one-one.ensures c.add-z.ensures

pub is_square-requires : goal.is_square-requires
is_square-requires c = trying_unit c.args.prime.m c.args.prime.prime c.loop-n.invariant (omega (arith, c.loop-n-test.true, c.number-n-end.ensures))

pub loop-n-preserved : goal.loop-n-preserved
loop-n-preserved c = trying_turn c.args.prime.m c.args.prime.prime c.loop-n.invariant _ _ c.one-one.ensures c.add-z-in-loop-n.ensures (decided_yes {b = c.is_square.result} c.if-not-is_square.false c.is_square.ensures)

pub returns : goal.returns
returns c = never c.args.prime.m c.args.prime.prime c.loop-n.invariant (omega (arith, c.loop-n-test.false, c.number-n-end.ensures))
