use borrow.Author.Tests.{not-true, not-false}
use mathlib.Core.Path.{◌≡◌}
use Prim.Native.Nat.{suc, ◌-◌}
use Rattle.field.specs.Residues.{el}
use Rattle.algebra.proofs.Zmod.Zmod.{zmod}
use Rattle.field.proofs.Decide.{decided_yes, decided_no}
use Rattle.divisor_census.proofs.Raising.{one_more}
use Rattle.divisor_census.proofs.Raising.{clear_turn, clear_stop}
use native.Mathlib.Omega.{arith}
use Rattle.std.proofs.Common.{ap}
use Rattle.std.proofs.Common.{not}
use Rattle.divisor_census.proofs.raise.Goals as goal

pub loop-k-preserved : goal.loop-k-preserved
loop-k-preserved c = let e : c.loop-k.k ≡ suc (c.loop-k.k - 1) = omega (arith, c.loop-k-test.true) in clear_turn c.args.m c.args.n c.args.r c.loop-k.row c.requires.long c.loop-k.k c.loop-k.invariant (c.loop-k.k - 1) e _ c.settle-x.result (one_more c.args.m _ c.one-one.ensures c.add.ensures c.settle-x.ensures) (decided_yes {A = el c.args.m c.settle-x.result ≡ (zmod c.args.m.p).zer} {b = c.is_zero.result} (not-false c.is_zero.result (ap not c.if-not-is_zero.false)) c.is_zero.ensures)

pub returns-then-not-is_zero : goal.returns-then-not-is_zero
returns-then-not-is_zero c = let e : c.loop-k.k ≡ suc (c.loop-k.k - 1) = omega (arith, c.loop-k-test.true) in clear_stop c.args.m c.args.n c.args.r c.loop-k.row c.requires.long c.loop-k.k c.loop-k.invariant (c.loop-k.k - 1) e _ c.settle-x.result (one_more c.args.m _ c.one-one.ensures c.add.ensures c.settle-x.ensures) (decided_no {A = el c.args.m c.settle-x.result ≡ (zmod c.args.m.p).zer} {b = c.is_zero.result} (not-true c.is_zero.result (ap not c.if-not-is_zero.true)) c.is_zero.ensures)
