use native.Mathlib.Omega.{arith}
use Rattle.call_split.proofs.Splits.{both_all}
use Rattle.call_split.proofs.write_both.Goals as goal

pub returns : goal.returns
returns c = both_all c.args.m c.args.a c.args.b c.args.out.now c.record_length-n.ensures c.record_length.ensures _ _ (omega (arith, c.if-out-l.false)) c.write_divisor.ensures c.write_divisor-2.ensures
