use Rattle.std.proofs.Common.{arith}
use Rattle.field.proofs.Read.{read_above}
use Rattle.record_numbers.proofs.Rows.{fill_stop, fill_end}
use Rattle.record_numbers.proofs.residues_at.Goals as goal

pub returns-in_err-r : goal.returns-in_err-r
returns-in_err-r c = rw c.from_residual.ensures (fill_stop c.args.s.now c.args.a c.args.n c.args.m _ _ c.loop-k.invariant (omega arith) (rw c.read64.ensures at c.in_err-r.ensures))

pub returns : goal.returns
returns c = fill_end _ _ _ _ _ _ c.loop-k.invariant (omega arith)
