use Rattle.std.proofs.Common.{refl, sym, arith, ◌∙◌}
use Rattle.call_answer.proofs.Written.{wrote_none, wrote_all, rewritten}
use Rattle.call_answer.proofs.rewrite_curve.Goals as goal

pub returns-then-out-curve : goal.returns-then-out-curve
returns-then-out-curve c = rw c.at.ensures (wrote_none c.args.out.now c.args.curve.now refl c.if-out-curve.true ∙ sym (rewritten c.args.curve.now c.args.out.now (λ k. (c.type_inv.curve k).fits) c.in_ok-read_curve.ensures))

pub returns : goal.returns
returns c = wrote_all c.args.out.now c.args.curve.now refl (omega (arith, c.if-out-curve.false)) c.write_bytes.ensures ∙ sym (rewritten c.args.curve.now c.args.out.now (λ k. (c.type_inv.curve k).fits) c.in_ok-read_curve.ensures)
