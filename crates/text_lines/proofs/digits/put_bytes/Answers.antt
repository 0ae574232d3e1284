use native.Mathlib.Omega.{arith}
use Rattle.text_lines.proofs.digits.Putting.{put_all}
use Rattle.text_lines.proofs.digits.put_bytes.Goals as goal

pub returns : goal.returns
returns c = put_all c.args.out.now c.args.s.now c.copy_from_slice.new.self c.args.a c.copy_from_slice.ensures.after (omega arith)
