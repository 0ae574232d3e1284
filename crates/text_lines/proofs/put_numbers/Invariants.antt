use lib.ListN.{take}
use Rattle.text_lines.specs.Lines.{spaced}
use Rattle.text_lines.specs.digits.Put.{PutAt}
use Rattle.text_lines.proofs.put_numbers.Given as goal

abbrev pub invariant-loop-n : goal.invariant-loop-n
invariant-loop-n l = PutAt l.initial.out l.a (spaced (take l.n-index l.fn.x)) l.out l.b
