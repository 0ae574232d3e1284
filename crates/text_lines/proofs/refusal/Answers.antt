use native.Mathlib.Omega.{arith}
use Prim.Native.Nat.{ℕ}
use mathlib.Core.Path.{ap}
use borrow.Author.Rules.{rules}
use Rattle.text_lines.specs.digits.Digits.{letters}
use Rattle.text_lines.specs.digits.Put.{Room}
use Rattle.text_lines.specs.Lines.{refused_line, two}
use Rattle.text_lines.proofs.Lengths.{refused-short}
use Rattle.text_lines.proofs.digits.Decimals.{Word}
use Rattle.text_lines.proofs.digits.Putting.{second_room, third_room, all_three}
use Rattle.text_lines.proofs.Printing.{printed, printed_as}
use Rattle.text_lines.proofs.refusal.Goals as goal

room : (n k : ℕ) → Word n → Word k → Room 0 (refused_line n k)
room n k h l = omega (arith, refused-short n k h l)

pub put_two-b-requires : goal.put_two-b-requires
unfolding refused_line
put_two-b-requires c = second_room 0 (letters "refused ") (two c.args.number c.args.place) 10 (room c.args.number c.args.place (search rules) (search rules)) c.put_bytes-a.ensures

pub put_byte-requires : goal.put_byte-requires
unfolding refused_line
put_byte-requires c = third_room 0 (letters "refused ") (two c.args.number c.args.place) 10 (room c.args.number c.args.place (search rules) (search rules)) c.put_bytes-a.ensures c.put_two-b.ensures

pub returns : goal.returns
unfolding refused_line
returns c = printed (room c.args.number c.args.place (search rules) (search rules)) (all_three 0 (letters "refused ") (two c.args.number c.args.place) 10 (room c.args.number c.args.place (search rules) (search rules)) c.put_bytes-a.ensures c.put_two-b.ensures c.put_byte.ensures)
