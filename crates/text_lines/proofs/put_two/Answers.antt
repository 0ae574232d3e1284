use native.Mathlib.Omega.{arith}
use mathlib.Core.List.{◌∷◌}
use Rattle.text_lines.specs.digits.Digits.{decimal}
use Rattle.text_lines.specs.Lines.{two}
use Rattle.text_lines.proofs.digits.Putting.{room-first, room_next, put_then}
use Rattle.text_lines.proofs.put_two.Goals as goal

pub put_decimal-b-requires : goal.put_decimal-b-requires
unfolding two
put_decimal-b-requires c = room-first c.args.a (decimal c.args.i) (32 ∷ decimal c.args.j) c.requires

pub put_byte-c-requires : goal.put_byte-c-requires
unfolding two
put_byte-c-requires c = let r = room_next c.put_decimal-b.ensures (32 ∷ decimal c.args.j) c.requires in omega (arith, r)

pub put_decimal-requires : goal.put_decimal-requires
unfolding two
put_decimal-requires c = room_next c.put_byte-c.ensures (decimal c.args.j) (room_next c.put_decimal-b.ensures (32 ∷ decimal c.args.j) c.requires)

pub returns : goal.returns
unfolding two
returns c = put_then c.put_decimal-b.ensures (put_then c.put_byte-c.ensures c.put_decimal.ensures)
