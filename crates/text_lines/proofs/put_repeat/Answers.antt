use Rattle.text_lines.specs.Lines.{repeat_line}
use Rattle.text_lines.specs.digits.Digits.{letters}
use Rattle.text_lines.proofs.digits.Putting.{first_room, second_room, third_room, all_three}
use Rattle.text_lines.proofs.Lines.{shown}
use Rattle.text_lines.proofs.put_repeat.Goals as goal

pub put_bytes-b-requires : goal.put_bytes-b-requires
unfolding repeat_line
put_bytes-b-requires c = first_room c.args.a (letters "repeat ") (shown c.args.r) 10 c.requires

pub put_places-c-requires : goal.put_places-c-requires
unfolding repeat_line
put_places-c-requires c = second_room c.args.a (letters "repeat ") (shown c.args.r) 10 c.requires c.put_bytes-b.ensures

pub put_byte-requires : goal.put_byte-requires
unfolding repeat_line
put_byte-requires c = third_room c.args.a (letters "repeat ") (shown c.args.r) 10 c.requires c.put_bytes-b.ensures c.put_places-c.ensures

pub returns : goal.returns
unfolding repeat_line
returns c = all_three c.args.a (letters "repeat ") (shown c.args.r) 10 c.requires c.put_bytes-b.ensures c.put_places-c.ensures c.put_byte.ensures
