use Rattle.text_lines.specs.digits.Digits.{letters, decimal}
use Rattle.text_lines.specs.Lines.{count_line}
use Rattle.text_lines.proofs.digits.Putting.{first_room, second_room, third_room, all_three}
use Rattle.text_lines.proofs.put_count.Goals as goal

pub put_bytes-b-requires : goal.put_bytes-b-requires
unfolding count_line
put_bytes-b-requires c = first_room c.args.a (letters "count ") (decimal c.args.n) 10 c.requires

pub put_decimal-c-requires : goal.put_decimal-c-requires
unfolding count_line
put_decimal-c-requires c = second_room c.args.a (letters "count ") (decimal c.args.n) 10 c.requires c.put_bytes-b.ensures

pub put_byte-requires : goal.put_byte-requires
unfolding count_line
put_byte-requires c = third_room c.args.a (letters "count ") (decimal c.args.n) 10 c.requires c.put_bytes-b.ensures c.put_decimal-c.ensures

pub returns : goal.returns
unfolding count_line
returns c = all_three c.args.a (letters "count ") (decimal c.args.n) 10 c.requires c.put_bytes-b.ensures c.put_decimal-c.ensures c.put_byte.ensures
