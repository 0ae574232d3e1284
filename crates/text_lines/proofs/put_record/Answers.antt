-- src/lib.rt:75:9
use Prim.Native.Nat.{◌*◌}
use lib.ListN.{take}
use Rattle.text_lines.specs.digits.Digits.{hex}
use Rattle.text_lines.specs.Lines.{spaced}
use Rattle.text_lines.proofs.digits.Putting.{put_then, first_room, second_room, third_room}
use Rattle.text_lines.proofs.Lines.{parts_room, record_put}
use Rattle.text_lines.proofs.put_record.Goals as goal

pub put_hex-c-requires : goal.put_hex-c-requires
put_hex-c-requires c = first_room c.args.a (hex 2 c.weight-w.result) (spaced (take (2 * c.weight-w.result) c.numbers_of-x.result)) 10 (parts_room c.args.m c.args.t c.numbers_of-x.result c.weight-w.result c.weight-w.ensures c.numbers_of-x.ensures c.args.a c.requires.1)

pub put_numbers-d-requires : goal.put_numbers-d-requires
put_numbers-d-requires c = second_room c.args.a (hex 2 c.weight-w.result) (spaced (take (2 * c.weight-w.result) c.numbers_of-x.result)) 10 (parts_room c.args.m c.args.t c.numbers_of-x.result c.weight-w.result c.weight-w.ensures c.numbers_of-x.ensures c.args.a c.requires.1) c.put_hex-c.ensures

pub put_byte-requires : goal.put_byte-requires
put_byte-requires c = third_room c.args.a (hex 2 c.weight-w.result) (spaced (take (2 * c.weight-w.result) c.numbers_of-x.result)) 10 (parts_room c.args.m c.args.t c.numbers_of-x.result c.weight-w.result c.weight-w.ensures c.numbers_of-x.ensures c.args.a c.requires.1) c.put_hex-c.ensures c.put_numbers-d.ensures

pub returns : goal.returns
returns c = record_put c.args.m c.args.t c.numbers_of-x.result c.weight-w.result c.weight-w.ensures c.numbers_of-x.ensures (put_then c.put_hex-c.ensures (put_then c.put_numbers-d.ensures c.put_byte.ensures))
