-- src/lib.rt:86:39
use Rattle.text_lines.proofs.Lines.{word_room, behind_room, total_put}
use Rattle.text_lines.proofs.put_total.Goals as goal

pub put_bytes-b-requires : goal.put_bytes-b-requires
put_bytes-b-requires c = word_room c.args.m c.args.t c.args.a c.requires.1

pub put_record-requires : goal.put_record-requires
put_record-requires c = (c.requires.0, behind_room c.args.m c.args.t c.args.a c.requires.1 c.put_bytes-b.ensures)

pub returns : goal.returns
returns c = total_put c.args.m c.args.t c.args.a c.requires.1 c.put_bytes-b.ensures c.put_record.ensures
