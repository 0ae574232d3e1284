-- src/lib.rt:95:5
use Rattle.text_lines.proofs.Lines.{record_room}
use Rattle.text_lines.proofs.Printing.{printed}
use Rattle.text_lines.proofs.record.Goals as goal

pub put_record-requires : goal.put_record-requires
put_record-requires c = (c.requires, record_room c.args.m c.args.t)

pub returns : goal.returns
returns c = printed (record_room c.args.m c.args.t) c.put_record.ensures
