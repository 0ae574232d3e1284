use borrow.Author.Rules.{rules}
use Rattle.text_tally.proofs.Tallies.{count_room, repeat_room, total_room, three_printed}
use Rattle.text_tally.proofs.put_list.Goals as goal

pub put_count-a-requires : goal.put_count-a-requires
put_count-a-requires c = count_room c.args.t.count c.args.t.repeat c.args.t.m c.args.t.total (search rules) c.requires.1.0 c.requires.1.1

pub put_repeat-b-requires : goal.put_repeat-b-requires
put_repeat-b-requires c = repeat_room c.args.t.count c.args.t.repeat c.args.t.m c.args.t.total (search rules) c.requires.1.0 c.requires.1.1 c.put_count-a.ensures

pub put_total-requires : goal.put_total-requires
put_total-requires c = (c.requires.0, total_room c.args.t.count c.args.t.repeat c.args.t.m c.args.t.total (search rules) c.requires.1.0 c.requires.1.1 c.put_count-a.ensures c.put_repeat-b.ensures)

pub returns : goal.returns
returns c = three_printed c.args.t.count c.args.t.repeat c.args.t.m c.args.t.total (search rules) c.requires.1.0 c.requires.1.1 c.put_count-a.ensures c.put_repeat-b.ensures c.put_total.ensures
