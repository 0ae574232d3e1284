use mathlib.Core.Path.{sym}
use Rattle.text_lines.proofs.digits.Putting.{put_as, room_as}
use Rattle.text_lines.proofs.Lines.{shown_none, shown_zero, shown_two}
use Rattle.text_lines.proofs.put_places.Goals.{in_default-via-in-Some+else-r-gt0, in_default-via-in_default}
use Rattle.text_lines.proofs.put_places.Goals as goal

pub put_two-requires : goal.put_two-requires
put_two-requires c = room_as c.args.a (shown_two c.args.r c.in-Some.r c.in-Some.is c.if-r-gt0.true) c.requires

pub put_bytes-requires : goal.put_bytes-requires
put_bytes-requires c = elim c.in_default.branch [
  | in_default-via-in-Some+else-r-gt0 w ↦ room_as c.args.a (shown_zero c.args.r w.in-Some.r w.in-Some.is w.if-r-gt0.false) c.requires
  | in_default-via-in_default w ↦ room_as c.args.a (shown_none c.args.r w.in_default.is) c.requires
]

pub returns-in-Some : goal.returns-in-Some
returns-in-Some c = put_as (sym (shown_two c.args.r c.in-Some.r c.in-Some.is c.if-r-gt0.true)) c.put_two.ensures

pub returns-in_default : goal.returns-in_default
returns-in_default c = elim c.in_default.branch [
  | in_default-via-in-Some+else-r-gt0 w ↦ put_as (sym (shown_zero c.args.r w.in-Some.r w.in-Some.is w.if-r-gt0.false)) c.put_bytes.ensures
  | in_default-via-in_default w ↦ put_as (sym (shown_none c.args.r w.in_default.is)) c.put_bytes.ensures
]
