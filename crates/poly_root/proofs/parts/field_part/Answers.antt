use Rattle.field.proofs.Laws.{zero_settles}
use Rattle.poly_root.proofs.parts.Parts.{part_of, field_leaves}
use Rattle.poly_root.proofs.parts.field_part.Goals as goal

pub returns : goal.returns
returns c = part_of c.args.prime.m c.args.prime.prime c.args.u _ c.common.ensures _ _ (field_leaves c.args.prime.m c.args.u c.one-one.ensures (zero_settles c.args.prime.m _ c.zero-zero.ensures) _ c.number.ensures c.raise-w.ensures c.sub.ensures)
