use mathlib.Core.Path.{◌≡◌}
use lib.ListN.{length}
use Rattle.poly.specs.Polys.{room}
use Rattle.field.proofs.Arrays.{length_of}
use Rattle.poly.proofs.Rows.{put_held, put_end}
use Rattle.poly.proofs.Poly.put.Goals as goal

pub size-requires : goal.size-requires
size-requires c =
    let e : length c.args.self.c ≡ room = search length_of in
    put_held c.args.m c.args.self c.args.k c.args.x c.requires e (c.get.ensures c.args.m c.requires.left.fill) c.add-y.ensures c.max.ensures

pub returns : goal.returns
returns c =
    let e : length c.args.self.c ≡ room = search length_of in
    put_end c.args.m c.args.self c.args.k c.args.x c.requires e (c.get.ensures c.args.m c.requires.left.fill) c.add-y.ensures c.max.ensures c.size.ensures
