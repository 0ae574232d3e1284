use mathlib.Core.Path.{◌≡◌}
use lib.ListN.{length}
use native.Mathlib.Nat.{lt_of_lt_of_le}
use Rattle.poly.specs.Polys.{room}
use Rattle.field.proofs.Arrays.{length_of}
use Rattle.poly.proofs.Stored.{inside, read}
use Rattle.poly.proofs.Rows.{scale_begin, scale_turn, scale_held, scale_end}
use Rattle.poly.proofs.Poly.scale.Goals as goal

pub loop-k-init : goal.loop-k-init
loop-k-init c =
    let e : length c.zero-r.result.c ≡ room = search length_of in
    scale_begin c.args.m c.args.x c.args.self c.requires.0 c.zero-r.ensures e

pub loop-k-preserved : goal.loop-k-preserved
loop-k-preserved c =
    let e : length c.args.self.c ≡ room = search length_of in
    scale_turn c.args.m c.args.x c.args.self c.requires.0 c.loop-k.invariant c.loop-k-test.true (read c.args.m c.loop-k.k _ c.requires.0.fill (inside e (lt_of_lt_of_le c.loop-k-test.true c.requires.0.len))) c.mul.ensures

pub size-requires : goal.size-requires
size-requires c = scale_held c.args.m c.args.x c.args.self c.requires.0 c.loop-k.invariant c.loop-k-test.false

pub returns : goal.returns
returns c = scale_end c.args.m c.args.x c.args.self c.requires.0 c.loop-k.invariant c.loop-k-test.false c.size.ensures
