use mathlib.Core.Path.{◌≡◌, refl}
use native.Mathlib.Omega.{arith}
use native.Mathlib.Nat.{lt_of_lt_of_le}
use lib.ListN.{length}
use Prim.Native.Nat.{◌+◌}
use Rattle.poly.specs.Polys.{room}
use Rattle.field.proofs.Arrays.{length_of}
use Rattle.poly.proofs.Stored.{inside, read}
use Rattle.poly.proofs.Rows.{row_begin, row_turn, row_plus}
use Rattle.poly.proofs.Product.{cell_in, row_fits, mul_begin, mul_turn, mul_end, mul_none, mul_by_none}
use Rattle.poly.proofs.Poly.mul.Goals as goal

pub returns-then-n-eq0 : goal.returns-then-n-eq0
returns-then-n-eq0 c = mul_none c.args.prime.m c.args.self c.args.other c.requires c.zero-r.ensures c.if-n-eq0.true

pub returns-then-l-eq0 : goal.returns-then-l-eq0
returns-then-l-eq0 c = mul_by_none c.args.prime.m c.args.self c.args.other c.requires c.zero-r.ensures c.if-l-eq0.true

pub loop-i-init : goal.loop-i-init
loop-i-init c =
    let e : length c.zero-r.result.c ≡ room = search length_of in
    mul_begin c.args.prime.m c.args.self c.args.other c.zero-r.ensures e

pub loop-k-init : goal.loop-k-init
loop-k-init c =
    row_begin c.args.prime.m _ _ _ c.args.other c.requires.right (row_fits _ _ _ c.requires c.loop-i-test.true) c.loop-i.invariant.long c.loop-i.invariant.fill refl

pub loop-k-preserved : goal.loop-k-preserved
loop-k-preserved c =
    let f : length c.args.other.c ≡ room = search length_of in
    row_turn c.args.prime.m _ _ c.loop-i.i c.args.other c.requires.right (row_fits _ _ _ c.requires c.loop-i-test.true) c.loop-k.invariant c.loop-k-test.true refl
    (row_plus c.args.prime.m _ (read c.args.prime.m (c.loop-i.i + c.loop-k.k) _ c.loop-k.invariant.fill (inside c.loop-k.invariant.long (cell_in _ _ _ c.requires c.loop-i-test.true c.loop-k-test.true))) (read c.args.prime.m c.loop-k.k _ c.requires.right.fill (inside f (lt_of_lt_of_le c.loop-k-test.true c.requires.right.len))) c.mul.ensures c.add.ensures)

pub loop-i-preserved : goal.loop-i-preserved
loop-i-preserved c =
    let e : length c.args.self.c ≡ room = search length_of in
    mul_turn c.args.prime.m c.args.self c.args.other c.requires c.loop-i.invariant c.loop-i-test.true (read c.args.prime.m c.loop-i.i _ c.requires.left.fill (inside e (lt_of_lt_of_le c.loop-i-test.true c.requires.left.len))) c.loop-k.invariant c.loop-k-test.false

pub returns : goal.returns
returns c = mul_end c.args.prime.m c.args.self c.args.other c.requires c.args.prime.prime c.loop-i.invariant c.loop-i-test.false (omega arith) (omega arith)
