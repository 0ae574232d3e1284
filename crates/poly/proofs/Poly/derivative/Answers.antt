use native.Mathlib.Omega.{arith}
use Prim.Native.Nat.{ℕ, ◌+◌, ◌<◌}
use mathlib.Core.Path.{◌≡◌, subst}
use native.Mathlib.Nat.{lt_of_lt_of_le}
use Rattle.poly.specs.Operations.{FilledTo, Size}
use Rattle.poly.proofs.Stored.{inside, read}
use lib.ListN.{length}
use Rattle.poly.specs.Polys.{room}
use Rattle.field.proofs.Arrays.{length_of}
use Rattle.poly.proofs.Derivative.{derive_begin, derive_turn, derive_held, derive_end}
use Rattle.poly.proofs.Poly.derivative.Goals as goal

pub loop-k-init : goal.loop-k-init
loop-k-init c =
    let e : length c.zero-r.result.c ≡ room = search length_of in
    derive_begin c.args.m c.args.self c.requires c.zero-r.ensures e c.zero-i.ensures

pub loop-k-preserved : goal.loop-k-preserved
loop-k-preserved c =
    let e : length c.args.self.c ≡ room = search length_of in
    let more : c.loop-k.k + 1 < c.args.self.n = omega (arith, c.loop-k-test.true, c.saturating_sub-top.ensures) in
    derive_turn c.args.m c.args.self c.requires c.loop-k.invariant more c.one-one.ensures c.add-i.ensures (read c.args.m (c.loop-k.k + 1) _ c.requires.fill (inside e (lt_of_lt_of_le more c.requires.len))) c.mul.ensures

pub size-requires : goal.size-requires
size-requires c = let e : c.loop-k.k ≡ c.saturating_sub-top.result = omega (arith, c.loop-k-test.false, c.loop-k.auto.k-end) in
    subst (FilledTo c.args.m c.loop-k.r.c) e (derive_held c.args.m c.args.self c.requires c.loop-k.invariant (omega (arith, c.loop-k-test.false, c.saturating_sub-top.ensures)))

pub returns : goal.returns
returns c = let e : c.saturating_sub-top.result ≡ c.loop-k.k = omega (arith, c.loop-k-test.false, c.loop-k.auto.k-end) in
    derive_end c.args.m c.args.self c.requires c.loop-k.invariant (omega (arith, c.loop-k-test.false, c.saturating_sub-top.ensures)) (subst (λ (n : ℕ). Size c.args.m c.loop-k.r.c n c.size.result) e c.size.ensures)
