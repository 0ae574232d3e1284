use native.Mathlib.Omega.{arith}
use mathlib.Core.Path.{◌≡◌, ap, sym, subst, ◌∙◌}
use lib.ListN.{length}
use Prim.Native.Nat.{◌-◌}
use borrow.Author.Tests.{not-false}
use Rattle.std.proofs.Common.{not}
use Rattle.algebra.proofs.Zmod.Zmod.{zmod}
use Rattle.field.specs.Residues.{el}
use Rattle.field.proofs.Decide.{decided_yes, decided_no}
use Rattle.poly.specs.Polys.{room, pol_l}
use Rattle.field.proofs.Arrays.{length_of}
use Rattle.poly.proofs.Stored.{inside, read}
use Rattle.poly.specs.Operations.{Size}
use Rattle.poly.proofs.Lengths.{less, one_back}
use Rattle.poly.proofs.Poly.size.Goals as goal

pub loop-n-preserved : goal.loop-n-preserved
loop-n-preserved c =
    let e : length c.args.self.c ≡ room = search length_of in
    let x = read c.args.m (c.loop-n.n - 1) _ c.requires.fill (inside e (omega (arith, c.loop-n-test.true, c.loop-n.auto.n, c.requires.len))) in
    less c.args.m (pol_l c.args.m c.args.self.c) c.loop-n.n c.loop-n.invariant (sym x.is ∙ sym c.settle.ensures.is ∙ decided_yes {A = el c.args.m c.settle.result ≡ (zmod c.args.m.p).zer} {b = c.is_zero.result} (not-false c.is_zero.result (ap not c.if-not-is_zero.false)) c.is_zero.ensures)

pub returns-then-not-is_zero : goal.returns-then-not-is_zero
returns-then-not-is_zero c =
    let e : length c.args.self.c ≡ room = search length_of in
    let x = read c.args.m (c.loop-n.n - 1) (record { 0 = 0 }) c.requires.fill (inside e (omega (arith, c.loop-n-test.true, c.loop-n.auto.n, c.requires.len))) in
    subst (Size c.args.m c.args.self.c c.args.top) (sym (one_back c.loop-n-test.true)) (record {
      within = c.loop-n.auto.n;
      size = record { end = c.loop-n.invariant; top = λ l z. decided_no c.if-not-is_zero.true c.is_zero.ensures (c.settle.ensures.is ∙ x.is ∙ z) };
    })
