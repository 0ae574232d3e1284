use Rattle.field.specs.Residues.{el}
use Rattle.field.proofs.Decide.{decided_yes}
use Rattle.algebra.proofs.Ring.CRing.{zer_mul}
use Rattle.algebra.proofs.Zmod.Zmod.{zmod}
use mathlib.Core.Path.{◌≡◌, ◌∙◌, sym, ap₂}
use Rattle.field_root.proofs.square_root.Goals as goal

pub returns-then-is_zero : goal.returns-then-is_zero
returns-then-is_zero c = let e : el c.args.prime.m c.args.a ≡ (zmod c.args.prime.m.p).zer = sym c.settle.ensures.is ∙ decided_yes {A = el c.args.prime.m c.settle.result ≡ (zmod c.args.prime.m.p).zer} {b = c.is_zero.result} c.if-is_zero.true c.is_zero.ensures in record { kept = c.requires; is = ap₂ (zmod c.args.prime.m.p).mul e e ∙ zer_mul (zmod c.args.prime.m.p) (zmod c.args.prime.m.p).zer ∙ sym e }
