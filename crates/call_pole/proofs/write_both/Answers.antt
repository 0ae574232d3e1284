use native.Mathlib.Omega.{arith}
use mathlib.Core.Path.{◌∙◌, ap}
use mathlib.Core.List.{List}
use Prim.Native.Nat.{ℕ}
use lib.ListN.{length}
use lib.Seq.{sets}
use Rattle.call_pole.proofs.Parts.{both_put}
use Rattle.call_pole.proofs.write_both.Goals as goal

pub returns : goal.returns
returns c =
    both_put c.args.pole c.args.a.now c.args.b.now c.args.out.now _ (omega arith) (omega arith)
    (c.write_bytes-2.ensures ∙ ap (λ (l : List ℕ). sets l (length c.args.a.now) c.args.b.now) c.write_bytes.ensures)
