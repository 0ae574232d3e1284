use native.Mathlib.Omega.{arith}
use Prim.Native.Nat.{◌+◌, ℕ}
use mathlib.Core.Path.{◌∙◌, ap}
use mathlib.Core.List.{List}
use lib.ListN.{length}
use lib.Seq.{sets}
use Rattle.rules.specs.Pole.PoleFile.{bytes16}
use Rattle.call_pole.proofs.Writes.{file_put}
use Rattle.call_pole.proofs.write_file.Goals as goal

pub returns : goal.returns
returns c =
    file_put c.args.pole c.args.curve.now c.args.count c.args.batch.now c.args.out.now _ (omega arith) (omega arith)
    (c.write_bytes-2.ensures ∙ ap (λ (l : List ℕ). sets l (11 + length c.args.curve.now) c.args.batch.now) (c.put16.ensures
    ∙ ap (λ (l : List ℕ). sets l (9 + length c.args.curve.now) (bytes16 c.args.count)) (c.write_bytes.ensures
    ∙ ap (λ (l : List ℕ). sets l 9 c.args.curve.now) c.put_head.ensures)))
