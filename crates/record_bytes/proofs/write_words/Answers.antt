use Prim.Native.Nat.{◌+◌, ◌*◌}
use mathlib.Core.Path.{refl, ◌∙◌, ap}
use lib.ListN.{get_or}
use lib.Seq.{sets}
use Rattle.rules.specs.Bytes.{all_bytes, bytes64}
use Rattle.record_bytes.proofs.Writing.{write_more}
use Rattle.record_bytes.proofs.write_words.Goals as goal

pub loop-k-init : goal.loop-k-init
unfolding all_bytes
loop-k-init c = refl

pub loop-k-preserved : goal.loop-k-preserved
loop-k-preserved c = c.write64.ensures ∙ ap (λ o. sets o (c.args.a + 8 * c.loop-k.k) (bytes64 (get_or c.args.x.now c.loop-k.k 0))) c.loop-k.invariant ∙ write_more c.args.out.now c.args.a c.args.x.now c.loop-k.k c.loop-k-test.true
