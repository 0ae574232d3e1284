use Prim.Native.Nat.{◌+◌}
use mathlib.Core.Path.{◌∙◌, ap}
use lib.ListN.{set, get_or}
use Rattle.record_bytes.proofs.Writing.{put-more}
use Rattle.record_bytes.proofs.write_bytes.Goals as goal

pub loop-k-preserved : goal.loop-k-preserved
loop-k-preserved c = ap (λ l. set l (c.args.a + c.loop-k.k) (get_or c.args.s.now c.loop-k.k 0)) c.loop-k.invariant ∙ put-more c.args.out.now c.args.s.now c.args.a c.loop-k.k c.loop-k-test.true
