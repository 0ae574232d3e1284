use mathlib.Core.Path.{ap, ◌∙◌}
use native.Mathlib.Omega.{arith}
use Prim.Native.Nat.{ℕ, ◌+◌, ◌/◌}
use Rattle.rules.specs.Bytes.{words}
use Rattle.call_batch.specs.repeat.Chains.{mix, mixes}
use Rattle.call_batch.proofs.repeat.Hashes.{mixing_turn, mixing_end}
use Rattle.call_batch.proofs.repeat.chain.Goals as goal

pub loop-k-preserved : goal.loop-k-preserved
loop-k-preserved c = mixing_turn c.args.s.now (c.args.a + 1) _ _ _ _ (omega arith) c.loop-k.invariant (c.mixed-h.ensures ∙ ap (mix c.loop-k.h) c.read64.ensures)

pub returns : goal.returns
returns c = ap (λ (n : ℕ). n / 1048576) (mixing_end c.args.s.now (c.args.a + 1) _ _ _ (omega arith) c.loop-k.invariant ∙ ap (λ (n : ℕ). mixes 0 (words c.args.s.now (c.args.a + 1) n)) c.wide-w.ensures.0)
