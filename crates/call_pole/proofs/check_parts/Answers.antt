use native.Mathlib.Omega.{arith}
use mathlib.Core.Path.{subst}
use mathlib.Core.List.{List}
use Prim.Native.Nat.{ℕ}
use Rattle.rules.proofs.Calls.Bytes.{part-from}
use Rattle.call_batch.specs.Counts.{BatchIs}
use Rattle.call_pole.proofs.Parts.{few_bytes, high_count, all_parts}
use Rattle.call_pole.proofs.check_parts.Goals as goal

pub returns-then-rest-lt2 : goal.returns-then-rest-lt2
returns-then-rest-lt2 c = few_bytes c.args.curve.now c.args.rest.now c.without_count.result (omega arith) c.without_count.ensures

pub returns-then-n-gt-MOST_COUNT : goal.returns-then-n-gt-MOST_COUNT
returns-then-n-gt-MOST_COUNT c = high_count c.args.curve.now c.args.rest.now c.without_count-then-n-gt-MOST_COUNT.result c.read16-n.ensures (omega arith) (omega arith) c.without_count-then-n-gt-MOST_COUNT.ensures

pub returns : goal.returns
returns c = all_parts c.args.curve.now c.args.rest.now c.in_file.result c.read16-n.ensures (omega arith) (omega arith)
    (c.in_file.ensures _ (subst (λ (l : List ℕ). BatchIs c.args.curve.now l c.check_batch.result) (part-from c.args.rest.now 2) c.check_batch.ensures))
