use native.Mathlib.Omega.{arith}
use Rattle.call_batch.proofs.repeat.Hashes.{same_weight, other_word, last_word}
use Rattle.call_batch.proofs.repeat.may_be_same.Goals as goal

pub returns-then-w-s : goal.returns-then-w-s
returns-then-w-s c = λ e. c.if-w-s.true (same_weight c.args.s.now _ _ e)

pub returns-then-low64 : goal.returns-then-low64
returns-then-low64 c = other_word c.args.s.now (λ i. (c.type_inv.s i).fits) c.args.a c.args.b c.requires.0 c.requires.1 0 _ _ _ _ (omega arith) (omega arith) (omega arith) c.low64.ensures c.low64-2.ensures c.if-low64.true

pub returns-then-low64-2 : goal.returns-then-low64-2
returns-then-low64-2 c =
    other_word c.args.s.now (λ i. (c.type_inv.s i).fits) c.args.a c.args.b c.requires.0 c.requires.1 1 _ _ _ _ (omega arith) (omega arith) (omega arith) c.low64-3.ensures c.low64-4.ensures c.if-low64-2.true

pub returns : goal.returns
returns c =
    last_word c.args.s.now (λ i. (c.type_inv.s i).fits) c.args.a c.args.b c.requires.0 c.requires.1 2 _ _ _ _ (omega arith) (omega arith) (omega arith) c.low64-5.ensures c.low64-6.ensures
