use mathlib.Core.Path.{ap, ◌∙◌}
use native.Mathlib.Omega.{arith}
use borrow.Author.Tests.{not-true, not-false}
use Rattle.field.specs.Constants.{Odd}
use Rattle.field.proofs.Decide.{decided_yes, decided_no}
use Rattle.field_witness.specs.Witness.{Witnessed}
use Rattle.record_curve_head.proofs.Head.{count_at}
use Rattle.record_curve_prime.proofs.Prime.{base_at, primes_at, not_odd, no_base, no_witness, witness_taken, witnessed}
use Rattle.std.proofs.Common.{not}
use Rattle.record_curve_prime.proofs.by_witness.Goals as goal

pub returns-then-not-is_odd_number : goal.returns-then-not-is_odd_number
returns-then-not-is_odd_number c = not_odd c.args.s.now c.requires.0 c.requires.1 _ c.read64-p.ensures (decided_no {A = Odd _} {b = c.is_odd_number.result} (not-true _ (ap not c.if-not-is_odd_number.true)) c.is_odd_number.ensures)

pub returns-then-a-lt1 : goal.returns-then-a-lt1
returns-then-a-lt1 c = no_base c.args.s.now c.requires.0 c.requires.1 _ c.read64-p.ensures (decided_yes {A = Odd _} {b = c.is_odd_number.result} (not-false _ (ap not c.if-not-is_odd_number.false)) c.is_odd_number.ensures) _ (c.read64-a.ensures ∙ base_at c.args.s.now _ c.wide-g.ensures.0) c.if-a-lt1.true

pub returns-then-not-accepts : goal.returns-then-not-accepts
returns-then-not-accepts c =
    let e = c.wide-k.ensures.0 ∙ count_at c.args.s.now c.wide-g.result c.wide-g.ensures.0 in no_witness c.args.s.now c.requires.0 c.requires.1 _ c.read64-p.ensures (decided_yes {A = Odd _} {b = c.is_odd_number.result} (not-false _ (ap not c.if-not-is_odd_number.false)) c.is_odd_number.ensures) _ (c.read64-a.ensures ∙ base_at c.args.s.now _ c.wide-g.ensures.0) _ (c.listed-q.ensures ∙ primes_at c.args.s.now _ c.wide-g.ensures.0 _ e) (decided_no {A = Witnessed _ _ _} {b = c.accepts.result} (not-true _ (ap not c.if-not-accepts.true)) c.accepts.ensures)

pub invariant_of-result : goal.invariant_of-result
invariant_of-result c = record {
  prime = witnessed _ _ _ (decided_yes {A = Odd _} {b = c.is_odd_number.result} (not-false _ (ap not c.if-not-is_odd_number.false)) c.is_odd_number.ensures) (decided_yes {A = Witnessed _ _ _} {b = c.accepts.result} (not-false _ (ap not c.if-not-accepts.false)) c.accepts.ensures) _ c.of.ensures;
}

pub returns : goal.returns
returns c =
    let e = c.wide-k.ensures.0 ∙ count_at c.args.s.now c.wide-g.result c.wide-g.ensures.0 in witness_taken c.args.s.now c.requires.0 c.requires.1 _ c.read64-p.ensures (decided_yes {A = Odd _} {b = c.is_odd_number.result} (not-false _ (ap not c.if-not-is_odd_number.false)) c.is_odd_number.ensures) _ (c.read64-a.ensures ∙ base_at c.args.s.now _ c.wide-g.ensures.0) _ (c.listed-q.ensures ∙ primes_at c.args.s.now _ c.wide-g.ensures.0 _ e) (λ z. omega (arith, c.if-a-lt1.false, z)) (decided_yes {A = Witnessed _ _ _} {b = c.accepts.result} (not-false _ (ap not c.if-not-accepts.false)) c.accepts.ensures) _ c.of.ensures
