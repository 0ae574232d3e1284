use native.Mathlib.Omega.{arith}
use Prim.Native.Nat.{ℕ, ◌-◌}
use mathlib.Core.Path.{ap, sym, subst}
use borrow.Author.Tests.{not-true, not-false}
use Rattle.field.specs.Primes.{Decides}
use Rattle.field.proofs.Laws.{settled_kept}
use Rattle.field.proofs.Decide.{decided_yes, decided_no}
use Rattle.field_witness.specs.Witness.{MadeOf, Witnessed}
use Rattle.field_witness.proofs.Listed.{all-some}
use Rattle.field_witness.proofs.Accepted.{not_made, not_one, decided, one_yes, one_no}
use Rattle.std.proofs.Common.{not}
use Rattle.field_witness.proofs.accepts.Goals as goal

pub returns-then-not-is_made_of : goal.returns-then-not-is_made_of
returns-then-not-is_made_of c = not_made c.args.p c.args.a c.args.q.now (decided_no {A = MadeOf _ _} {b = c.is_made_of.result} (not-true c.is_made_of.result (ap not c.if-not-is_made_of.true)) c.is_made_of.ensures)

pub returns-then-not-is_one : goal.returns-then-not-is_one
returns-then-not-is_one c = let h = c.in-Some.ensures in subst (λ (p : ℕ). Witnessed p c.args.a c.args.q.now → ⊥) c.of-m.ensures.is
    (not_one c.of-m.result c.args.a (c.args.p - 1) c.args.q.now _ h.0 h.1.is (ap (λ (p : ℕ). p - 1) (sym c.of-m.ensures.is))
    (one_no c.of-m.result _ _ c.power.result c.power.ensures (decided_no {b = c.is_one.result} (not-true c.is_one.result (ap not c.if-not-is_one.true)) c.is_one.ensures)))

pub is_none_below-requires : goal.is_none_below-requires
is_none_below-requires c = (settled_kept c.of-m.result c.in-Some.ensures.1.settled, all-some 0 (c.args.p - 1) c.args.q.now (decided_yes {A = MadeOf _ _} {b = c.is_made_of.result} (not-false c.is_made_of.result (ap not c.if-not-is_made_of.false)) c.is_made_of.ensures).is)

pub returns-else-not-is_one : goal.returns-else-not-is_one
returns-else-not-is_one c =
    let h = c.in-Some.ensures in subst (λ (p : ℕ). Decides c.is_none_below.result (Witnessed p c.args.a c.args.q.now)) c.of-m.ensures.is
    (decided c.of-m.result c.args.a (c.args.p - 1) c.args.q.now _ h.0 h.1.is (ap (λ (p : ℕ). p - 1) (sym c.of-m.ensures.is)) (omega (arith, c.requires.from))
    (decided_yes {A = MadeOf _ _} {b = c.is_made_of.result} (not-false c.is_made_of.result (ap not c.if-not-is_made_of.false)) c.is_made_of.ensures)
    (one_yes c.of-m.result _ _ c.power.result c.power.ensures (decided_yes {b = c.is_one.result} (not-false c.is_one.result (ap not c.if-not-is_one.false)) c.is_one.ensures))
    c.is_none_below.result c.is_none_below.ensures.is)
