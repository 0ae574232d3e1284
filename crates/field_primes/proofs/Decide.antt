-- Answers of tests. Gives: what a test's arm says; a test that isn't true is false.
use Prim.Native.Nat.{ℕ}
use mathlib.Core.Path.{◌≡◌, refl, sym, subst}
use mathlib.Core.Bool.{Bool, true, false}
use mathlib.Core.Logic.{inl, inr}
use Rattle.std.proofs.Math.Dec.{eqb}
use Rattle.std.proofs.lemmas.Bool.Decides.{eqb_tells}
use Rattle.field_primes.specs.Primes.{Decides}

pub decided_yes : {A : Type 0} {b : Bool} → b ≡ true → Decides b A → A
decided_yes {A} e h = subst (λ (b : Bool). Decides b A) e h

pub decided_no : {A : Type 0} {b : Bool} → b ≡ false → Decides b A → A → ⊥
decided_no {A} e h = subst (λ (b : Bool). Decides b A) e h

pub otherwise : (b : Bool) → (b ≡ true → ⊥) → b ≡ false
otherwise true n = absurd (n refl)
otherwise false n = refl

-- by the test of two numbers
pub decides_equal : {A : Type 0} (a b : ℕ) → (a ≡ b → A) → (A → a ≡ b) → Decides (eqb a b) A
decides_equal {A} a b here only = elim (eqb_tells a b) [ inl h ↦ subst (λ (t : Bool). Decides t A) (sym h.0) (here h.1) | inr h ↦ subst (λ (t : Bool). Decides t A) (sym h.0) (λ x. h.1 (only x)) ]
