-- The multiply call's own numbers: 12 exactly where the scalar has over 32 bytes, the earlier checks passing (`long_scalar`), and W-207, no empty keys: 19 exactly where then the divisor given or the multiple is neutral (`empty_key`), so for scalar 0 (`zero_scalar`).
-- `is_weight` tells the neutral divisor from the others (`weighs_test`).
-- Open: `LongScalar`, `EmptyKey`.
use Prim.Native.Nat.{ℕ, ◌≤◌, ◌<◌}
use mathlib.Core.Path.{◌≡◌, refl, ap}
use mathlib.Core.List.{List, [], ◌∷◌}
use mathlib.Core.Bool.{Bool, true, false, true≢false, false≢true}
use mathlib.Core.Logic.{◌⊎◌, inl, inr, ◌↔◌}
use native.Mathlib.Omega.{arith}
use lib.ListN.{length}
use borrow.Author.Tests.{ltb-false}
use Rattle.rules.specs.Bytes.{number}
use Rattle.rules.specs.Curve.{Curve}
use Rattle.rules.specs.Pair.{Pair, Valid, neutral}
use Rattle.rules.specs.Multiple.{multiple}
use Rattle.rules.specs.Tests.{is_weight}
use Rattle.rules.specs.Checks.{taken}
use Rattle.rules.specs.Records.{CurveRecord, curve, PairOf, read_curve, read_divisor}
use Rattle.rules.specs.Calls.{multiply_checks, multiply_call}
use Rattle.rules.proofs.Calls.CurveRecords.{accepts}
use Rattle.rules.proofs.Calls.Accepted.{accepts_laws}
use Rattle.rules.proofs.Calls.DivisorRecords.{divisor_valid}
use Rattle.rules.proofs.Calls.Written.{answered}
use Rattle.rules.proofs.Calls.Taken.{no_counts, multiple-result}
use Rattle.rules.proofs.Calls.Given.{◌and◌, Ask, ask, Given, always}
use Rattle.rules.proofs.Calls.Decided.{le_decides}
use Rattle.rules.proofs.Calls.Reached.{TookBoth, through, both_as, both_reached, checks_answer}

-- ---- the test
module _ (E : Curve) where
  nothing : (u v : List E.K.base.El) → length v ≡ length u → length u ≤ 0 → ◌≡◌ {A = Pair E.K} (record { u = u; v = v }) neutral
  nothing [] [] e l = refl
  nothing [] (y ∷ v) e l = absurd (omega (arith, e))
  nothing (x ∷ u) v e l = absurd (omega (arith, l))

  -- of valid divisors the neutral one alone has no weight
  pub weighs_test : (a : Pair E.K) → Valid E a → (is_weight a ≡ false) ↔ (a ≡ neutral)
  weighs_test a v = (λ e. nothing a.u a.v v.fits (ltb-false 0 (length a.u) e), λ e. ap is_weight e)

-- ---- the call
-- over 32 bytes
abbrev pub LongScalar : List ℕ → List ℕ → List ℕ → Type 0
LongScalar s a scalar = TookBoth s a (λ c x. ¬ (length scalar ≤ 32))

abbrev pub EmptyKey : List ℕ → List ℕ → List ℕ → Type 0
EmptyKey s a scalar = TookBoth s a (λ c x. (length scalar ≤ 32) and ((x ≡ neutral) ⊎ (multiple (curve c) (number scalar) x ≡ neutral)))

-- the 0-fold of any divisor is neutral
pub zero_scalar : (s a scalar : List ℕ) {c : CurveRecord} → read_curve s ≡ taken c → {x : PairOf c} → read_divisor c 1 a ≡ taken x → length scalar ≤ 32 → number scalar ≡ 0 → EmptyKey s a scalar
unfolding multiple
zero_scalar s a scalar {c} ec {x} ea l z = (c, ec, (x, ea, (l, inr (ap (λ (n : ℕ). multiple (curve c) n x) z))))

-- what is asked, once the curve and the divisor are taken, by the rule's own tests
abbrev key_asks : (c : CurveRecord) → List ℕ → PairOf c → List Ask
key_asks c scalar x = ask (length scalar ≤ 32) 12 ∷ ask (is_weight x ≡ true) 19 ∷ ask (is_weight (multiple (curve c) (number scalar) x) ≡ true) 19 ∷ []

module _ (s a scalar out : List ℕ) where
  given : (n : ℕ) → 11 < n → (n ≡ 18 → ⊥) → (n ≡ 13 → ⊥) → (answered (multiply_call s a scalar out) ≡ n) ↔ TookBoth s a (λ c x. Given n (key_asks c scalar x))
  unfolding multiply_call
  given n above not-18 not-13 = through (both_reached no_counts out n above not-18 s a _) (both_as s a (λ c ec x ea.
      checks_answer no_counts out n (λ e. omega (arith, above, e)) not-13 (always 0) (multiply_checks c scalar x (multiple (curve c) (number scalar) x)) (key_asks c scalar x) (multiple-result c (number scalar) x)
      (le_decides _ _, refl, refl, λ l. ((λ e. e, λ e. e), refl, refl, λ w. ((λ e. e, λ e. e), refl, refl, λ z. tt)))))

  pub long_scalar : (answered (multiply_call s a scalar out) ≡ 12) ↔ LongScalar s a scalar
  long_scalar = given 12 (omega arith) (λ e. omega arith) (λ e. omega arith)

  -- the tests in mathematical words
  either_neutral : (b w : Bool) {P Q : Type 0} → (b ≡ false) ↔ P → (w ≡ false) ↔ Q → ((¬ (b ≡ true)) ⊎ ((b ≡ true) and ¬ (w ≡ true))) ↔ (P ⊎ Q)
  either_neutral false w h k = (λ t. inl (h.0 refl), λ t. inl false≢true)
  either_neutral true false h k = (λ t. inr (k.0 refl), λ t. inr (refl, false≢true))
  either_neutral true true h k = (
    λ t. elim t [ inl f ↦ absurd (f refl) | inr f ↦ absurd (f.1 refl) ],
    λ t. elim t [ inl p ↦ absurd (true≢false (h.1 p)) | inr q ↦ absurd (true≢false (k.1 q)) ],
  )

  pub empty_key : (answered (multiply_call s a scalar out) ≡ 19) ↔ EmptyKey s a scalar
  empty_key = through (given 19 (omega arith) (λ e. omega arith) (λ e. omega arith)) (both_as s a (λ c ec x ea.
      let v : Valid (curve c) x = divisor_valid c 1 true a 0 ea in
      let y : PairOf c = multiple (curve c) (number scalar) x in
      let e = either_neutral (is_weight x) (is_weight y) (weighs_test (curve c) x v) (weighs_test (curve c) y ((accepts_laws c (accepts s ec)).multiple_closed (number scalar) x v)) in
      (λ t. (t.0, e.0 t.1), λ t. (t.0, e.1 t.1))))
