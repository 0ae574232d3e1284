-- From what was read and what was made to what the rule comes to, for multiply, whichever the engine: a scalar too long, a neutral divisor, a neutral multiple, and
-- the multiple with its two counts, made.
use Prim.Native.Nat.{ℕ, ◌≤◌}
use native.Mathlib.Omega.{arith}
use mathlib.Core.Bool.{Bool, true, false}
use mathlib.Core.Path.{◌≡◌, sym, ap, ◌∙◌, subst}
use mathlib.Core.List.{List}
use borrow.Author.Tests.{le-leb, lt-ltb}
use lib.ListN.{length}
use lib.Dec.{ltb, leb}
use Rattle.std.specs.Prelude.{Ok, Err}
use Rattle.refusals.specs.declared.Refused.{Refused}
use Rattle.rules.specs.Bytes.{number}
use Rattle.rules.specs.Tests.{is_weight}
use Rattle.rules.specs.Checks.{refused, taken, choose}
use Rattle.rules.specs.Records.{CurveRecord, PairOf, divisor_bytes}
use Rattle.rules.proofs.Calls.Refusals.{on_taken}
use Rattle.rules.proofs.Calls.Taken.{keyed}
use Rattle.field.specs.declared.Modulus.{Modulus}
use Rattle.divisor.specs.declared.Divisor.{Divisor}
use Rattle.divisor.specs.Divisors.{weight_of, pair}
use Rattle.divisor.proofs.Laws.{weight_is}
use Rattle.curve.specs.declared.Curve.{Curve}
use Rattle.curve.specs.Record.{record_of}
use Rattle.multiple_affine.specs.declared.promise.Multiple.{Multiple}
use Rattle.multiple_affine.specs.promise.Contracts.{Multiplied as IsMultiple}
use Rattle.call_answer.specs.Answers.{Firsts}
use Rattle.call_multiply.specs.factors.Multiples.{KeyIs, multiplying, MultipleMade, Factors, multiple_result, key_result}

-- ---- a divisor's weight
module _ (m : Modulus) (d : Divisor) where
  pub weightless : weight_of d ≡ 0 → is_weight (pair m d) ≡ false
  weightless e = ap (ltb 0) (weight_is m d ∙ e)

  pub weighty : (weight_of d ≡ 0 → ⊥) → is_weight (pair m d) ≡ true
  weighty e = ap (ltb 0) (weight_is m d) ∙ lt-ltb 0 (weight_of d) (omega (arith, e))

-- ---- before the engine: curve, divisor and scalar
module _ (s a scalar : List ℕ) (c : Curve) (x : Divisor) (h : Firsts s a c x) where
  abbrev R : CurveRecord
  R = record_of c

  abbrev d : PairOf R
  d = pair c.prime.m x

  -- the first two checks as they came out
  passed : (b w : Bool) → leb (length scalar) 32 ≡ b → is_weight d ≡ w → multiplying s a scalar ≡ choose b (choose w (keyed R (number scalar) d) (refused 19 0)) (refused 12 0)
  passed b w e q = on_taken _ _ h.curve ∙ on_taken _ _ h.divisor ∙ (λ i. choose (e i) (choose (q i) (keyed R (number scalar) d) (refused 19 0)) (refused 12 0))

  pub factors_taken : {w : ℕ} → w ≡ weight_of x → length scalar ≤ 32 → (w ≡ 0 → ⊥) → Factors s a scalar c x
  factors_taken e l n = record {
    ready = record { holds = h.holds; short = l };
    goes = passed true true (le-leb (length scalar) 32 l) (weighty c.prime.m x (λ z. n (e ∙ z)));
  }

  pub factors_empty : {w : ℕ} → w ≡ weight_of x → length scalar ≤ 32 → w ≡ 0 → multiplying s a scalar ≡ refused 19 0
  factors_empty e l z = passed true false (le-leb (length scalar) 32 l) (weightless c.prime.m x (sym e ∙ z))

-- ---- after it: the multiple, or 19
module _ (y : Multiple) (m : Modulus) {v : ℕ} (e : v ≡ weight_of y.divisor) where
  tested : (w : Bool) → is_weight (pair m y.divisor) ≡ w → key_result y m ≡ choose w (taken (multiple_result y m)) (refused 19 0)
  tested w q = ap (λ (t : Bool). choose t (taken (multiple_result y m)) (refused 19 0)) q

  pub key_empty : v ≡ 0 → key_result y m ≡ refused 19 0
  key_empty z = tested false (weightless m y.divisor (sym e ∙ z))

  pub key_made : (v ≡ 0 → ⊥) → key_result y m ≡ taken (multiple_result y m)
  key_made n = tested true (weighty m y.divisor (λ z. n (e ∙ z)))

-- ---- the whole: whatever engine makes the multiple, it is the rule's
module _ (s a scalar : List ℕ) (c : Curve) (d : Divisor) (h : Factors s a scalar c d) (y : Multiple) (g : IsMultiple c d (number scalar) y) where
  multiply_is : key_result y c.prime.m ≡ multiplying s a scalar
  multiply_is = sym (h.goes ∙ sym (λ i. choose (is_weight (g.gives.is i))
      (taken (record { bytes = divisor_bytes c.prime.m.p (g.gives.is i); own = (g.doublings_is i, g.additions_is i) })) (refused 19 0)))

  pub multiply_taken : (k : Multiple) → KeyIs c.prime.m (Ok k) (key_result y c.prime.m) → MultipleMade (Ok (c, k)) (multiplying s a scalar)
  multiply_taken k w = subst (MultipleMade (Ok (c, k))) multiply_is w

  pub multiply_stopped : (r : Refused) → KeyIs c.prime.m (Err r) (key_result y c.prime.m) → MultipleMade (Err r) (multiplying s a scalar)
  multiply_stopped r w = subst (MultipleMade (Err r)) multiply_is w
