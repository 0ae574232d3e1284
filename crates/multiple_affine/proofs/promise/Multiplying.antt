-- The multiple by the digits passed so far: what the loop over a scalar's digits keeps, from the highest digit to the lowest. Gives also the answer for 0 and the answer at
-- the end with their counts, for either engine (`by_none`, `by_some`).
use Prim.Native.Nat.{ℕ, ◌-◌, ◌≤◌, ◌<◌}
use mathlib.Core.Path.{◌≡◌, sym, ap, ◌∙◌, subst}
use mathlib.Core.List.{List}
use native.Mathlib.Omega.{arith}
use lib.ListN.{length, get_or}
use lib.IntN.{ℤ, pos}
use Rattle.rules.specs.Multiple.{multiple}
use Rattle.rules.proofs.Cantor.Signed.{wholes}
use Rattle.divisor.specs.declared.Divisor.{Divisor}
use Rattle.divisor.specs.declared.Divisor.TheVariants.{Neutral}
use Rattle.divisor.specs.Divisors.{pair}
use Rattle.curve.specs.declared.Curve.{Curve}
use Rattle.curve.specs.Curves.{curve_of, Holds, Gives}
use Rattle.scalar.specs.declared.Digits.{Digits}
use Rattle.scalar.specs.Recoded.{upper, Recoded}
use Rattle.multiple_affine.specs.promise.Contracts.{Stepped, Multiplied}
use Rattle.multiple_affine.proofs.promise.Counted.{doublings_are, additions_are, none, no_nonzeros}
use Rattle.scalar.proofs.Upper.{upper-more, upper_all, upper_first}
use Rattle.multiple_affine.proofs.promise.Folds.{zero_fold, itself}

pub record Multiplying (c : Curve) (a : Divisor) (d : List ℕ) (l : ℕ) (r : Divisor) (k : ℕ) : Type 0 where
  pub place : k < l
  pub gives : Gives c r (wholes (curve_of c) (upper d k) (pair c.prime.m a))

module _ (c : Curve) (a : Divisor) where
  -- the same answer, for an equal number
  same : (r : Divisor) {x y : ℤ} → x ≡ y → Gives c r (wholes (curve_of c) x (pair c.prime.m a)) → Gives c r (wholes (curve_of c) y (pair c.prime.m a))
  same r e g = subst (λ (k : ℤ). Gives c r (wholes (curve_of c) k (pair c.prime.m a))) e g

  module _ (n : ℕ) (x : Digits) (h : Recoded n x) where
    pub begin : Holds c a → 0 < x.length → Multiplying c a x.at x.length a (x.length - 1)
    begin holds some = record { place = omega arith; gives = same a (sym (upper_first n x h some)) (itself c a holds) }

    pub end : (r : Divisor) (k : ℕ) → Multiplying c a x.at x.length r k → k ≤ 0 → Gives c r (multiple (curve_of c) n (pair c.prime.m a))
    end r k v z = same r (ap (upper x.at) {x = k} {y = 0} (omega arith) ∙ upper_all n x h) v.gives

    nothing : Holds c a → x.length ≡ 0 → Gives c Neutral (multiple (curve_of c) n (pair c.prime.m a))
    nothing holds e = same Neutral (ap pos (sym (none n x.length h.length_is e))) (zero_fold c a holds)

    pub by_none : Holds c a → x.length ≡ 0 → {r : Divisor} → r ≡ Neutral → Multiplied c a n (record { divisor = r; doublings = 0; additions = 0 })
    by_none holds e i = record {
      gives = rw i (nothing holds e);
      doublings_is = omega (arith, doublings_are n x.length h.length_is);
      additions_is = omega (arith, additions_are n x.nonzeros h.nonzeros_is, no_nonzeros n x.length x.nonzeros h.length_is e h.nonzeros_is);
    }

    pub by_some : {r : Divisor} → Gives c r (multiple (curve_of c) n (pair c.prime.m a)) → Multiplied c a n (record { divisor = r; doublings = x.length - 1; additions = x.nonzeros - 1 })
    by_some g = record { gives = g; doublings_is = sym (doublings_are n x.length h.length_is); additions_is = sym (additions_are n x.nonzeros h.nonzeros_is) }

  pub turn : (d : List ℕ) (l : ℕ) (r t : Divisor) (k : ℕ) → Multiplying c a d l r k → 0 < k → k ≤ length d → Stepped c a r (get_or d (k - 1) 0) t → Multiplying c a d l t (k - 1)
  turn d l r t k v more room s = record {
    place = omega (arith, v.place);
    gives = same t (upper-more d k more room) (s (upper d k) v.gives.is);
  }
