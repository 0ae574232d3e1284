-- Multiples in code. Gives: that the neutral divisor is the 0-fold and a the 1-fold multiple of a; that a multiple doubled,
-- and with a or its opposite added as a digit says, is the multiple with that digit more.
use Prim.Native.Nat.{ℕ}
use mathlib.Core.Path.{◌≡◌, refl, sym, ap, ◌∙◌, subst}
use lib.IntN.{ℤ, ◌+ℤ◌}
use Rattle.algebra.proofs.Zmod.PrimeField.{modulo}
use Rattle.rules.specs.Curve.{Curve as RuleCurve}
use Rattle.rules.specs.Signed.Digits.{Digit, value}
use Rattle.rules.proofs.Signed.Signed.{with_digit}
use Rattle.rules.specs.Pair.{Pair, neutral, opposite}
use Rattle.rules.specs.Sum.{sum, double}
use Rattle.rules.specs.Multiple.{multiple}
use Rattle.rules.proofs.Cantor.Group.{neutral_sum}
use Rattle.rules.proofs.Cantor.Signed.{wholes, digit_more}
use Rattle.divisor.specs.declared.Divisor.{Divisor}
use Rattle.divisor.specs.declared.Divisor.TheVariants.{Neutral}
use Rattle.divisor.specs.Divisors.{pair}
use Rattle.divisor.proofs.Laws.{neutral_is}
use Rattle.curve.specs.declared.Curve.{Curve}
use Rattle.curve.specs.Curves.{curve_of, Holds, Gives}
use Rattle.curve.proofs.Contains.{accepted, neutral-holds}
use Rattle.scalar.specs.Recoded.{digit}

module _ (c : Curve) (a : Divisor) (ha : Holds c a) where
  abbrev E : RuleCurve
  E = curve_of c

  abbrev A : Pair (modulo c.prime.m.p)
  A = pair c.prime.m a

  one_fold : multiple E 1 A ≡ A
  unfolding multiple
  one_fold = neutral_sum E (accepted c) A ha.valid

  pub zero_fold : Gives c Neutral (multiple E 0 A)
  unfolding multiple
  zero_fold = record { holds = neutral-holds c; is = neutral_is c.prime.m }

  pub itself : Gives c a (multiple E 1 A)
  itself = record { holds = ha; is = sym one_fold }

  -- ---- r doubled is t; with a digit more it is u
  module _ (r t : Divisor) (ht : Gives c t (double E (pair c.prime.m r))) (k : ℤ) (e : pair c.prime.m r ≡ wholes E k A) where
    pub with_one : (b : ℕ) (d : Digit) → digit b ≡ d → (u : Divisor) → Gives c u (with_digit (sum E) (double E) opposite neutral A d (pair c.prime.m t)) → Gives c u (wholes E (value (digit b) +ℤ (k +ℤ k)) A)
    with_one b d q u hu = subst (Gives c u) (ap (with_digit (sum E) (double E) opposite neutral A d) (ht.is ∙ ap (double E) e) ∙ digit_more E (accepted c) A ha.valid d k
        ∙ ap (λ (i : Digit). wholes E (value i +ℤ (k +ℤ k)) A) (sym q)) hu

-- ---- what is added
-- the opposite
pub taken : (c : Curve) (a b : Divisor) → Gives c b (opposite (pair c.prime.m a)) → (t u : Divisor) → Gives c u (sum (curve_of c) (pair c.prime.m t) (pair c.prime.m b)) → Gives c u (sum (curve_of c) (pair c.prime.m t) (opposite (pair c.prime.m a)))
taken c a b hb t u hu = subst (λ (x : Pair (modulo c.prime.m.p)). Gives c u (sum (curve_of c) (pair c.prime.m t) x)) hb.is hu

-- nothing
pub itself_given : (c : Curve) (t : Divisor) → Holds c t → Gives c t (pair c.prime.m t)
itself_given c t h = record { holds = h; is = refl }
