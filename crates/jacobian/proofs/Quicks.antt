-- Sums by formula. Gives: where a formula of `sum_genus2` or `sum_genus3` finds a divisor, that is the rule's sum on the curve in code (`tried_two`, `tried_three` and
-- the like of a divisor with itself); where it finds none, what it says of its conditions is handed on. The neutral divisor adds nothing (`neutral_first`).
use Rattle.std.specs.Prelude.{Option, Some, None}
use Prim.Native.Nat.{ℕ, ◌+◌, ◌-◌}
use mathlib.Core.Path.{◌≡◌, sym, ap, ◌∙◌, subst}
use mathlib.Core.List.{List}
use native.Mathlib.Omega.{arith}
use Rattle.algebra.proofs.Zmod.Zmod.{zmod}
use Rattle.algebra.proofs.Zmod.PrimeField.{modulo}
use Rattle.rules.specs.Curve.{Curve as RuleCurve}
use Rattle.rules.specs.Pair.{Pair, Valid, opposite}
use Rattle.rules.specs.Sum.{sum}
use Rattle.rules.proofs.Cantor.Accepted.{Accepted}
use Rattle.rules.proofs.Cantor.Sum.{sum_valid}
use Rattle.rules.proofs.Cantor.Group.{neutral_sum}
use Rattle.rules.proofs.Cantor.Pairs.{opposite_valid}
use Rattle.field.specs.declared.Modulus.{Modulus}
use Rattle.field.specs.Residues.{el}
use Rattle.divisor.specs.declared.Divisor.{Divisor}
use Rattle.divisor.specs.declared.Divisor.TheVariants.{Neutral, Two, Three}
use Rattle.divisor.specs.declared.Quadratic.{Quadratic}
use Rattle.divisor.specs.declared.Cubic.{Cubic}
use Rattle.divisor.specs.Divisors.{elements, pair, Held, Opposed}
use Rattle.divisor.proofs.Laws.{neutral_is}
use Rattle.sum_genus2.specs.Sums.{Sum2, Double2}
use Rattle.sum_genus3.specs.Sums.{Sum3, Double3}
use Rattle.curve.specs.declared.Curve.{Curve}
use Rattle.curve.specs.Curves.{lows, curve_of, Holds, Gives}
use Rattle.curve.proofs.Above.{up_to, of_genus}
use Rattle.curve.proofs.Contains.{accepted}
use Rattle.jacobian.specs.Tries.{UnfitSum, UnfitDouble, Tried}

module _ (c : Curve) where
  abbrev m : Modulus
  m = c.prime.m

  abbrev A : Type 0
  A = (zmod c.prime.m.p).El

  gives : (a b d : Divisor) → Holds c a → Holds c b → Held m d → sum (curve_of c) (pair m a) (pair m b) ≡ pair m d → Gives c d (sum (curve_of c) (pair m a) (pair m b))
  gives a b d ha hb hd e = record {
    holds = record { held = hd; valid = subst (Valid (curve_of c)) e (sum_valid (curve_of c) (accepted c) (pair m a) (pair m b) ha.valid hb.valid) };
    is = sym e;
  }

  -- the neutral divisor and b are b
  pub neutral_first : (a b : Divisor) → Holds c b → a ≡ Neutral → Gives c b (sum (curve_of c) (pair m a) (pair m b))
  neutral_first a b hb e = record {
    holds = hb;
    is = sym (ap (λ (d : Divisor). sum (curve_of c) (pair m d) (pair m b)) e ∙ ap (λ (t : Pair (modulo c.prime.m.p)). sum (curve_of c) t (pair m b)) (neutral_is m) ∙ neutral_sum (curve_of c) (accepted c) (pair m b) hb.valid);
  }

  -- on the curve of genus n with the coefficients l, and on this one
  abbrev at : ℕ → List A → RuleCurve
  at n l = record { K = modulo c.prime.m.p; g = n; low = l }

  module _ (a b d : Divisor) where
    abbrev Says : ℕ → List A → Type 0
    Says n l = Accepted (at n l) → Valid (at n l) (pair m a) → Valid (at n l) (pair m b) → sum (at n l) (pair m a) (pair m b) ≡ pair m d

    moved : (n : ℕ) → c.g ≡ n → Says n (up_to c (n + n - 4)) → Says c.g (elements c.prime.m (lows c))
    moved n e x = of_genus c Says n e x

  pub tried_two : c.g ≡ 2 → (a b : Quadratic) → Holds c (Two a) → Holds c (Two b) → (r : Option Divisor) → Sum2 m c.f4 a b r → Tried c (UnfitSum c (Two a) (Two b)) (sum (curve_of c) (pair m (Two a)) (pair m (Two b))) r
  tried_two e a b ha hb (Some d) x = gives (Two a) (Two b) d ha hb x.held
      (moved (Two a) (Two b) d 2 e (x.is (el m c.f0) (el m c.f1) (el m c.f2) (el m c.f3)) (accepted c) ha.valid hb.valid)
  tried_two e a b ha hb None x = λ g. x

  pub twice_two : c.g ≡ 2 → (a : Quadratic) → Holds c (Two a) → (r : Option Divisor) → Double2 m c.f2 c.f3 c.f4 a r → Tried c (UnfitDouble c (Two a)) (sum (curve_of c) (pair m (Two a)) (pair m (Two a))) r
  twice_two e a ha (Some d) x = gives (Two a) (Two a) d ha ha x.held
      (moved (Two a) (Two a) d 2 e (λ ok va vb. x.is (el m c.f0) (el m c.f1) ok va) (accepted c) ha.valid ha.valid)
  twice_two e a ha None x = λ g. x

  -- weight 3 is that of genus 3
  three : (a : Cubic) → Holds c (Three a) → c.g ≡ 3
  unfolding pair
  three a ha = omega (arith, ha.valid.small, c.genus.most)

  pub tried_three : (a b : Cubic) → Holds c (Three a) → Holds c (Three b) → (r : Option Divisor) → Sum3 m c.f4 c.f5 c.f6 a b r
      → Tried c (UnfitSum c (Three a) (Three b)) (sum (curve_of c) (pair m (Three a)) (pair m (Three b))) r
  tried_three a b ha hb (Some d) x = gives (Three a) (Three b) d ha hb x.held
      (moved (Three a) (Three b) d 3 (three a ha) (x.is (el m c.f0) (el m c.f1) (el m c.f2) (el m c.f3)) (accepted c) ha.valid hb.valid)
  tried_three a b ha hb None x = x

  pub twice_three : (a : Cubic) → Holds c (Three a) → (r : Option Divisor) → Double3 m c.f3 c.f4 c.f5 c.f6 a r → Tried c (UnfitDouble c (Three a)) (sum (curve_of c) (pair m (Three a)) (pair m (Three a))) r
  twice_three a ha (Some d) x = gives (Three a) (Three a) d ha ha x.held
      (moved (Three a) (Three a) d 3 (three a ha) (λ ok va vb. x.is (el m c.f0) (el m c.f1) (el m c.f2) ok va) (accepted c) ha.valid ha.valid)
  twice_three a ha None x = x

-- ---- the opposite
pub opposite-gives : (c : Curve) (a r : Divisor) → Holds c a → Opposed c.prime.m a r → Gives c r (opposite (pair c.prime.m a))
opposite-gives c a r ha k = record {
  holds = record { held = k.held; valid = subst (Valid (curve_of c)) (sym k.is) (opposite_valid (curve_of c) (pair c.prime.m a) ha.valid) };
  is = k.is;
}
