-- A divisor's u divides f - v² just where nothing is left; the neutral divisor is held and valid; what the theorems suppose of a curve.
use Prim.Native.Nat.{ℕ, zero, suc, ◌+◌, ◌-◌}
use mathlib.Core.Path.{◌≡◌, refl, sym, ap, ap₂, ◌∙◌, subst}
use mathlib.Core.List.{List, [], ◌∷◌}
use mathlib.Core.Bool.{Bool, true, false}
use native.Mathlib.Omega.{arith}
use lib.ListN.{length, take, replicate}
use lib.Seq.{length-take-le}
use Rattle.algebra.proofs.Ring.CRing.{add_zer}
use Rattle.algebra.proofs.Poly.Poly.{poly}
use Rattle.algebra.proofs.List.Ops.{quotient}
use Rattle.algebra.proofs.List.Value.{pol, mon, pol_zeros}
use Rattle.algebra.proofs.List.Division.{divided, no_rest}
use Rattle.rules.specs.Pair.{Valid}
use Rattle.rules.proofs.Cantor.Accepted.{Accepted, accepted_mod_p}
use Rattle.rules.proofs.Cantor.Pairs.{neutral_valid}
use Rattle.field.specs.declared.Modulus.{Modulus}
use Rattle.field.specs.declared.Residue.{Residue}
use Rattle.field.specs.Residues.{el}
use Rattle.field.specs.Primes.{Decides}
use Rattle.divisor.specs.declared.Divisor.{Divisor}
use Rattle.divisor.specs.declared.Divisor.TheVariants.{Neutral}
use Rattle.divisor.specs.Divisors.{us, elements, pair}
use Rattle.divisor.proofs.Laws.{neutral_held, neutral_is, length_elements}
use Rattle.curve.specs.declared.Curve.{Curve}
use Rattle.curve.specs.Curves.{lows, curve_of, equation_of, Holds, Divided}
use Rattle.curve.specs.declared.Equation.{Equation}
use Rattle.curve.specs.Equations.{equation}
use Rattle.curve.specs.division.Turns.{K, AllZero}
use Rattle.curve.specs.Rests.{Rests}

pub neutral-holds : (c : Curve) → Holds c Neutral
neutral-holds c = record { held = neutral_held c.prime.m; valid = subst (Valid (curve_of c)) (sym (neutral_is c.prime.m)) (neutral_valid (curve_of c)) }

pub low-long : (e : Equation) → length (equation e.prime.m e.g e.f0 e.f1 e.f2 e.f3 e.f4 e.f5 e.f6).low ≡ suc (e.g + e.g)
low-long e = omega (arith, length_elements e.prime.m (take (e.g + e.g - 4) (e.f5 ∷ e.f6 ∷ [])), length-take-le (e.g + e.g - 4) (e.f5 ∷ e.f6 ∷ []) (omega (arith, e.genus.most)), e.genus.least, e.genus.most)

pub accepted : (c : Curve) → Accepted (curve_of c)
accepted c = accepted_mod_p c.prime.m.p c.g (elements c.prime.m (lows c)) c.prime.prime (omega (arith, c.prime.m.odd.from)) (low-long (equation_of c)) c.square_free

-- ---- nothing is left
module _ (m : Modulus) where
  zeros : (l : List Residue) → AllZero m l → elements m l ≡ replicate (length l) (K m).zer
  zeros [] h = refl
  zeros (r ∷ l) h = ap₂ ◌∷◌ h.0 (zeros l h.1)

  all_zero : (l : List Residue) (n : ℕ) → elements m l ≡ replicate n (K m).zer → AllZero m l
  all_zero [] n e = tt
  all_zero (r ∷ l) zero e = absurd (omega (arith, ap length e))
  all_zero (r ∷ l) (suc n) e = (cc, all_zero l n (cc))

module _ (c : Curve) (d : Divisor) (r : List Residue) (h : Rests c d r) where
  open poly (K c.prime.m) use {add as ◌+P◌, mul as ◌*P◌}

  infixl 65 ◌+P◌
  infixl 70 ◌*P◌
  abbrev q : (poly (K c.prime.m)).El
  q = pol (K c.prime.m) (quotient (K c.prime.m) (elements c.prime.m (us d)) h.list)

  divides_if : AllZero c.prime.m r → Divided c d
  unfolding pair
  divides_if z = record {
    factor = q;
    is = sym h.is ∙ divided (K c.prime.m) (elements c.prime.m (us d)) h.list
        ∙ ap (λ t. q *P mon (K c.prime.m) (elements c.prime.m (us d)) +P t) (ap (pol (K c.prime.m)) (sym h.leaves.is ∙ zeros c.prime.m r z) ∙ pol_zeros (K c.prime.m) (length r))
        ∙ add_zer (poly (K c.prime.m)) (q *P mon (K c.prime.m) (elements c.prime.m (us d)));
  }

  none_if : Divided c d → AllZero c.prime.m r
  unfolding pair
  none_if x = all_zero c.prime.m r (length (elements c.prime.m (us d))) (h.leaves.is ∙ no_rest (K c.prime.m) (elements c.prime.m (us d)) h.list x.factor (h.is ∙ x.is))

  pub contains_by : (b : Bool) → Decides b (AllZero c.prime.m r) → Decides b (Divided c d)
  contains_by true z = divides_if z
  contains_by false z = λ x. z (none_if x)

  -- of one coefficient
  pub contains_one : (a : Residue) → r ≡ a ∷ [] → (b : Bool) → Decides b (el c.prime.m a ≡ (K c.prime.m).zer) → Decides b (Divided c d)
  contains_one a e true z = contains_by true (subst (AllZero c.prime.m) (sym e) (z, tt))
  contains_one a e false z = contains_by false (λ x. z (subst (AllZero c.prime.m) e x).0)
