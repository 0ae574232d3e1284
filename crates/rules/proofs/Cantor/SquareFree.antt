-- Square-free, by Euclid on f and its derivative. Gives: the test `is_square_free` decides `SquareFree` (`square_free_decides`); and L1: on an
-- accepted curve every pair is smooth (`smooth_at`), by the combination of f and f' that Euclid finds.
use mathlib.Core.Path.{◌≡◌, refl, sym, ap, ◌∙◌}
use mathlib.Core.List.{List, [], ◌∷◌}
use mathlib.Core.Bool.{true, false, false≢true}
use mathlib.Core.Logic.{◌↔◌}
use native.Mathlib.Omega.{arith}
use lib.ListN.{length}
use Rattle.algebra.proofs.Ring.Quote.{ring, quote, by}
use Rattle.algebra.proofs.Ring.Field.{Field}
use Rattle.algebra.proofs.Poly.Poly.{coef}
use Rattle.algebra.proofs.Poly.Term.{C, constants}
use Rattle.algebra.proofs.Poly.Derivative.{der_p, derP_add, derP_mul}
use Rattle.algebra.proofs.Poly.Degree.{degree_one, deg_bound, factor_below}
use Rattle.algebra.proofs.List.Ops.{der_l, Bezout, gcd}
use Rattle.algebra.proofs.List.Value.{pol, mon, pol_whole, mon_nil}
use Rattle.algebra.proofs.List.Derivative.{pol_der}
use Rattle.algebra.proofs.List.Euclid.{mon_degree, Gcd, gcd_is}
use Rattle.algebra.proofs.Ideal.Smooth.{Smooth, smooth}
use Rattle.rules.specs.Curve.{Curve, Kx, f, SquareFree}
use Rattle.rules.specs.Sum.{f_list}
use Rattle.rules.specs.Tests.{is_square_free}
use Rattle.rules.proofs.Cantor.Accepted.{OverField, Accepted, field_of}

module _ (E : Curve) (o : OverField E) where
  abbrev K : Field
  K = field_of E o

  open E.K use {base as F}
  open Kx E use {El as P, add as ◌+◌, mul as ◌*◌, neg, one as 1P}

  infixl 65 ◌+◌
  infixl 70 ◌*◌
  -- what Euclid finds
  abbrev found : Bezout E.K
  found = gcd E.K E.low (der_l F (f_list E))

  f' : P
  f' = der_p F (f E)

  f'_is : pol F (der_l F (f_list E)) ≡ f'
  unfolding f'
  f'_is = pol_der F (f_list E) ∙ ap (der_p F) (pol_whole F E.low)

  found_is : Gcd K (f E) f' (mon F found.d) (pol F found.s) (pol F found.t)
  found_is = rw f'_is at (gcd_is K E.low (der_l F (f_list E)))

  -- ---- the test
  empty : (l : List F.El) → length l ≡ 0 → l ≡ []
  empty [] e = refl
  empty (x ∷ l) e = absurd (omega arith)

  constant : SquareFree E → found.d ≡ []
  unfolding f'
  constant h = empty found.d (omega (
    arith,
    deg_bound K 1 (length found.d) (coef F (mon F found.d)) (mon_degree K found.d)
        (h (mon F found.d) found_is.left found_is.right),
  ))

  bezout : found.d ≡ [] → pol F found.s * f E + pol F found.t * f' ≡ 1P
  bezout e = sym found_is.bezout ∙ ap (mon F) e ∙ mon_nil F

  free : found.d ≡ [] → SquareFree E
  unfolding f'
  free e d h h' = factor_below K 0 1P d (pol F found.s * h.factor + pol F found.t * h'.factor) (degree_one K)
      (by (Kx E) (neg 1P) (bezout e) (by (Kx E) (pol F found.s) h.is (by (Kx E) (pol F found.t) h'.is
      (ring (Kx E) (d ∷ f E ∷ f' ∷ pol F found.s ∷ pol F found.t ∷ h.factor ∷ h'.factor ∷ []) (search quote depth 40) refl))))

  pub square_free_decides : (is_square_free E ≡ true) ↔ SquareFree E
  unfolding is_square_free
  square_free_decides = (λ e. free (to found.d e), λ h. from found.d (constant h))
    where
      to : (l : List F.El) → elim l [ [] ↦ true | a ∷ m ↦ false ] ≡ true → l ≡ []
      to [] e = refl
      to (a ∷ m) e = absurd (false≢true e)

      from : (l : List F.El) → l ≡ [] → elim l [ [] ↦ true | a ∷ m ↦ false ] ≡ true
      from l e = ap (λ (x : List F.El). elim x [ [] ↦ true | a ∷ m ↦ false ]) e

-- ---- L1
module _ (E : Curve) (h : Accepted E) where
  open Kx E use {El as P, add as ◌+◌, mul as ◌*◌, one as 1P}

  infixl 65 ◌+◌
  infixl 70 ◌*◌
  abbrev two : E.K.base.El
  two = E.K.base.add E.K.base.one E.K.base.one

  half : P
  half = C E.K.base (E.K.inv two)

  half_is : half + half ≡ 1P
  unfolding half
  half_is = sym ((constants E.K.base).h_add (E.K.inv two) (E.K.inv two))
      ∙ ap (C E.K.base) (by E.K.base E.K.base.one (h.over.mul_inv two h.two_ne) (ring E.K.base (E.K.inv two ∷ []) (search quote depth 40) refl))
      ∙ (constants E.K.base).h_one

  pub smooth_at : (u v w : P) → f E ≡ v * v + u * w → Smooth (Kx E) u v w
  unfolding f'
  smooth_at = smooth (Kx E) (der_p E.K.base) (derP_add E.K.base) (derP_mul E.K.base) (f E) (pol E.K.base (found E h.over).s)
      (pol E.K.base (found E h.over).t)
      half half_is (bezout E h.over (constant E h.over h.square_free))
