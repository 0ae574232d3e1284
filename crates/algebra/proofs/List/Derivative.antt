-- The derivative of a list is the derivative of its polynomial.
use Prim.Native.Nat.{ℕ, zero, suc}
use mathlib.Core.Path.{◌≡◌, refl, sym, ap, ap₂, ◌∙◌}
use mathlib.Core.List.{List, [], ◌∷◌}
use native.Mathlib.Omega.{arith}
use Rattle.algebra.proofs.Ring.CRing.{CRing}
use Rattle.algebra.proofs.Ring.Quote.{ring, quote}
use Rattle.algebra.proofs.Poly.Series.{con}
use Rattle.algebra.proofs.Poly.Bound.{below_con}
use Rattle.algebra.proofs.Poly.Poly.{poly, poly_ext, coef_zer, coef_one}
use Rattle.algebra.proofs.Poly.Derivative.{der, der_p, derP_add, derP_mul, der_zero, coef_der}
use Rattle.algebra.proofs.Poly.Term.{at, term_s, C, X, constants, coef_C, coef_term}
use Rattle.algebra.proofs.List.Ops.{der_l}
use Rattle.algebra.proofs.List.Value.{pol, pol_nil, pol_cons, pol_add}

module _ (F : CRing) where
  open F use {El as A, zer as 𝟘, one as 𝟙}
  open poly F use {add as ◌+◌, mul as ◌*◌, zer as 0P, one as 1P}

  infixl 65 ◌+◌
  infixl 70 ◌*◌
  der_C : (a : A) → der_p F (C F a) ≡ 0P
  der_C a = poly_ext F (λ n. at F (coef_der F (C F a) ∙ ap (der F) (coef_C F a)) n ∙ der_zero F (con F a) n (λ i l. below_con F a i (omega arith)) ∙ sym (at F (coef_zer F) n))

  der_X : der_p F (X F) ≡ 1P
  unfolding der term_s con
  der_X = poly_ext F (λ n. at F (coef_der F (X F) ∙ ap (der F) (coef_term F 𝟙 1)) n ∙ go n ∙ sym (at F (coef_one F) n))
    where
      go : (n : ℕ) → der F (term_s F 𝟙 1) n ≡ con F 𝟙 n
      go zero = refl
      go (suc n) = F.zer_add (der F (con F 𝟙) n) ∙ der_zero F (con F 𝟙) n (λ i l. below_con F 𝟙 i (omega arith))

  pub pol_der : (l : List A) → pol F (der_l F l) ≡ der_p F (pol F l)
  unfolding der_l
  pol_der [] = pol_nil F ∙ sym (ap (der_p F) (pol_nil F ∙ sym (constants F).h_zer) ∙ der_C 𝟘)
  pol_der (a ∷ l) = pol_add F l (𝟘 ∷ der_l F l) ∙ ap (λ t. pol F l + t) (pol_cons F 𝟘 (der_l F l) ∙ ap₂ (λ s t. s + X F * t) (constants F).h_zer (pol_der l))
      ∙ sym (ap (der_p F) (pol_cons F a l) ∙ derP_add F (C F a) (X F * pol F l) ∙ ap₂ ◌+◌ (der_C a) (derP_mul F (X F) (pol F l)
      ∙ ap (λ t. t * pol F l + X F * der_p F (pol F l)) der_X)
      ∙ ring (poly F) (X F ∷ pol F l ∷ der_p F (pol F l) ∷ []) (search quote depth 40) refl)
