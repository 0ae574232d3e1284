-- Polynomials of one, two and three coefficients as sums in K[x], and monic ones with as many lower coefficients.
use mathlib.Core.Path.{◌≡◌, refl, ap, ◌∙◌}
use mathlib.Core.List.{[], ◌∷◌}
use Rattle.algebra.proofs.Ring.CRing.{CRing}
use Rattle.algebra.proofs.Ring.Quote.{ring, quote}
use Rattle.algebra.proofs.Poly.Poly.{poly}
use Rattle.algebra.proofs.Poly.Term.{C, X}
use Rattle.algebra.proofs.List.Value.{pol, mon, pol_nil, pol_cons, mon_nil, mon_cons}

module _ (F : CRing) where
  open F use {El as A}
  open poly F use {add as ◌+◌, mul as ◌*◌}

  infixl 65 ◌+◌
  infixl 70 ◌*◌
  pub pol1 : (a : A) → pol F (a ∷ []) ≡ C F a
  pol1 a = pol_cons F a [] ∙ ap (λ t. C F a + X F * t) (pol_nil F) ∙ ring (poly F) (C F a ∷ X F ∷ []) (search quote depth 40) refl

  pub pol2 : (a b : A) → pol F (a ∷ b ∷ []) ≡ C F a + X F * C F b
  pol2 a b = pol_cons F a (b ∷ []) ∙ ap (λ t. C F a + X F * t) (pol1 b)

  pub pol3 : (a b c : A) → pol F (a ∷ b ∷ c ∷ []) ≡ C F a + X F * (C F b + X F * C F c)
  pol3 a b c = pol_cons F a (b ∷ c ∷ []) ∙ ap (λ t. C F a + X F * t) (pol2 b c)

  pub mon1 : (a : A) → mon F (a ∷ []) ≡ C F a + X F
  mon1 a = mon_cons F a [] ∙ ap (λ t. C F a + X F * t) (mon_nil F) ∙ ring (poly F) (C F a ∷ X F ∷ []) (search quote depth 40) refl

  pub mon2 : (a b : A) → mon F (a ∷ b ∷ []) ≡ C F a + X F * (C F b + X F)
  mon2 a b = mon_cons F a (b ∷ []) ∙ ap (λ t. C F a + X F * t) (mon1 b)

  pub mon3 : (a b c : A) → mon F (a ∷ b ∷ c ∷ []) ≡ C F a + X F * (C F b + X F * (C F c + X F))
  mon3 a b c = mon_cons F a (b ∷ c ∷ []) ∙ ap (λ t. C F a + X F * t) (mon2 b c)
