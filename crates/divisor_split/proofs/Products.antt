-- A monic quadratic with both its roots, and a monic cubic with a root taken out, as products in K[x].
use mathlib.Core.Path.{◌≡◌, refl, sym, ap, ap₂, ◌∙◌}
use mathlib.Core.List.{[], ◌∷◌}
use Rattle.algebra.proofs.Ring.CRing.{CRing}
use Rattle.algebra.proofs.Ring.Quote.{ring, quote, by}
use Rattle.algebra.proofs.Poly.Poly.{poly}
use Rattle.algebra.proofs.Poly.Term.{C, X, constants}
use Rattle.algebra.proofs.List.Value.{mon}
use Rattle.algebra.proofs.List.Short.{mon1, mon2, mon3}
use Rattle.rules.specs.Roots.Roots.{value}

module _ (F : CRing) where
  open F use {El as A, add as ◌⊕◌, mul as ◌⊗◌, neg as ng, zer as 𝟘, one as 𝟙}
  open poly F use {El as P, add as ◌+◌, mul as ◌*◌, neg, zer as 0P, one as 1P}

  infixl 65 ◌⊕◌
  infixl 70 ◌⊗◌
  infixl 65 ◌+◌
  infixl 70 ◌*◌
  abbrev c : A → P
  c = C F

  abbrev x : P
  x = X F

  point : (y : A) → mon F (ng y ∷ []) ≡ neg (c y) + x
  point y = mon1 F (ng y) ∙ ap (λ t. t + x) ((constants F).h_neg y)

  plus_times : (a y b : A) → c (a ⊕ y ⊗ b) ≡ c a + c y * c b
  plus_times a y b = (constants F).h_add a (y ⊗ b) ∙ ap (λ t. c a + t) ((constants F).h_mul y b)

  pub product2 : (u0 u1 y z : A) → y ⊕ z ≡ ng u1 → y ⊗ z ≡ u0 → mon F (u0 ∷ u1 ∷ []) ≡ mon F (ng y ∷ []) * mon F (ng z ∷ [])
  product2 u0 u1 y z s t = mon2 F u0 u1
      ∙ sort x (c u0) (c u1) (c y) (c z) (sym ((constants F).h_add y z) ∙ ap c s ∙ (constants F).h_neg u1) (sym ((constants F).h_mul y z) ∙ ap c t)
      ∙ sym (ap₂ ◌*◌ (point y) (point z))
    where
      sort : (x a b y z : P) → y + z ≡ neg b → y * z ≡ a → a + x * (b + x) ≡ (neg y + x) * (neg z + x)
      sort x a b y z h k = by (poly F) x h (by (poly F) (neg 1P) k (ring (poly F) (x ∷ a ∷ b ∷ y ∷ z ∷ []) (search quote depth 40) refl))

  pub product3 : (u0 u1 u2 y : A) → value F (u0 ∷ u1 ∷ u2 ∷ []) y ≡ 𝟘 → mon F (u0 ∷ u1 ∷ u2 ∷ []) ≡ mon F (ng y ∷ []) * mon F ((y ⊗ (u2 ⊕ y) ⊕ u1) ∷ (u2 ⊕ y) ∷ [])
  unfolding value
  product3 u0 u1 u2 y h = mon3 F u0 u1 u2
      ∙ sort x (c u0) (c u1) (c u2) (c y) (sym (plus_times u0 y (u1 ⊕ y ⊗ (u2 ⊕ y ⊗ 𝟙)) ∙ ap (λ t. c u0 + c y * t) (plus_times u1 y (u2 ⊕ y ⊗ 𝟙) ∙ ap (λ t. c u1 + c y * t) (plus_times u2 y 𝟙 ∙ ap (λ t. c u2 + c y * t) (constants F).h_one))) ∙ ap c h ∙ (constants F).h_zer)
      ∙ sym (ap₂ ◌*◌ (point y) (mon2 F (y ⊗ (u2 ⊕ y) ⊕ u1) (u2 ⊕ y) ∙ ap₂ (λ s t. s + x * (t + x)) ((constants F).h_add (y ⊗ (u2 ⊕ y)) u1 ∙ ap (λ t. t + c u1) ((constants F).h_mul y (u2 ⊕ y) ∙ ap (λ t. c y * t) ((constants F).h_add u2 y))) ((constants F).h_add u2 y)))
    where
      sort : (x a b d y : P) → a + y * (b + y * (d + y * 1P)) ≡ 0P → a + x * (b + x * (d + x)) ≡ (neg y + x) * (y * (d + y) + b + x * (d + y + x))
      sort x a b d y h = by (poly F) 1P h (ring (poly F) (x ∷ a ∷ b ∷ d ∷ y ∷ []) (search quote depth 40) refl)
