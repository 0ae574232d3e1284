-- The quadratic formula, over a field with 1 + 1 ≠ 0. Gives: for x² + b x + c and a root s of its discriminant b² - 4c, the two elements (-b + s) / 2 and
-- (-b - s) / 2 have sum -b and product c, so that the polynomial is (x - first) (x - second) at every x (`quadratic_splits`); and it has a root
-- exactly when its discriminant is a square (`quadratic_iff`).
use mathlib.Core.Path.{◌≡◌, refl, ap₂, ◌∙◌}
use mathlib.Core.List.{[], ◌∷◌}
use mathlib.Core.Logic.{◌≢◌, ◌↔◌}
use Rattle.algebra.proofs.Ring.Quote.{ring, quote, by}
use Rattle.algebra.proofs.Ring.Field.{Field}

module _ (K : Field) (two : K.arith.base.add K.arith.base.one K.arith.base.one ≢ K.arith.base.zer) where
  open K.arith use {base as F, inv}
  open F use {El as A, add as ◌⊕◌, mul as ◌⊗◌, neg, zer as 𝟘, one as 𝟙}

  infixl 65 ◌⊕◌
  infixl 70 ◌⊗◌
  half : A
  half = inv (𝟙 ⊕ 𝟙)

  halves : (𝟙 ⊕ 𝟙) ⊗ half ≡ 𝟙
  unfolding half
  halves = K.mul_inv (𝟙 ⊕ 𝟙) two

  module _ (b c : A) where
    abbrev pub discriminant : A
    discriminant = b ⊗ b ⊕ neg ((𝟙 ⊕ 𝟙) ⊗ (𝟙 ⊕ 𝟙) ⊗ c)

    pub first : A → A
    first s = half ⊗ (neg b ⊕ s)

    pub second : A → A
    second s = half ⊗ (neg b ⊕ neg s)

    pub roots_sum : (s : A) → first s ⊕ second s ≡ neg b
    unfolding first second
    roots_sum s = by F (neg b) halves (ring F (half ∷ b ∷ s ∷ []) (search quote depth 40) refl)

    pub roots_product : (s : A) → s ⊗ s ≡ discriminant → first s ⊗ second s ≡ c
    unfolding first second
    roots_product s h = by F (neg (half ⊗ half)) h (by F (c ⊗ ((𝟙 ⊕ 𝟙) ⊗ half ⊕ 𝟙)) halves (ring F (half ∷ b ∷ c ∷ s ∷ []) (search quote depth 40) refl))

    pub quadratic_splits : (s : A) → s ⊗ s ≡ discriminant → (x : A) → x ⊗ x ⊕ b ⊗ x ⊕ c ≡ (x ⊕ neg (first s)) ⊗ (x ⊕ neg (second s))
    quadratic_splits s h x = by F x (roots_sum s) (by F (neg 𝟙) (roots_product s h) (ring F (x ∷ b ∷ c ∷ first s ∷ second s ∷ []) (search quote depth 40) refl))

    pub quadratic_iff : ((x : A) × (x ⊗ x ⊕ b ⊗ x ⊕ c ≡ 𝟘)) ↔ ((s : A) × (s ⊗ s ≡ discriminant))
    quadratic_iff = (λ r. to r.0 r.1, λ r. (first r.0, quadratic_splits r.0 r.1 (first r.0) ∙ at (first r.0) (second r.0)))
      where
        to : (x : A) → x ⊗ x ⊕ b ⊗ x ⊕ c ≡ 𝟘 → (s : A) × (s ⊗ s ≡ discriminant)
        to x h = ((𝟙 ⊕ 𝟙) ⊗ x ⊕ b, by F ((𝟙 ⊕ 𝟙) ⊗ (𝟙 ⊕ 𝟙)) h (ring F (x ∷ b ∷ c ∷ []) (search quote depth 40) refl))

        at : (x y : A) → (x ⊕ neg x) ⊗ (x ⊕ neg y) ≡ 𝟘
        at x y = ring F (x ∷ y ∷ []) (search quote depth 40) refl

    -- ---- by halves: what is twice the numerator's half
    halved : (w r : A) → r ⊕ r ≡ w → r ≡ half ⊗ w
    halved w r h = by F half h (by F (neg r) halves (ring F (half ∷ w ∷ r ∷ []) (search quote depth 40) refl))

    module _ (s r t : A) (hs : s ⊗ s ≡ discriminant) (hr : r ⊕ r ≡ neg b ⊕ s) (ht : t ⊕ t ≡ neg b ⊕ neg s) where
      pub halves_sum : r ⊕ t ≡ neg b
      unfolding first second
      halves_sum = ap₂ ◌⊕◌ (halved (neg b ⊕ s) r hr) (halved (neg b ⊕ neg s) t ht) ∙ roots_sum s

      pub halves_product : r ⊗ t ≡ c
      unfolding first second
      halves_product = ap₂ ◌⊗◌ (halved (neg b ⊕ s) r hr) (halved (neg b ⊕ neg s) t ht) ∙ roots_product s hs
