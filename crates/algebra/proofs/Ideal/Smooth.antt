-- L1, square-freeness at work. Gives: `Smooth u v w`, that u, 2v and w generate 1; that it holds of each u·w = f - v² where a
-- combination of f and its derivative is 1 and 2 has an inverse (`smooth`); that a homomorphism keeps it.
use mathlib.Core.Path.{◌≡◌, refl, ap, ap₂, ◌∙◌}
use mathlib.Core.List.{[], ◌∷◌}
use Rattle.algebra.proofs.Ring.CRing.{CRing, IsHom}
use Rattle.algebra.proofs.Ring.Quote.{ring, quote, by}

module _ (R : CRing) where
  open R use {El as A, add as ◌+◌, mul as ◌*◌, neg, one as 𝟙}

  infixl 65 ◌+◌
  infixl 70 ◌*◌
  -- u, 2 v and w generate everything: (u, v) meets no singular point of the curve
  pub record Smooth (u v w : A) : Type 0 where
    pub α : A
    pub β : A
    pub γ : A
    pub is : α * u + β * (v + v) + γ * w ≡ 𝟙

  -- a derivation D, and f prime to D f
  pub smooth : (D : A → A) → ((a b : A) → D (a + b) ≡ D a + D b) → ((a b : A) → D (a * b) ≡ D a * b + a * D b)
      → (f a b half : A) → half + half ≡ 𝟙 → a * f + b * D f ≡ 𝟙 → (u v w : A) → f ≡ v * v + u * w → Smooth u v w
  smooth D D-add D-mul f a b half h2 h1 u v w hf = record {
    α = a * w + b * D w;
    β = a * v * half + b * D v;
    γ = b * D u;
    is = by R 𝟙 h1 (by R (neg a) hf (by R (neg b) df (by R (a * v * v) h2 (ring R (f ∷ a ∷ b ∷ half ∷ u ∷ v ∷ w ∷ D f ∷ D u ∷ D v ∷ D w ∷ []) (search quote depth 40) refl))));
  }
    where
      df : D f ≡ D v * v + v * D v + (D u * w + u * D w)
      df = ap D hf ∙ D-add (v * v) (u * w) ∙ ap₂ ◌+◌ (D-mul v v) (D-mul u w)

-- along a homomorphism
module _ (R S : CRing) (φ : R.El → S.El) (h : IsHom R S φ) where
  open R use {El as A}

  pub smooth_map : {u v w : A} → Smooth R u v w → Smooth S (φ u) (φ v) (φ w)
  smooth_map m = record { α = φ m.α; β = φ m.β; γ = φ m.γ; is = simp (← h.h_add, ← h.h_mul) (ap φ m.is ∙ h.h_one) }
