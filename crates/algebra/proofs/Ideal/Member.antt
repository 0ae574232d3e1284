-- L0, membership. Gives: `Mumford u v`, the ideal ⟨u, y - v⟩ of R[y]/(y² - f), and that a + b y lies in it exactly when u divides a + b v.
-- Open: `Mumford`.
use mathlib.Core.Path.{◌≡◌, refl, ap, ◌∙◌}
use mathlib.Core.List.{[], ◌∷◌}
use Rattle.algebra.proofs.Ring.CRing.{CRing}
use Rattle.algebra.proofs.Ring.Quote.{ring, quote, by}
use Rattle.algebra.proofs.Ring.Divides.{Divides}
use Rattle.algebra.proofs.Ideal.Ideal.{Span}
use Rattle.algebra.proofs.Ideal.Quad.{quad, two_path, pr, ι, y, rea, ima}

module _ (R : CRing) (f : R.El) where
  open R use {El as A, add as ◌+◌, mul as ◌*◌}

  infixl 65 ◌+◌
  infixl 70 ◌*◌
  open quad R f use {El as S, add as ◌⊕◌, neg as ⊖}

  infixl 65 ◌⊕◌
  abbrev pub Mumford : A → A → S → Type 0
  Mumford u v x = Span (quad R f) (ι R f u) (y R f ⊕ ⊖ (ι R f v)) x

  pub member : (u v w : A) → f ≡ v * v + u * w → (x : S) → Mumford u v x → Divides R u (rea R f x + ima R f x * v)
  unfolding quad pr rea ima
  member u v w hf x m = record {
    factor = rea R f m.at_g + ima R f m.at_g * v + ima R f m.at_h * w;
    is = ap (λ (t : S). rea R f t + ima R f t * v) m.is
        ∙ by R (ima R f m.at_h) hf (ring R (u ∷ v ∷ w ∷ f ∷ rea R f m.at_g ∷ ima R f m.at_g ∷ rea R f m.at_h ∷ ima R f m.at_h ∷ []) (search quote depth 40) refl);
  }

  pub member_of : (u v : A) (x : S) → Divides R u (rea R f x + ima R f x * v) → Mumford u v x
  unfolding quad pr rea ima
  member_of u v x d = record {
    at_g = ι R f d.factor;
    at_h = ι R f (ima R f x);
    is = two_path R f
        (by R R.one d.is (ring R (u ∷ v ∷ f ∷ x.re ∷ x.im ∷ d.factor ∷ []) (search quote depth 40) refl))
        (ring R (u ∷ v ∷ f ∷ x.re ∷ x.im ∷ d.factor ∷ []) (search quote depth 40) refl);
  }
