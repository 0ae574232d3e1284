-- L4, a reduction step as an equation of ideals: w·I(u, v) = (y - v)·I(w, -v), where u·w = f - v². And what changes no ideal: u up to a unit,
-- v modulo u; such a change keeps a pair on the curve.
use mathlib.Core.Path.{◌≡◌, refl, ◌∙◌}
use mathlib.Core.List.{[], ◌∷◌}
use Rattle.algebra.proofs.Ring.CRing.{CRing}
use Rattle.algebra.proofs.Ring.Quote.{ring, quote, by}
use Rattle.algebra.proofs.Ideal.Ideal.{◌⊆◌, Span}
use Rattle.algebra.proofs.Ideal.Quad.{quad, two_path, pr, ι, y}
use Rattle.algebra.proofs.Ideal.Member.{Mumford}
use Rattle.algebra.proofs.Ideal.Joined.{OnCurve}
use Rattle.algebra.proofs.Ideal.Class.{Moved, Same, same_of}

module _ (S : CRing) where
  open S use {El as A, add as ◌+◌, mul as ◌*◌, neg, one as 𝟙}

  infixl 65 ◌+◌
  infixl 70 ◌*◌
  infixl 65 ◌-◌
  abbrev ◌-◌ : A → A → A
  a - b = a + neg b

  -- w ⟨u, y - v⟩ = (y - v) ⟨w, y + v⟩, where f = v² + u w
  module _ (y f u v w : A) (hy : y * y ≡ f) (hf : f ≡ v * v + u * w) where
    pub reduce_to : (x : A) → Span S u (y - v) x → Moved S w (y - v) x (Span S w (y - neg v))
    reduce_to x m = record {
      to = m.at_h * w + m.at_g * (y - neg v);
      inside = record { at_g = m.at_h; at_h = m.at_g; is = refl };
      is = by S w m.is (by S (neg m.at_g) hy (by S (neg m.at_g) hf (ring S (y ∷ f ∷ u ∷ v ∷ w ∷ x ∷ m.at_g ∷ m.at_h ∷ []) (search quote depth 40) refl)));
    }

    pub reduce_from : (x : A) → Span S w (y - neg v) x → Moved S (y - v) w x (Span S u (y - v))
    reduce_from x m = record {
      to = m.at_h * u + m.at_g * (y - v);
      inside = record { at_g = m.at_h; at_h = m.at_g; is = refl };
      is = by S (y - v) m.is (by S m.at_h hy (by S m.at_h hf (ring S (y ∷ f ∷ u ∷ v ∷ w ∷ x ∷ m.at_g ∷ m.at_h ∷ []) (search quote depth 40) refl)));
    }

  -- v counts mod u, and u up to a unit
  pub change : (y u v u' v' k c c' : A) → u' ≡ c * u → c * c' ≡ 𝟙 → v' ≡ v + k * u → ◌⊆◌ S (Span S u (y - v)) (Span S u' (y - v'))
  change y u v u' v' k c c' h1 h2 h3 x m = record {
    at_g = c' * (m.at_g + m.at_h * k);
    at_h = m.at_h;
    is = by S 𝟙 m.is (by S (neg (c' * (m.at_g + m.at_h * k))) h1 (by S (neg ((m.at_g + m.at_h * k) * u)) h2 (by S m.at_h h3
        (ring S (y ∷ u ∷ v ∷ u' ∷ v' ∷ k ∷ c ∷ c' ∷ x ∷ m.at_g ∷ m.at_h ∷ []) (search quote depth 40) refl))));
  }

-- u up to a unit, v mod u
module _ (R : CRing) (f : R.El) where
  open R use {El as A, add as ◌+◌, mul as ◌*◌, neg, one as 𝟙}

  infixl 65 ◌+◌
  infixl 70 ◌*◌
  pub on_change : (u v u' v' k c c' : A) → u' ≡ c * u → c * c' ≡ 𝟙 → v' ≡ v + k * u → OnCurve R f u v → OnCurve R f u' v'
  on_change u v u' v' k c c' h1 h2 h3 on = (
    c' * (on.0 + neg (k * (v' + v))),
    by R 𝟙 on.1 (by R (neg (c' * (on.0 + neg (k * (v' + v))))) h1 (by R (neg (u * (on.0 + neg (k * (v' + v))))) h2 (by R (neg (v' + v)) h3
        (ring R (f ∷ u ∷ v ∷ u' ∷ v' ∷ k ∷ c ∷ c' ∷ on.0 ∷ []) (search quote depth 40) refl)))),
  )

  pub change_in : (u v u' v' k c c' : A) → u' ≡ c * u → c * c' ≡ 𝟙 → v' ≡ v + k * u → ◌⊆◌ (quad R f) (Mumford R f u v) (Mumford R f u' v')
  unfolding quad pr
  change_in u v u' v' k c c' h1 h2 h3 = change (quad R f) (y R f) (ι R f u) (ι R f v) (ι R f u') (ι R f v') (ι R f k) (ι R f c) (ι R f c')
      (two_path R f (by R 𝟙 h1 (ring R (f ∷ u ∷ u' ∷ c ∷ []) (search quote depth 40) refl)) (ring R (f ∷ u ∷ c ∷ []) (search quote depth 40) refl))
      (two_path R f (by R 𝟙 h2 (ring R (f ∷ c ∷ c' ∷ []) (search quote depth 40) refl)) (ring R (f ∷ c ∷ c' ∷ []) (search quote depth 40) refl))
      (two_path R f (by R 𝟙 h3 (ring R (f ∷ u ∷ v ∷ v' ∷ k ∷ []) (search quote depth 40) refl)) (ring R (f ∷ u ∷ v ∷ v' ∷ k ∷ []) (search quote depth 40) refl))

  pub same_change : (u v u' v' k c c' : A) → u' ≡ c * u → c * c' ≡ 𝟙 → v' ≡ v + k * u → Same (quad R f) (Mumford R f u v) (Mumford R f u' v')
  same_change u v u' v' k c c' h1 h2 h3 = same_of (quad R f) (change_in u v u' v' k c c' h1 h2 h3)
      (change_in u' v' u v (neg (k * c')) c' c (by R (neg c') h1 (by R (neg u) h2 (ring R (u ∷ u' ∷ c ∷ c' ∷ []) (search quote depth 40) refl))) (R.mul_comm c' c ∙ h2)
      (by R (neg 1R) h3 (by R (k * c') h1 (by R (k * u) h2 (ring R (u ∷ v ∷ u' ∷ v' ∷ k ∷ c ∷ c' ∷ []) (search quote depth 40) refl)))))
    where
      1R : A
      1R = 𝟙
