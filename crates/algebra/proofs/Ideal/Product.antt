-- L2 and L3 on the curve: I(u1, v1)·I(u2, v2) = d·I(u3, v3) in R[y]/(y² - f), and I(u, v)·I(u, -v) = ⟨u⟩, which is the case d = u.
-- Every pair on the curve is taken to be smooth, which is what square-freeness gives (L1).
use mathlib.Core.Path.{◌≡◌, refl}
use mathlib.Core.List.{[], ◌∷◌}
use Rattle.algebra.proofs.Ring.CRing.{CRing}
use Rattle.algebra.proofs.Ring.Quote.{ring, quote}
use Rattle.algebra.proofs.Ideal.Ideal.{◌⊆◌, Prod, Scaled}
use Rattle.algebra.proofs.Ideal.Quad.{quad, two_path, pr, ι, ι_hom, y, y_sq}
use Rattle.algebra.proofs.Ideal.Member.{Mumford}
use Rattle.algebra.proofs.Ideal.Smooth.{Smooth, smooth_map}
use Rattle.algebra.proofs.Ideal.Joined.{Joined, joined_conj, joined_map}
use Rattle.algebra.proofs.Ideal.Class.{Whole}
use Rattle.algebra.proofs.Ideal.Compose.{compose_in, compose_out}

module _ (R : CRing) (f : R.El) (sm : (u v w : R.El) → f ≡ R.add (R.mul v v) (R.mul u w) → Smooth R u v w) where
  open R use {El as A, add as ◌+◌, mul as ◌*◌, neg, one as 𝟙}

  infixl 65 ◌+◌
  infixl 70 ◌*◌
  abbrev S : CRing
  S = quad R f

  module _ (u1 v1 u2 v2 u3 v3 : A) (H : Joined R f u1 v1 u2 v2 u3 v3) where
    up : Joined S (ι R f f) (ι R f u1) (ι R f v1) (ι R f u2) (ι R f v2) (ι R f u3) (ι R f v3)
    up = joined_map R S (ι R f) (ι_hom R f) H

    smooth_up : Smooth S (ι R f u1) (ι R f v1) (ι R f H.w1)
    smooth_up = smooth_map R S (ι R f) (ι_hom R f) (sm u1 v1 H.w1 H.h_f1)

    pub join_in : ◌⊆◌ S (Prod S (Mumford R f u1 v1) (Mumford R f u2 v2)) (Scaled S (ι R f H.d) (Mumford R f u3 v3))
    unfolding up joined_map
    join_in = compose_in S (y R f) (ι R f f) _ _ _ _ _ _ (y_sq R f) up smooth_up

    pub join_out : ◌⊆◌ S (Scaled S (ι R f H.d) (Mumford R f u3 v3)) (Prod S (Mumford R f u1 v1) (Mumford R f u2 v2))
    unfolding up joined_map
    join_out = compose_out S (y R f) (ι R f f) _ _ _ _ _ _ (y_sq R f) up smooth_up

  module _ (u v w : A) (h : f ≡ v * v + u * w) where
    pub conj_to : ◌⊆◌ S (Prod S (Mumford R f u v) (Mumford R f u (neg v))) (Scaled S (ι R f u) (Whole S))
    unfolding joined_conj
    conj_to x p = let z : Scaled S (ι R f u) (Mumford R f 𝟙 (neg v)) x = join_in u v u (neg v) 𝟙 (neg v) (joined_conj R f u v w h) x p
        in record { part = z.part; inside = tt; is = z.is }

    pub conj_from : ◌⊆◌ S (Scaled S (ι R f u) (Whole S)) (Prod S (Mumford R f u v) (Mumford R f u (neg v)))
    unfolding quad pr joined_conj
    conj_from x z = join_out u v u (neg v) 𝟙 (neg v) (joined_conj R f u v w h) x (record {
      part = z.part;
      inside = record {
        at_g = z.part;
        at_h = S.zer;
        is = two_path R f (ring R (f ∷ v ∷ z.part.re ∷ z.part.im ∷ []) (search quote depth 40) refl)
            (ring R (f ∷ v ∷ z.part.re ∷ z.part.im ∷ []) (search quote depth 40) refl);
      };
      is = z.is;
    })
