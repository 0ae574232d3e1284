-- L4, a reduction step keeps the class: I(u, v) and I(w, -v) are in one class, where u·w = f - v² over a field and f has degree 2g + 1.
use Prim.Native.Nat.{ℕ, suc, ◌+◌}
use mathlib.Core.Path.{◌≡◌, refl, subst}
use mathlib.Core.List.{[], ◌∷◌}
use mathlib.Core.Logic.{◌≢◌}
use Rattle.algebra.proofs.Ring.CRing.{CRing}
use Rattle.algebra.proofs.Ring.Quote.{ring, quote, by}
use Rattle.algebra.proofs.Ring.Field.{Field}
use Rattle.algebra.proofs.Poly.Poly.{poly}
use Rattle.algebra.proofs.Poly.Degree.{Degree, right_ne}
use Rattle.algebra.proofs.Ideal.Ideal.{Span}
use Rattle.algebra.proofs.Ideal.Quad.{quad, two_path, pr, ι, ι_hom, y, y_sq}
use Rattle.algebra.proofs.Ideal.Member.{Mumford}
use Rattle.algebra.proofs.Ideal.Joined.{on_map}
use Rattle.algebra.proofs.Ideal.Class.{Same}
use Rattle.algebra.proofs.Ideal.Reduce.{reduce_to, reduce_from}
use Rattle.algebra.proofs.Ideal.Domain.{line, line_ne, curve_ne, regular, ι_regular}

module _ (K : Field) (g : ℕ) (f : (poly K.arith.base).El) (hf : Degree K (suc (g + g)) f) where
  abbrev R : CRing
  R = poly K.arith.base

  open R use {El as P, add as ◌⊕◌, mul as ◌*◌, neg, zer as 0P, one as 1P}

  infixl 65 ◌⊕◌
  infixl 70 ◌*◌
  abbrev S : CRing
  S = quad R f

  -- the cofactor isn't zero
  pub cofactor_ne : (u v w : P) → f ≡ v * v ⊕ u * w → w ≢ 0P
  cofactor_ne u v w h = right_ne K u w (λ e. curve_ne K g f hf v (by R 1P h (by R 1P e (ring R (f ∷ u ∷ v ∷ w ∷ []) (search quote depth 40) refl))))

  pub step_same : (u v w : P) → f ≡ v * v ⊕ u * w → Same S (Mumford R f u v) (Mumford R f w (neg v))
  unfolding quad pr
  step_same u v w h = subst (λ (t : S.El). Same S (Mumford R f u v) (Span S (j w) (S.add (y R f) (S.neg t)))) minus (record {
    a = j w;
    b = line K g f hf v;
    ra = ι_regular K g f hf w (cofactor_ne u v w h);
    rb = regular K g f hf (line K g f hf v) (line_ne K g f hf v);
    to = reduce_to S (y R f) (j f) (j u) (j v) (j w) (y_sq R f) (on_map R S j (ι_hom R f) h);
    from = reduce_from S (y R f) (j f) (j u) (j v) (j w) (y_sq R f) (on_map R S j (ι_hom R f) h);
  })
    where
      j : P → S.El
      j t = ι R f t

      minus : S.neg (j v) ≡ j (neg v)
      minus = two_path R f refl (ring R [] (search quote depth 40) refl)
