-- L5, K[x][y]/(y² - f) has no zero divisors, f having degree 2g + 1: only zero has norm zero, and what isn't zero cancels (`regular`). So
-- constants in x, the lines y - v, and hence f - v² are not zero.
-- Open: `line`.
use Prim.Native.Nat.{ℕ, suc, ◌+◌}
use mathlib.Core.Path.{◌≡◌, refl, ap, ◌∙◌}
use mathlib.Core.List.{[], ◌∷◌}
use mathlib.Core.Logic.{◌≢◌}
use Rattle.algebra.proofs.Ring.CRing.{CRing}
use Rattle.algebra.proofs.Ring.Quote.{ring, quote, by}
use Rattle.algebra.proofs.Ring.Field.{Field}
use Rattle.algebra.proofs.Poly.Series.{Ser}
use Rattle.algebra.proofs.Poly.Poly.{poly, coef, coef_zer}
use Rattle.algebra.proofs.Poly.Degree.{Degree, by_deg, deg_ne, mul_ne, cancel, one_ne_zero}
use Rattle.algebra.proofs.Ideal.Quad.{quad, two_path, pr, ι, y, rea, ima, norm}
use Rattle.algebra.proofs.Ideal.Class.{Regular}
use Rattle.algebra.proofs.Ideal.Norm.{small_norm}

module _ (K : Field) (g : ℕ) (f : (poly K.arith.base).El) (hf : Degree K (suc (g + g)) f) where
  open K.arith use {base as F}
  open poly F use {El as P, add as ◌⊕◌, mul as ◌*◌, neg, zer as 0P, one as 1P}

  infixl 65 ◌⊕◌
  infixl 70 ◌*◌
  abbrev R : CRing
  R = quad (poly F) f

  norm_regular : (x : R.El) → norm (poly F) f x ≢ 0P → Regular R x
  unfolding quad rea ima norm
  norm_regular x h a b e = two_path (poly F) f
      (cancel K (norm (poly F) f x) a.re b.re h (by (poly F) x.re er (by (poly F) (neg (f * x.im)) ei
      (ring (poly F) (x.re ∷ x.im ∷ a.re ∷ a.im ∷ b.re ∷ b.im ∷ f ∷ []) (search quote depth 40) refl))))
      (cancel K (norm (poly F) f x) a.im b.im h (by (poly F) x.re ei (by (poly F) (neg x.im) er
      (ring (poly F) (x.re ∷ x.im ∷ a.re ∷ a.im ∷ b.re ∷ b.im ∷ f ∷ []) (search quote depth 40) refl))))
    where
      er : x.re * a.re ⊕ x.im * a.im * f ≡ x.re * b.re ⊕ x.im * b.im * f
      er = ap (rea (poly F) f) e

      ei : x.re * a.im ⊕ x.im * a.re ≡ x.re * b.im ⊕ x.im * b.re
      ei = ap (ima (poly F) f) e

  pub norm_zero : (x : R.El) → norm (poly F) f x ≡ 0P → x ≡ R.zer
  unfolding quad rea ima norm
  norm_zero x e = two_path (poly F) f re_zero im_zero
    where
      im_zero : ima (poly F) f x ≡ 0P
      im_zero = small_norm K g f hf x (λ k l. ap (λ (t : P). coef F t k) e ∙ ap (λ (s : Ser F). s k) (coef_zer F))

      re_zero : rea (poly F) f x ≡ 0P
      re_zero = by_deg K ((poly F).is_set x.re 0P) x.re (λ z. z) (λ m d. absurd (mul_ne K x.re x.re (deg_ne K d) (deg_ne K d)
          (by (poly F) 1P e (by (poly F) (f * x.im) im_zero (ring (poly F) (x.re ∷ x.im ∷ f ∷ []) (search quote depth 40) refl)))))

  pub regular : (x : R.El) → x ≢ R.zer → Regular R x
  regular x h = norm_regular x (λ e. h (norm_zero x e))

  pub ι_ne : (d : P) → d ≢ 0P → ι (poly F) f d ≢ R.zer
  unfolding quad rea pr
  ι_ne d h e = h (ap (rea (poly F) f) e)

  pub ι_regular : (d : P) → d ≢ 0P → Regular R (ι (poly F) f d)
  ι_regular d h = regular (ι (poly F) f d) (ι_ne d h)

  -- y - v
  abbrev pub line : P → R.El
  line v = R.add (y (poly F) f) (R.neg (ι (poly F) f v))

  pub line_ne : (v : P) → line v ≢ R.zer
  unfolding quad ima pr
  line_ne v e = one_ne_zero K (by (poly F) 1P (ap (ima (poly F) f) e) (ring (poly F) [] (search quote depth 40) refl))

  -- so f - v² is not zero
  pub curve_ne : (v : P) → f ⊕ neg (v * v) ≢ 0P
  unfolding norm quad rea ima pr
  curve_ne v e = line_ne v (norm_zero (line v) (by (poly F) (neg 1P) e (ring (poly F) (f ∷ v ∷ []) (search quote depth 40) refl)))
