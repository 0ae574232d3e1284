-- The ring R[y]/(y² - f), its elements a + b y as pairs. Gives: the ring `quad`; `pr a b` for a + b y, `ι` for R in it (a homomorphism) and
-- `y`, with y² = f; the parts `rea` and `ima`; the conjugate a - b y and the norm a² - f b², x · conj x = norm x.
-- The ground of the steps L0 to L7 (docs/proofs/GROUP.md, "The chain of the proof").
-- Shut (`unfoldable`): `quad`, `pr`, `rea`, `ima`, `norm`, `conj`. Open: `ι`, `y`.
use mathlib.Core.Path.{◌≡◌, refl}
use mathlib.Core.List.{[], ◌∷◌}
use Rattle.algebra.proofs.Ring.CRing.{CRing, IsHom, neg_neg}
use Rattle.algebra.proofs.Ring.Quote.{ring, quote}

module _ (R : CRing) (f : R.El) where
  open R use {El as A, add as ◌+◌, mul as ◌*◌, neg, zer as 𝟘, one as 𝟙}

  infixl 65 ◌+◌
  infixl 70 ◌*◌
  pub record Two : Type 0 where
    pub re : A
    pub im : A

  pub two_path : {x y : Two} → x.re ≡ y.re → x.im ≡ y.im → x ≡ y
  two_path p q = λ i. record { re = p i; im = q i }

  unfoldable pub quad : CRing
  quad = record {
    El = Two;
    add = λ x y. record { re = x.re + y.re; im = x.im + y.im };
    mul = λ x y. record { re = x.re * y.re + x.im * y.im * f; im = x.re * y.im + x.im * y.re };
    neg = λ x. record { re = neg x.re; im = neg x.im };
    zer = record { re = 𝟘; im = 𝟘 };
    one = record { re = 𝟙; im = 𝟘 };
    is_set = λ x y p q j i. record { re = R.is_set x.re y.re (λ k. (p k).re) (λ k. (q k).re) j i; im = R.is_set x.im y.im (λ k. (p k).im) (λ k. (q k).im) j i };
    add_assoc = λ x y z. two_path (R.add_assoc x.re y.re z.re) (R.add_assoc x.im y.im z.im);
    add_comm = λ x y. two_path (R.add_comm x.re y.re) (R.add_comm x.im y.im);
    zer_add = λ x. two_path (R.zer_add x.re) (R.zer_add x.im);
    neg_add = λ x. two_path (R.neg_add x.re) (R.neg_add x.im);
    mul_assoc = λ x y z. two_path (r_assoc x.re x.im y.re y.im z.re z.im) (i_assoc x.re x.im y.re y.im z.re z.im);
    mul_comm = λ x y. two_path (r_comm x.re x.im y.re y.im) (i_comm x.re x.im y.re y.im);
    one-mul = λ x. two_path (r_one x.re x.im) (i_one x.re x.im);
    add-mul = λ x y z. two_path (r_add x.re x.im y.re y.im z.re z.im) (i_add x.re x.im y.re y.im z.re z.im);
  }
    where
      r_assoc : (a b c d e g : A) → (a * c + b * d * f) * e + (a * d + b * c) * g * f ≡ a * (c * e + d * g * f) + b * (c * g + d * e) * f
      r_assoc a b c d e g = ring R (a ∷ b ∷ c ∷ d ∷ e ∷ g ∷ f ∷ []) (search quote depth 40) refl

      i_assoc : (a b c d e g : A) → (a * c + b * d * f) * g + (a * d + b * c) * e ≡ a * (c * g + d * e) + b * (c * e + d * g * f)
      i_assoc a b c d e g = ring R (a ∷ b ∷ c ∷ d ∷ e ∷ g ∷ f ∷ []) (search quote depth 40) refl

      r_comm : (a b c d : A) → a * c + b * d * f ≡ c * a + d * b * f
      r_comm a b c d = ring R (a ∷ b ∷ c ∷ d ∷ f ∷ []) (search quote depth 40) refl

      i_comm : (a b c d : A) → a * d + b * c ≡ c * b + d * a
      i_comm a b c d = ring R (a ∷ b ∷ c ∷ d ∷ f ∷ []) (search quote depth 40) refl

      r_one : (a b : A) → 𝟙 * a + 𝟘 * b * f ≡ a
      r_one a b = ring R (a ∷ b ∷ f ∷ []) (search quote depth 40) refl

      i_one : (a b : A) → 𝟙 * b + 𝟘 * a ≡ b
      i_one a b = ring R (a ∷ b ∷ f ∷ []) (search quote depth 40) refl

      r_add : (a b c d e g : A) → (a + c) * e + (b + d) * g * f ≡ a * e + b * g * f + (c * e + d * g * f)
      r_add a b c d e g = ring R (a ∷ b ∷ c ∷ d ∷ e ∷ g ∷ f ∷ []) (search quote depth 40) refl

      i_add : (a b c d e g : A) → (a + c) * g + (b + d) * e ≡ a * g + b * e + (c * g + d * e)
      i_add a b c d e g = ring R (a ∷ b ∷ c ∷ d ∷ e ∷ g ∷ f ∷ []) (search quote depth 40) refl

  infixl 65 ◌-◌
  abbrev ◌-◌ : A → A → A
  a - b = a + neg b

  -- ---- coordinates, the ring shut
  open quad use {El as S, mul as ◌⊗◌}

  infixl 70 ◌⊗◌
  -- a + b y
  unfoldable pub pr : A → A → S
  unfolding quad
  pr a b = record { re = a; im = b }

  abbrev pub ι : A → S
  ι a = pr a 𝟘

  abbrev pub y : S
  y = pr 𝟘 𝟙

  unfoldable pub rea : S → A
  unfolding quad
  rea x = x.re

  unfoldable pub ima : S → A
  unfolding quad
  ima x = x.im

  pub re_pr : (a b : A) → rea (pr a b) ≡ a
  unfolding quad pr rea
  re_pr a b = refl

  pub ι_hom : IsHom R (quad) ι
  unfolding quad pr
  ι_hom = record {
    h_add = λ a b. two_path refl (ring R [] (search quote depth 40) refl);
    h_mul = λ a b. two_path (ring R (a ∷ b ∷ f ∷ []) (search quote depth 40) refl) (ring R (a ∷ b ∷ []) (search quote depth 40) refl);
    h_neg = λ a. two_path refl (ring R [] (search quote depth 40) refl);
    h_zer = refl;
    h_one = refl;
  }

  pub y_sq : y ⊗ y ≡ ι f
  unfolding quad pr
  y_sq = two_path (ring R (f ∷ []) (search quote depth 40) refl) (ring R (f ∷ []) (search quote depth 40) refl)

  unfoldable pub norm : S → A
  norm x = rea x * rea x - f * (ima x * ima x)

  unfoldable pub conj : S → S
  conj x = pr (rea x) (neg (ima x))

  pub norm_conj : (x : S) → x ⊗ conj x ≡ ι (norm x)
  unfolding norm conj quad pr rea ima
  norm_conj x = two_path (ring R (rea x ∷ ima x ∷ f ∷ []) (search quote depth 40) refl) (ring R (rea x ∷ ima x ∷ f ∷ []) (search quote depth 40) refl)

  pub conj_mul : (x z : S) → conj (x ⊗ z) ≡ conj x ⊗ conj z
  unfolding quad pr rea ima conj
  conj_mul x z = two_path (ring R (x.re ∷ x.im ∷ z.re ∷ z.im ∷ f ∷ []) (search quote depth 40) refl)
      (ring R (x.re ∷ x.im ∷ z.re ∷ z.im ∷ f ∷ []) (search quote depth 40) refl)

  pub conj_conj : (x : S) → conj (conj x) ≡ x
  unfolding quad pr rea ima conj
  conj_conj x = two_path refl (neg_neg R x.im)

  pub re_scaled : (u : A) (x : S) → rea (ι u ⊗ x) ≡ rea x * u
  unfolding quad pr rea
  re_scaled u x = ring R (u ∷ f ∷ x.re ∷ x.im ∷ []) (search quote depth 40) refl
