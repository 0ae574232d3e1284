-- Where the Z of an answer has an inverse, so have r and s1, and with them the affine r, s' = w·r·(x + t) and w: `Shares` is what the affine theorems ask. k is the scale of
-- the first half, r1, t1 and l1 its affine numbers.
use mathlib.Core.Path.{◌≡◌, refl}
use mathlib.Core.List.{[], ◌∷◌}
use Rattle.algebra.proofs.Ring.CRing.{CRing}
use Rattle.algebra.proofs.Ring.Quote.{ring, quote, by}

module _ (F : CRing) where
  open F use {El as A, add as ◌+◌, mul as ◌*◌, neg, one as 𝟙}

  infixl 65 ◌+◌
  infixl 70 ◌*◌
  pub record Shares (z r s1 s0 r1 t1 l1 : A) : Type 0 where
    pub ri : A
    pub w : A
    pub wi : A
    pub t : A
    pub unit_r : r1 * ri ≡ 𝟙
    pub top : r1 * w ≡ t1
    pub low : t1 * t ≡ l1
    pub unit : w * wi ≡ 𝟙
    pub r_is : r ≡ wi * s1
    pub s_is : s0 ≡ t * s1 * z

  -- quotients of what is scaled by k
  quot : (k x x' y y' i : A) → x' ≡ k * x → y' ≡ k * y → x' * i ≡ 𝟙 → x * (y' * i) ≡ y
  quot k x x' y y' i hx hy one = by F (x * i) hy (by F (neg (y * i)) hx (by F y one (ring F (k ∷ x ∷ x' ∷ y ∷ y' ∷ i ∷ []) (search quote depth 40) refl)))

  unscaled : (k x x' i : A) → x' ≡ k * x → x' * i ≡ 𝟙 → x * (k * i) ≡ 𝟙
  unscaled k x x' i hx one = by F (neg i) hx (by F 𝟙 one (ring F (k ∷ x ∷ x' ∷ i ∷ []) (search quote depth 40) refl))

  crossed : (r ri s si : A) → r * ri ≡ 𝟙 → s * si ≡ 𝟙 → s * ri * (r * si) ≡ 𝟙
  crossed r ri s si hr hs = by F (s * si) hr (by F 𝟙 hs (ring F (r ∷ ri ∷ s ∷ si ∷ []) (search quote depth 40) refl))

  back : (x s si : A) → s * si ≡ 𝟙 → x ≡ x * si * s
  back x s si h = by F (neg x) h (ring F (x ∷ s ∷ si ∷ []) (search quote depth 40) refl)

  back_z : (k l s si z p : A) → s * si ≡ 𝟙 → p ≡ k * z * l → p ≡ k * l * si * s * z
  back_z k l s si z p h hp = by F 𝟙 hp (by F (neg (k * l * z)) h (ring F (k ∷ l ∷ s ∷ si ∷ z ∷ p ∷ []) (search quote depth 40) refl))

  module _ (z r s1 R s3 Ra S3 Z zi : A) (h-R : R ≡ z * r) (h-s3 : s3 ≡ s1 * z) (h-Ra : Ra ≡ R * s3) (h-Z : Z ≡ Ra * S3) (one : Z * zi ≡ 𝟙) where
    r_unit : r * (z * s3 * S3 * zi) ≡ 𝟙
    r_unit = by F 𝟙 one (by F (neg zi) h-Z (by F (neg (zi * S3)) h-Ra (by F (neg (zi * S3 * s3)) h-R (ring F (z ∷ r ∷ s1 ∷ R ∷ s3 ∷ Ra ∷ S3 ∷ Z ∷ zi ∷ []) (search quote depth 40) refl))))

    s_unit : s1 * (z * r * z * S3 * zi) ≡ 𝟙
    s_unit = by F 𝟙 one (by F (neg zi) h-Z (by F (neg (zi * S3)) h-Ra (by F (neg (zi * S3 * s3)) h-R (by F (neg (zi * S3 * z * r)) h-s3 (ring F (z ∷ r ∷ s1 ∷ R ∷ s3 ∷ Ra ∷ S3 ∷ Z ∷ zi ∷ []) (search quote depth 40) refl)))))

    pub shares : (k s0 r1 t1 l1 : A) → r ≡ k * r1 → s1 ≡ k * t1 → s0 ≡ k * z * l1 → Shares z r s1 s0 r1 t1 l1
    shares k s0 r1 t1 l1 h-r h-s h-s0 = let ri : A = z * s3 * S3 * zi in let si : A = z * r * z * S3 * zi in record {
      ri = k * ri;
      w = s1 * ri;
      wi = r * si;
      t = k * l1 * si;
      unit_r = unscaled k r1 r ri h-r r_unit;
      top = quot k r1 r t1 s1 ri h-r h-s r_unit;
      low = quot k t1 s1 l1 (k * l1) si h-s refl s_unit;
      unit = crossed r ri s1 si r_unit s_unit;
      r_is = back r s1 si s_unit;
      s_is = back_z k l1 s1 si z s0 s_unit h-s0;
    }
