-- What a list of coefficients means in K[x]. Gives: `pol l`, the polynomial with the coefficients l, and `mon m`, the monic one with the lower
-- coefficients m; the operations of list.Ops as operations of K[x]; bounds; that lists of one length with one meaning are equal.
-- Shut (`unfoldable`): `pol`, `mon`.
use Prim.Native.Nat.{ℕ, zero, suc, ◌≤◌, ◌<◌}
use mathlib.Core.Path.{◌≡◌, refl, sym, ap, ap₂, ◌∙◌}
use mathlib.Core.List.{List, [], ◌∷◌, ◌++◌}
use native.Mathlib.Omega.{arith}
use lib.ListN.{get_or, length, replicate, length-map, length-append, get_or-eq_default, get_or-append}
use lib.Seq.{get_or_at}
use Rattle.algebra.proofs.Ring.CRing.{CRing, add_zer}
use Rattle.algebra.proofs.Ring.Quote.{ring, quote}
use Rattle.algebra.proofs.Poly.Series.{con}
use Rattle.algebra.proofs.Poly.Bound.{Below, Monic}
use Rattle.algebra.proofs.Poly.Poly.{poly, coef, mk, coef_mk, poly_ext, coef_add, coef_zer}
use Rattle.algebra.proofs.Poly.Term.{at, C, X, constants, coef_C, coef_X_zero, coef_X_suc}
use Rattle.algebra.proofs.List.Ops.{add_l, scale_l, mul_l, neg_l, whole}

module _ (F : CRing) where
  open F use {El as A, add as ◌⊞◌, zer as 𝟘, one as 𝟙}

  infixl 65 ◌⊞◌
  open poly F use {El as P, add as ◌+◌, mul as ◌*◌, neg, zer as 0P, one as 1P}

  infixl 65 ◌+◌
  infixl 70 ◌*◌
  pub beyond : (l : List A) (n : ℕ) → length l ≤ n → get_or l n 𝟘 ≡ 𝟘
  beyond l n g = get_or-eq_default l 𝟘 g

  -- the coefficient at n is the list's, and 0 past its end
  unfoldable pub pol : List A → P
  pol l = mk F (length l) (λ n. get_or l n 𝟘) (beyond l)

  unfoldable pub mon : List A → P
  unfolding pol whole
  mon m = pol (whole F m)

  pub coef_pol : (l : List A) (n : ℕ) → coef F (pol l) n ≡ get_or l n 𝟘
  unfolding pol
  coef_pol l n = at F (coef_mk F (beyond l)) n

  pub pol_below : (l : List A) → Below F (length l) (coef F (pol l))
  pol_below l n g = coef_pol l n ∙ beyond l n g

  -- ---- by the first coefficient: a0 + x (a1 + x (..))
  pub pol_nil : pol [] ≡ 0P
  pol_nil = poly_ext F (λ n. coef_pol [] n ∙ sym (at F (coef_zer F) n))

  pub pol_cons : (a : A) (l : List A) → pol (a ∷ l) ≡ C F a + X F * pol l
  unfolding con
  pol_cons a l = poly_ext F (λ n. coef_pol (a ∷ l) n ∙ sym (at F (coef_add F (C F a) (X F * pol l)) n ∙ ap (λ t. t ⊞ coef F (X F * pol l) n) (at F (coef_C F a) n) ∙ go n))
    where
      go : (n : ℕ) → con F a n ⊞ coef F (X F * pol l) n ≡ get_or (a ∷ l) n 𝟘
      go zero = ap (λ t. a ⊞ t) (coef_X_zero F (pol l)) ∙ add_zer F a
      go (suc n) = ap (λ t. 𝟘 ⊞ t) (coef_X_suc F (pol l) n ∙ coef_pol l n) ∙ F.zer_add (get_or l n 𝟘)

  pub pol_whole : (m : List A) → pol (whole F m) ≡ mon m
  unfolding mon
  pol_whole m = refl

  pub mon_nil : mon [] ≡ 1P
  unfolding mon whole
  mon_nil = pol_cons 𝟙 [] ∙ ap₂ (λ s t. s + X F * t) (constants F).h_one pol_nil ∙ ring (poly F) (X F ∷ []) (search quote depth 40) refl

  pub mon_cons : (a : A) (m : List A) → mon (a ∷ m) ≡ C F a + X F * mon m
  unfolding mon whole
  mon_cons a m = pol_cons a (whole F m)

  -- ---- the operations
  pub pol_add : (l m : List A) → pol (add_l F l m) ≡ pol l + pol m
  unfolding add_l
  pol_add [] m = sym (ap (λ t. t + pol m) pol_nil ∙ (poly F).zer_add (pol m))
  pol_add (a ∷ l) [] = sym (ap (λ t. pol (a ∷ l) + t) pol_nil ∙ add_zer (poly F) (pol (a ∷ l)))
  pol_add (a ∷ l) (b ∷ m) = pol_cons (a ⊞ b) (add_l F l m) ∙ ap₂ (λ s t. s + X F * t) ((constants F).h_add a b) (pol_add l m)
      ∙ ring (poly F) (C F a ∷ C F b ∷ X F ∷ pol l ∷ pol m ∷ []) (search quote depth 40) refl
      ∙ sym (ap₂ ◌+◌ (pol_cons a l) (pol_cons b m))

  pub pol_scale : (c : A) (l : List A) → pol (scale_l F c l) ≡ C F c * pol l
  unfolding scale_l
  pol_scale c [] = rw pol_nil (ring (poly F) (C F c ∷ []) (search quote depth 40) refl)
  pol_scale c (a ∷ l) = pol_cons (F.mul c a) (scale_l F c l) ∙ ap₂ (λ s t. s + X F * t) ((constants F).h_mul c a) (pol_scale c l)
      ∙ ring (poly F) (C F c ∷ C F a ∷ X F ∷ pol l ∷ []) (search quote depth 40) refl
      ∙ sym (ap (λ t. C F c * t) (pol_cons a l))

  pub pol_neg : (l : List A) → pol (neg_l F l) ≡ neg (pol l)
  unfolding neg_l
  pol_neg [] = rw pol_nil (ring (poly F) [] (search quote depth 40) refl)
  pol_neg (a ∷ l) = pol_cons (F.neg a) (neg_l F l) ∙ ap₂ (λ s t. s + X F * t) ((constants F).h_neg a) (pol_neg l)
      ∙ ring (poly F) (C F a ∷ X F ∷ pol l ∷ []) (search quote depth 40) refl
      ∙ sym (ap neg (pol_cons a l))

  pub pol_mul : (l m : List A) → pol (mul_l F l m) ≡ pol l * pol m
  unfolding mul_l
  pol_mul [] m = rw pol_nil (ring (poly F) (pol m ∷ []) (search quote depth 40) refl)
  pol_mul (a ∷ l) m = pol_add (scale_l F a m) (𝟘 ∷ mul_l F l m)
      ∙ ap₂ ◌+◌ (pol_scale a m) (pol_cons 𝟘 (mul_l F l m) ∙ ap₂ (λ s t. s + X F * t) (constants F).h_zer (pol_mul l m))
      ∙ ring (poly F) (C F a ∷ X F ∷ pol l ∷ pol m ∷ []) (search quote depth 40) refl
      ∙ sym (ap (λ t. t * pol m) (pol_cons a l))

  pub pol_zeros : (n : ℕ) → pol (replicate n 𝟘) ≡ 0P
  pol_zeros zero = pol_nil
  pol_zeros (suc n) = pol_cons 𝟘 (replicate n 𝟘) ∙ ap₂ (λ s t. s + X F * t) (constants F).h_zer (pol_zeros n) ∙ ring (poly F) (X F ∷ []) (search quote depth 40) refl

  -- ---- lengths
  pub length_neg : (l : List A) → length (neg_l F l) ≡ length l
  unfolding neg_l
  length_neg l = length-map l F.neg

  pub length_scale : (c : A) (l : List A) → length (scale_l F c l) ≡ length l
  unfolding scale_l
  length_scale c l = length-map l (F.mul c)

  pub length_add : (l m : List A) → length m ≡ length l → length (add_l F l m) ≡ length l
  unfolding add_l
  length_add [] m e = e
  length_add (a ∷ l) [] e = refl
  length_add (a ∷ l) (b ∷ m) e = ap suc (length_add l m (omega arith))

  -- ---- monic ones
  pub mon_monic : (m : List A) → Monic F (length m) (coef F (mon m))
  unfolding mon whole
  mon_monic m = record {
    below = λ k l. pol_below (m ++ (𝟙 ∷ [])) k (omega (arith, length-append m (𝟙 ∷ [])));
    top = coef_pol (m ++ (𝟙 ∷ [])) (length m) ∙ get_or_at m 𝟙 [] 𝟘 (length m) refl;
  }

  -- the lower coefficients of a monic one
  pub coef_mon : (m : List A) (k : ℕ) → k < length m → coef F (mon m) k ≡ get_or m k 𝟘
  unfolding mon whole
  coef_mon m k l = coef_pol (m ++ (𝟙 ∷ [])) k ∙ get_or-append m (𝟙 ∷ []) 𝟘 k l

  -- ---- lists of one length with one meaning are equal
  same_at : (l m : List A) → length l ≡ length m → ((k : ℕ) → k < length l → get_or l k 𝟘 ≡ get_or m k 𝟘) → l ≡ m
  same_at [] [] e h = refl
  same_at [] (b ∷ m) e h = absurd (omega arith)
  same_at (a ∷ l) [] e h = absurd (omega arith)
  same_at (a ∷ l) (b ∷ m) e h = ap₂ ◌∷◌ (h 0 (omega arith)) (same_at l m (omega arith) (λ k i. h (suc k) (omega arith)))

  pub pol_inj : (l m : List A) → length l ≡ length m → pol l ≡ pol m → l ≡ m
  pol_inj l m e h = same_at l m e (λ k i. sym (coef_pol l k) ∙ ap (λ (t : P). coef F t k) h ∙ coef_pol m k)

  pub mon_inj : (l m : List A) → length l ≡ length m → mon l ≡ mon m → l ≡ m
  mon_inj l m e h = same_at l m e (λ k i. sym (coef_mon l k i) ∙ ap (λ (t : P). coef F t k) h ∙ coef_mon m k (omega arith))
