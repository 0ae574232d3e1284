-- Division of lists by a monic polynomial is division in K[x]. Gives: `divided`, that `quotient` and `remainder` are those of
-- poly.Divide; the remainder has the divisor's length; `exact`, the quotient of a multiple; `no_rest`, that a multiple leaves nothing; `own_rest`,
-- that what is too short to be divided is its own remainder.
use Prim.Native.Nat.{ℕ, suc}
use mathlib.Core.Path.{◌≡◌, refl, sym, ap, ap₂, ◌∙◌, subst}
use mathlib.Core.List.{List, [], ◌∷◌}
use native.Mathlib.Omega.{arith}
use lib.ListN.{length, replicate, length-replicate}
use Rattle.algebra.proofs.Ring.CRing.{CRing, add_zer}
use Rattle.algebra.proofs.Ring.Quote.{ring, quote, by}
use Rattle.algebra.proofs.Poly.Series.{Ser}
use Rattle.algebra.proofs.Poly.Bound.{Below}
use Rattle.algebra.proofs.Poly.Poly.{poly, coef, coef_zer}
use Rattle.algebra.proofs.Poly.Term.{C, X}
use Rattle.algebra.proofs.Poly.Divide.{Division, quotient_unique, remainder_unique}
use Rattle.algebra.proofs.List.Ops.{add_l, scale_l, neg_l, slide, divmod, quotient, remainder}
use Rattle.algebra.proofs.List.Value.{pol, mon, pol_nil, pol_cons, mon_nil, mon_cons, pol_add, pol_scale, pol_neg, pol_zeros, length_neg, length_scale, length_add, pol_below, mon_monic, pol_inj}

-- one step of the division, in any ring: w is the power of x of the divisor b + w
module _ (R : CRing) where
  open R use {El as A, add as ◌+◌, mul as ◌*◌, neg, one as 𝟙}

  infixl 65 ◌+◌
  infixl 70 ◌*◌
  step : (a x l q b w r s c : A) → l ≡ q * (b + w) + r → a + x * r ≡ s + w * c → a + x * l ≡ (c + x * q) * (b + w) + (s + neg (c * b))
  step a x l q b w r s c h k = by R x h (by R 𝟙 k (ring R (a ∷ x ∷ l ∷ q ∷ b ∷ w ∷ r ∷ s ∷ c ∷ []) (search quote depth 40) refl))

module _ (F : CRing) where
  open F use {El as A}
  open poly F use {El as P, add as ◌+◌, mul as ◌*◌, neg, zer as 0P, one as 1P}

  infixl 65 ◌+◌
  infixl 70 ◌*◌
  -- x^d, for a list of length d
  power : List A → P
  power [] = 1P
  power (a ∷ l) = X F * power l

  mon_split : (m : List A) → mon F m ≡ pol F m + power m
  unfolding power
  mon_split [] = mon_nil F ∙ sym (ap (λ t. t + 1P) (pol_nil F) ∙ (poly F).zer_add 1P)
  mon_split (a ∷ m) = mon_cons F a m ∙ ap (λ t. C F a + X F * t) (mon_split m) ∙ ring (poly F) (C F a ∷ X F ∷ pol F m ∷ power m ∷ []) (search quote depth 40) refl
      ∙ ap (λ t. t + X F * power m) (sym (pol_cons F a m))

  power_len : (l m : List A) → length l ≡ length m → power l ≡ power m
  unfolding power
  power_len [] [] e = refl
  power_len [] (y ∷ m) e = absurd (omega arith)
  power_len (x ∷ l) [] e = absurd (omega arith)
  power_len (x ∷ l) (y ∷ m) e = ap (λ t. X F * t) (power_len l m (omega arith))

  length_slide : (a : A) (r : List A) → length (slide F a r).0 ≡ length r
  unfolding slide
  length_slide a [] = refl
  length_slide a (x ∷ r) = ap suc (length_slide x r)

  slide_is : (a : A) (r : List A) → C F a + X F * pol F r ≡ pol F (slide F a r).0 + power r * C F (slide F a r).1
  unfolding slide power
  slide_is a [] = rw (pol_nil F) (ring (poly F) (C F a ∷ X F ∷ []) (search quote depth 40) refl)
  slide_is a (x ∷ r) = ap (λ t. C F a + X F * t) (pol_cons F x r ∙ slide_is x r)
      ∙ ring (poly F) (C F a ∷ X F ∷ pol F (slide F x r).0 ∷ power r ∷ C F (slide F x r).1 ∷ []) (search quote depth 40) refl
      ∙ ap (λ t. t + X F * power r * C F (slide F x r).1) (sym (pol_cons F a (slide F x r).0))

  -- s - c m
  less_is : (c : A) (s m : List A) → pol F (add_l F s (neg_l F (scale_l F c m))) ≡ pol F s + neg (C F c * pol F m)
  less_is c s m = pol_add F s (neg_l F (scale_l F c m)) ∙ ap (λ t. pol F s + t) (pol_neg F (scale_l F c m) ∙ ap neg (pol_scale F c m))

  length_divmod : (m l : List A) → length (divmod F m l).1 ≡ length m
  unfolding divmod
  length_divmod m [] = length-replicate (length m) F.zer
  length_divmod m (a ∷ l) =
      let s : List A × A = slide F a (divmod F m l).1 in
      let same : length s.0 ≡ length m = length_slide a (divmod F m l).1 ∙ length_divmod m l in
      length_add F s.0 (neg_l F (scale_l F s.1 m)) (length_neg F (scale_l F s.1 m) ∙ length_scale F s.1 m ∙ sym same) ∙ same

  divmod_is : (m l : List A) → pol F l ≡ pol F (divmod F m l).0 * (pol F m + power m) + pol F (divmod F m l).1
  unfolding divmod
  divmod_is m [] = pol_nil F ∙ ring (poly F) (pol F m ∷ power m ∷ []) (search quote depth 40) refl
      ∙ sym (ap₂ (λ s t. s * (pol F m + power m) + t) (pol_nil F) (pol_zeros F (length m)))
  divmod_is m (a ∷ l) =
      pol_cons F a l
      ∙ step (poly F) (C F a) (X F) (pol F l) (pol F q) (pol F m) (power m) (pol F r) (pol F s) (C F c) (divmod_is m l)
      (slide_is a r ∙ ap (λ t. pol F s + t * C F c) (power_len r m (length_divmod m l)))
      ∙ sym (ap₂ (λ t z. t * (pol F m + power m) + z) (pol_cons F c q) (less_is c s m))
    where
      q : List A
      q = (divmod F m l).0

      r : List A
      r = (divmod F m l).1

      s : List A
      s = (slide F a r).0

      c : A
      c = (slide F a r).1

  -- ---- what is used above
  pub length_remainder : (m l : List A) → length (remainder F m l) ≡ length m
  unfolding remainder
  length_remainder m l = length_divmod m l

  pub divided : (m l : List A) → pol F l ≡ pol F (quotient F m l) * mon F m + pol F (remainder F m l)
  unfolding quotient remainder
  divided m l = divmod_is m l ∙ ap (λ t. pol F (divmod F m l).0 * t + pol F (divmod F m l).1) (sym (mon_split m))

  rest_below : (m l : List A) → Below F (length m) (coef F (pol F (remainder F m l)))
  rest_below m l = subst (λ (n : ℕ). Below F n (coef F (pol F (remainder F m l)))) (length_remainder m l) (pol_below F (remainder F m l))

  abbrev division : (m l : List A) → Division F (length m) (mon F m) (pol F l)
  division m l = record { quotient = pol F (quotient F m l); remainder = pol F (remainder F m l); is = divided m l; short = rest_below m l }

  -- of a multiple of m: e, and nothing
  whole_division : (m l : List A) (e : P) → pol F l ≡ e * mon F m → Division F (length m) (mon F m) (pol F l)
  whole_division m l e h = record { quotient = e; remainder = 0P; is = h ∙ sym (add_zer (poly F) (e * mon F m)); short = λ k i. ap (λ (s : Ser F). s k) (coef_zer F) }

  pub exact : (m l : List A) (e : P) → pol F l ≡ e * mon F m → pol F (quotient F m l) ≡ e
  unfolding whole_division
  exact m l e h = quotient_unique F (length m) (mon F m) (pol F l) (mon_monic F m) (division m l) (whole_division m l e h)

  pub no_rest : (m l : List A) (e : P) → pol F l ≡ e * mon F m → remainder F m l ≡ replicate (length m) F.zer
  unfolding whole_division
  no_rest m l e h = pol_inj F (remainder F m l) (replicate (length m) F.zer) (length_remainder m l ∙ sym (length-replicate (length m) F.zer))
      (remainder_unique F (length m) (mon F m) (pol F l) (mon_monic F m) (division m l) (whole_division m l e h) ∙ sym (pol_zeros F (length m)))

  pub own_rest : (m l : List A) → length l ≡ length m → remainder F m l ≡ l
  own_rest m l e = pol_inj F (remainder F m l) l (length_remainder m l ∙ sym e) (remainder_unique F (length m) (mon F m) (pol F l) (mon_monic F m) (division m l) whole)
    where
      whole : Division F (length m) (mon F m) (pol F l)
      whole = record { quotient = 0P; remainder = pol F l; is = ring (poly F) (mon F m ∷ pol F l ∷ []) (search quote depth 40) refl; short = subst (λ (n : ℕ). Below F n (coef F (pol F l))) e (pol_below F l) }
