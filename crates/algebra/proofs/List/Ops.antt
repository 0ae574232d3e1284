-- Polynomials to calculate with: lists of coefficients, the constant's first. A monic polynomial x^d + .. is the list of its d lower
-- coefficients, its leading 1 isn't stored. Gives: sum, product, opposite, derivative; division by a monic polynomial; the leading
-- coefficient; Euclid's algorithm with its two cofactors. Sums and division ask for a ring, Euclid for an `Arith`.
-- Shut (`unfoldable`): all of it. What the lists mean in K[x] is in list.Value, list.Division and list.Euclid.
use Prim.Native.Nat.{ℕ, zero, suc}
use mathlib.Core.List.{List, [], ◌∷◌, ◌++◌, map}
use mathlib.Core.Bool.{Bool, true, false}
use lib.ListN.{length, replicate}
use Rattle.algebra.proofs.Ring.CRing.{CRing}
use Rattle.algebra.proofs.Ring.Field.{Arith}

module _ (F : CRing) where
  open F use {El as A, add as ◌⊞◌, mul as ◌⊠◌, neg, zer as 𝟘, one as 𝟙}

  infixl 65 ◌⊞◌
  infixl 70 ◌⊠◌
  unfoldable pub add_l : List A → List A → List A
  add_l [] m = m
  add_l (a ∷ l) [] = a ∷ l
  add_l (a ∷ l) (b ∷ m) = (a ⊞ b) ∷ add_l l m

  unfoldable pub scale_l : A → List A → List A
  scale_l c l = map (λ a. c ⊠ a) l

  unfoldable pub mul_l : List A → List A → List A
  unfolding add_l scale_l
  mul_l [] m = []
  mul_l (a ∷ l) m = add_l (scale_l a m) (𝟘 ∷ mul_l l m)

  unfoldable pub neg_l : List A → List A
  neg_l l = map neg l

  -- (a + x p)' = p + x p'
  unfoldable pub der_l : List A → List A
  unfolding add_l
  der_l [] = []
  der_l (a ∷ l) = add_l l (𝟘 ∷ der_l l)

  -- a monic polynomial, its leading 1 written out
  unfoldable pub whole : List A → List A
  whole m = m ++ (𝟙 ∷ [])

  -- ---- division by a monic polynomial
  -- a in front, and the last one out
  unfoldable pub slide : A → List A → List A × A
  slide a [] = ([], a)
  slide a (x ∷ r) = let s : List A × A = slide x r in (a ∷ s.0, s.1)

  -- quotient, and remainder of m's length
  unfoldable pub divmod : List A → List A → List A × List A
  unfolding slide add_l neg_l scale_l
  divmod m [] = ([], replicate (length m) 𝟘)
  divmod m (a ∷ l) =
      let qr : List A × List A = divmod m l in
      let s : List A × A = slide a qr.1 in
      let c : A = s.1 in
      (c ∷ qr.0, add_l s.0 (neg_l (scale_l c m)))

  unfoldable pub quotient : List A → List A → List A
  unfolding divmod
  quotient m l = (divmod m l).0

  unfoldable pub remainder : List A → List A → List A
  unfolding divmod
  remainder m l = (divmod m l).1

module _ (K : Arith) where
  open K use {base as F}
  open F use {El as A, mul as ◌⊠◌, zer as 𝟘, one as 𝟙}

  infixl 70 ◌⊠◌
  -- are all coefficients 0?
  unfoldable pub is_zero : List A → Bool
  is_zero [] = true
  is_zero (a ∷ l) = elim (K.dec a 𝟘) [ yes e ↦ is_zero l | no n ↦ false ]

  -- c times the monic polynomial m, or nothing
  pub data Top : Type 0 where
    null : Top
    lead : A → List A → Top

  unfoldable pub top_step : A → Top → Top
  top_step a null = elim (K.dec a 𝟘) [ yes e ↦ null | no n ↦ lead a [] ]
  top_step a (lead c m) = lead c ((K.inv c ⊠ a) ∷ m)

  unfoldable pub top : List A → Top
  unfolding top_step
  top [] = null
  top (a ∷ l) = top_step a (top l)

  unfoldable pub low : Top → List A
  low null = []
  low (lead c m) = m

  -- made monic
  unfoldable pub monic : List A → List A
  unfolding low top
  monic l = low (top l)

  -- ---- Euclid: d monic, d = s m + t b
  pub record Bezout : Type 0 where
    pub d : List A
    pub s : List A
    pub t : List A

  unfoldable pub last : List A → Bezout
  last m = record { d = m; s = 𝟙 ∷ []; t = [] }

  unfoldable pub turn : A → List A → Bezout → Bezout
  unfolding mul_l add_l neg_l scale_l
  turn c q x = record { d = x.d; s = x.t; t = scale_l F (K.inv c) (add_l F x.s (neg_l F (mul_l F x.t q))) }

  unfoldable pub euclid : ℕ → List A → List A → Bezout
  unfolding top quotient remainder whole last turn
  euclid zero m b = last m
  euclid (suc n) m b = elim (top b) [ null ↦ last m | lead c r ↦ turn c (quotient F r (whole F m)) (euclid n r (remainder F r (whole F m))) ]

  -- the greatest common divisor of a monic polynomial m and any b
  unfoldable pub gcd : List A → List A → Bezout
  unfolding euclid
  gcd m b = euclid (length b) m b
