-- Division by a monic polynomial, over any commutative ring. Gives: `Division d u p`, quotient and remainder of p by u of degree d,
-- with p = quotient · u + remainder and a short remainder; that there is one (`divide`) and only one (`quotient_unique`,
-- `remainder_unique`); that a multiple of u shorter than u is zero, and that u cancels.
use Prim.Native.Nat.{ℕ, zero, suc, ◌+◌, ◌-◌, ◌≤◌, zero-le}
use mathlib.Core.Path.{◌≡◌, refl, sym, ap, ap₂, ◌∙◌}
use mathlib.Core.List.{[], ◌∷◌}
use mathlib.Core.Logic.{∥∥₁_elim}
use native.Mathlib.Omega.{arith}
use native.Mathlib.Decide.{ℕ_discrete, dec_le}
use Rattle.algebra.proofs.Ring.CRing.{CRing, eq_of_sub}
use Rattle.algebra.proofs.Ring.Quote.{ring, quote, by}
use Rattle.algebra.proofs.Poly.Bound.{Below, lead_mul, Monic}
use Rattle.algebra.proofs.Poly.Poly.{poly, coef, coef_bounded, poly_ext, coef_add, coef_mul, coef_neg, coef_zer}
use Rattle.algebra.proofs.Poly.Term.{at, term, coef_shift}

module _ (F : CRing) where
  open F use {El as A, add as ◌⊕◌, mul as ◌⊗◌, neg, zer as 𝟘}

  infixl 65 ◌⊕◌
  infixl 70 ◌⊗◌
  open poly F use {El as Po, add as ◌+P◌, mul as ◌*P◌, neg as negP, zer as 0P, one as 1P}

  infixl 65 ◌+P◌
  infixl 70 ◌*P◌
  -- a multiple of a monic polynomial of degree d that is shorter than d is zero
  short_go : (d n : ℕ) (u z : Po) → Monic F d (coef F u) → Below F d (coef F (u *P z)) → Below F n (coef F z) → z ≡ 0P
  short_go d zero u z m h b = poly_ext F (λ k. b k zero-le ∙ sym (at F (coef_zer F) k))
  short_go d (suc n) u z m h b = short_go d n u z m h (λ k l. go k l (ℕ_discrete k n))
    where
      top : coef F z n ≡ 𝟘
      top = sym (F.one-mul (coef F z n)) ∙ ap (λ t. t ⊗ coef F z n) (sym m.top) ∙ sym (lead_mul F d n (d + n) (coef F u) (coef F z) m.below b refl)
          ∙ sym (at F (coef_mul F u z) (d + n)) ∙ h (d + n) (omega arith)

      go : (k : ℕ) → n ≤ k → Dec (k ≡ n) → coef F z k ≡ 𝟘
      go k l (yes e) = ap (coef F z) e ∙ top
      go k l (no e) = b k (omega arith)

  pub short_multiple : (d : ℕ) (u z : Po) → Monic F d (coef F u) → Below F d (coef F (u *P z)) → z ≡ 0P
  short_multiple d u z m h = ∥∥₁_elim (coef_bounded F z) ((poly F).is_set z 0P) (λ (w : (n : ℕ) × Below F n (coef F z)). short_go d w.0 u z m h w.1)

  pub monic_cancel : (d : ℕ) (u x y : Po) → Monic F d (coef F u) → u *P x ≡ u *P y → x ≡ y
  monic_cancel d u x y m e = eq_of_sub (poly F) x y (short_multiple d u (x +P negP y) m (λ k l. at F (ap (coef F) zero_is ∙ coef_zer F) k))
    where
      zero_is : u *P (x +P negP y) ≡ 0P
      zero_is = by (poly F) 1P e (ring (poly F) (u ∷ x ∷ y ∷ []) (search quote depth 40) refl)

  -- ---- quotient and remainder by u, monic of degree d
  pub record Division (d : ℕ) (u p : Po) : Type 0 where
    pub quotient : Po
    pub remainder : Po
    pub is : p ≡ quotient *P u +P remainder
    pub short : Below F d (coef F remainder)

  -- one step: the leading term c x^n of p goes, n being at least d
  falls : (d n : ℕ) (u p : Po) → Monic F d (coef F u) → d ≤ n → Below F (suc n) (coef F p) → Below F n (coef F (p +P negP (term F (coef F p n) (n - d) *P u)))
  falls d n u p m l b k g = at F (coef_add F p (negP (term F c (n - d) *P u))) k
      ∙ ap (λ t. coef F p k ⊕ t) (at F (coef_neg F (term F c (n - d) *P u)) k ∙ ap neg shifted) ∙ go (ℕ_discrete k n)
    where
      c : A
      c = coef F p n

      shifted : coef F (term F c (n - d) *P u) k ≡ c ⊗ coef F u (k - (n - d))
      shifted = ap (coef F (term F c (n - d) *P u)) {x = k} {y = n - d + (k - (n - d))} (omega arith) ∙ coef_shift F c (n - d) (k - (n - d)) u

      go : Dec (k ≡ n) → coef F p k ⊕ neg (c ⊗ coef F u (k - (n - d))) ≡ 𝟘
      go (yes e) = ap₂ (λ s t. s ⊕ neg (c ⊗ t)) (ap (coef F p) e) (ap (coef F u) {x = k - (n - d)} {y = d} (omega arith) ∙ m.top) ∙ ring F (c ∷ []) (search quote depth 40) refl
      go (no e) = ap₂ (λ s t. s ⊕ neg (c ⊗ t)) (b k (omega arith)) (m.below (k - (n - d)) (omega arith)) ∙ ring F (c ∷ []) (search quote depth 40) refl

  pub divide : (d n : ℕ) (u p : Po) → Monic F d (coef F u) → Below F n (coef F p) → Division d u p
  divide d zero u p m b = record { quotient = 0P; remainder = p; is = ring (poly F) (p ∷ u ∷ []) (search quote depth 40) refl; short = λ k l. b k zero-le }
  divide d (suc n) u p m b = go (dec_le d n) (λ l. divide d n u (p +P negP (term F (coef F p n) (n - d) *P u)) m (falls d n u p m l b))
    where
      go : Dec (d ≤ n) → (d ≤ n → Division d u (p +P negP (term F (coef F p n) (n - d) *P u))) → Division d u p
      go (no l) rec = record { quotient = 0P; remainder = p; is = ring (poly F) (p ∷ u ∷ []) (search quote depth 40) refl; short = λ k g. b k (omega arith) }
      go (yes l) rec = let x : Division d u (p +P negP (term F (coef F p n) (n - d) *P u)) = rec l in record {
        quotient = term F (coef F p n) (n - d) +P x.quotient;
        remainder = x.remainder;
        is = by (poly F) 1P x.is (ring (poly F) (p ∷ u ∷ term F (coef F p n) (n - d) ∷ x.quotient ∷ x.remainder ∷ []) (search quote depth 40) refl);
        short = x.short;
      }

  -- there is one answer
  pub quotient_unique : (d : ℕ) (u p : Po) → Monic F d (coef F u) → (x y : Division d u p) → x.quotient ≡ y.quotient
  quotient_unique d u p m x y = eq_of_sub (poly F) x.quotient y.quotient
      (short_multiple d u (x.quotient +P negP y.quotient) m
      (λ k l. at F (ap (coef F) diff) k ∙ at F (coef_add F y.remainder (negP x.remainder)) k
      ∙ ap₂ ◌⊕◌ (y.short k l) (at F (coef_neg F x.remainder) k ∙ ap neg (x.short k l)) ∙ ring F [] (search quote depth 40) refl))
    where
      diff : u *P (x.quotient +P negP y.quotient) ≡ y.remainder +P negP x.remainder
      diff = by (poly F) 1P y.is (by (poly F) (negP 1P) x.is
          (ring (poly F) (u ∷ p ∷ x.quotient ∷ y.quotient ∷ x.remainder ∷ y.remainder ∷ []) (search quote depth 40) refl))

  pub remainder_unique : (d : ℕ) (u p : Po) → Monic F d (coef F u) → (x y : Division d u p) → x.remainder ≡ y.remainder
  remainder_unique d u p m x y = by (poly F) (negP u) (quotient_unique d u p m x y)
      (by (poly F) (negP 1P) x.is (by (poly F) 1P y.is (ring (poly F) (u ∷ p ∷ x.quotient ∷ y.quotient ∷ x.remainder ∷ y.remainder ∷ []) (search quote depth 40) refl)))
