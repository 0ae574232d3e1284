-- How far a series goes. Gives: `Below n p`, nothing from place n on (degree below n), for sums, opposites, constants and products;
-- the leading coefficient of a product; and `Monic n p`, degree n with leading coefficient 1.
-- Open: `Below`, so that a bound is used by applying it to a place.
use Prim.Native.Nat.{ℕ, zero, suc, ◌+◌, ◌-◌, ◌≤◌, zero-le}
use mathlib.Core.Path.{◌≡◌, refl, ap, ap₂, ◌∙◌, fun_ext}
use native.Mathlib.Omega.{arith}
use Rattle.algebra.proofs.Ring.CRing.{CRing, mul_zer, neg_zer}
use Rattle.algebra.proofs.Poly.Series.{Ser, tail, add_s, neg_s, con, mul_s, zer_mulS, con_mulS}

module _ (F : CRing) where
  open F use {El as A, add as ◌⊕◌, mul as ◌⊗◌, neg, zer as 𝟘, one as 𝟙, zer_add}

  infixl 65 ◌⊕◌
  infixl 70 ◌⊗◌
  -- degree < n
  abbrev pub Below : ℕ → Ser F → Type 0
  Below n p = (k : ℕ) → n ≤ k → p k ≡ 𝟘

  pub below_mono : {m n : ℕ} {p : Ser F} → m ≤ n → Below m p → Below n p
  below_mono le h k g = h k (omega arith)

  pub below_tail : {n : ℕ} {p : Ser F} → Below (suc n) p → Below n (tail F p)
  below_tail h k g = h (suc k) (omega arith)

  pub below_add : {m : ℕ} {p q : Ser F} → Below m p → Below m q → Below m (add_s F p q)
  below_add h g k l = ap₂ ◌⊕◌ (h k l) (g k l) ∙ zer_add 𝟘

  pub below_neg : {m : ℕ} {p : Ser F} → Below m p → Below m (neg_s F p)
  below_neg h k l = ap neg (h k l) ∙ neg_zer F

  pub below_con : (c : A) → Below 1 (con F c)
  unfolding con
  below_con c zero l = absurd (omega arith)
  below_con c (suc k) l = refl

  -- a product has one coefficient less than both together
  pub below_mul : (m n : ℕ) (p q : Ser F) → Below m p → Below n q → Below (m + n - 1) (mul_s F p q)
  unfolding mul_s
  below_mul zero n p q h g k l = ap (λ (t : Ser F). mul_s F t q k) (fun_ext (λ i. h i zero-le)) ∙ zer_mulS F q k
  below_mul (suc m) n p q h g zero l = ap (λ t. p zero ⊗ t) (g zero (omega arith)) ∙ mul_zer F (p zero)
  below_mul (suc m) n p q h g (suc k) l =
      ap₂ ◌⊕◌ (ap (λ t. p zero ⊗ t) (g (suc k) (omega arith)) ∙ mul_zer F (p zero)) (below_mul m n (tail F p) q (below_tail h) g k (omega arith))
      ∙ zer_add 𝟘

  -- the leading coefficient of a product
  pub lead_mul : (m n k : ℕ) (p q : Ser F) → Below (suc m) p → Below (suc n) q → m + n ≡ k → mul_s F p q k ≡ p m ⊗ q n
  unfolding mul_s con
  lead_mul zero n k p q h g e = ap (λ (t : Ser F). mul_s F t q k) (fun_ext is_con) ∙ con_mulS F (p 0) q k ∙ ap (λ j. p 0 ⊗ q j) (omega arith)
    where
      is_con : (i : ℕ) → p i ≡ con F (p 0) i
      is_con zero = refl
      is_con (suc i) = h (suc i) (omega arith)
  lead_mul (suc m) n zero p q h g e = absurd (omega arith)
  lead_mul (suc m) n (suc k) p q h g e = ap₂ ◌⊕◌ (ap (λ t. p zero ⊗ t) (g (suc k) (omega arith)) ∙ mul_zer F (p zero))
      (lead_mul m n k (tail F p) q (below_tail h) g (omega arith)) ∙ zer_add (p (suc m) ⊗ q n)

  pub record Monic (n : ℕ) (p : Ser F) : Type 0 where
    pub below : Below (suc n) p
    pub top : p n ≡ 𝟙

  pub monic_mul : {m n : ℕ} {p q : Ser F} → Monic m p → Monic n q → Monic (m + n) (mul_s F p q)
  monic_mul {m} {n} {p} {q} h g = record {
    below = λ k l. below_mul (suc m) (suc n) p q h.below g.below k (omega arith);
    top = lead_mul m n (m + n) p q h.below g.below refl ∙ ap₂ ◌⊗◌ h.top g.top ∙ F.one-mul 𝟙;
  }
