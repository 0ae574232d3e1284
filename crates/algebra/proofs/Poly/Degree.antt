-- Degrees over a field, and that K[x] has no zero divisors. Gives: `Deg n p` for series, `Degree n p` for polynomials (exactly n: a
-- nonzero coefficient at n and nothing above), of products, opposites and sums; every polynomial is zero or has a degree (`by_deg`);
-- nonzero factors have a nonzero product and cancel; a multiple of u of smaller degree than u is zero (`small`); a factor's degree is at
-- most that of the product (`factor_below`).
-- Open: `Degree`.
use Prim.Native.Nat.{ℕ, zero, suc, ◌+◌, ◌≤◌, ◌<◌, zero-le}
use mathlib.Core.Path.{◌≡◌, refl, sym, ap, ap₂, ◌∙◌, subst, fun_ext}
use mathlib.Core.List.{[], ◌∷◌}
use mathlib.Core.Logic.{◌≢◌, ◌⊎◌, inl, inr, ∥∥₁_elim}
use native.Mathlib.Omega.{arith}
use mathlib.Core.HLevel.{Π_prop}
use native.Mathlib.Decide.{ℕ_discrete, dec_le}
use Rattle.algebra.proofs.Ring.CRing.{mul_zer, zer_mul, mul-one, eq_of_sub}
use Rattle.algebra.proofs.Ring.Quote.{ring, quote, by}
use Rattle.algebra.proofs.Ring.Field.{Field, no_zero_divisors, neg_ne}
use Rattle.algebra.proofs.Poly.Series.{Ser, add_s, neg_s, con, mul_s}
use Rattle.algebra.proofs.Poly.Bound.{Below, below_neg, below_con, below_mul, lead_mul, Monic}
use Rattle.algebra.proofs.Poly.Poly.{poly, coef, coef_bounded, poly_ext, coef_add, coef_neg, coef_mul, coef_zer, coef_one}
use Rattle.algebra.proofs.Poly.Term.{C, coef_C, coef_shift}

module _ (K : Field) where
  open K.arith use {base as F}
  open F use {El as A, add as ◌⊞◌, mul as ◌⊗◌, zer as 𝟘, zer_add}

  infixl 65 ◌⊞◌
  infixl 70 ◌⊗◌
  pub record Deg (n : ℕ) (p : Ser F) : Type 0 where
    pub below : Below F (suc n) p
    pub top : p n ≢ 𝟘

  pub deg_mul : {m n : ℕ} {p q : Ser F} → Deg m p → Deg n q → Deg (m + n) (mul_s F p q)
  deg_mul {m} {n} {p} {q} h g = record {
    below = λ k l. below_mul F (suc m) (suc n) p q h.below g.below k (omega arith);
    top = λ e. no_zero_divisors K (p m) (q n) h.top g.top (sym (lead_mul F m n (m + n) p q h.below g.below refl) ∙ e);
  }

  pub deg_monic : {n : ℕ} {p : Ser F} → Monic F n p → Deg n p
  deg_monic m = record { below = m.below; top = λ e. K.one_ne (sym m.top ∙ e) }

  pub deg_neg : {n : ℕ} {p : Ser F} → Deg n p → Deg n (neg_s F p)
  deg_neg {n} {p} h = record { below = below_neg F h.below; top = neg_ne K (p n) h.top }

  pub deg_add_left : {m n : ℕ} {p q : Ser F} → Below F m p → Deg n q → m ≤ n → Deg n (add_s F p q)
  deg_add_left {m} {n} {p} {q} h g l = record {
    below = λ k i. ap₂ ◌⊞◌ (h k (omega arith)) (g.below k i) ∙ zer_add 𝟘;
    top = λ e. g.top (sym (ap (λ t. t ⊞ q n) (h n l) ∙ zer_add (q n)) ∙ e);
  }

  pub deg_add_right : {m n : ℕ} {p q : Ser F} → Deg n p → Below F m q → m ≤ n → Deg n (add_s F p q)
  deg_add_right {m} {n} {p} {q} g h l = subst (Deg n) (fun_ext (λ k. F.add_comm (q k) (p k))) (deg_add_left h g l)

  -- a bounded series is zero or has a degree
  pub deg_of : (n : ℕ) (p : Ser F) → Below F n p → ((k : ℕ) → p k ≡ 𝟘) ⊎ ((m : ℕ) × Deg m p)
  deg_of zero p h = inl (λ k. h k zero-le)
  deg_of (suc n) p h = go (K.arith.dec (p n) 𝟘) (λ g. deg_of n p g)
    where
      go : Dec (p n ≡ 𝟘) → (Below F n p → ((k : ℕ) → p k ≡ 𝟘) ⊎ ((m : ℕ) × Deg m p)) → ((k : ℕ) → p k ≡ 𝟘) ⊎ ((m : ℕ) × Deg m p)
      go (yes e) rec = rec (λ k l. at k l (ℕ_discrete k n))
        where
          at : (k : ℕ) → n ≤ k → Dec (k ≡ n) → p k ≡ 𝟘
          at k l (yes q) = ap p q ∙ e
          at k l (no q) = h k (omega arith)
      go (no e) rec = inr (n, record { below = h; top = e })

  -- ---- of polynomials
  open poly F use {El as P, add as ◌⊕◌, mul as ◌*◌, neg, zer as 0P, one as 1P}

  infixl 65 ◌⊕◌
  infixl 70 ◌*◌
  abbrev pub Degree : ℕ → P → Type 0
  Degree n p = Deg n (coef F p)

  pub by_deg : {G : Type 0} → IsProp G → (p : P) → (p ≡ 0P → G) → ((m : ℕ) → Degree m p → G) → G
  by_deg {G} hG p z d = ∥∥₁_elim (coef_bounded F p) hG (λ b. go (deg_of b.0 (coef F p) b.1))
    where
      go : ((k : ℕ) → coef F p k ≡ F.zer) ⊎ ((m : ℕ) × Deg m (coef F p)) → G
      go (inl e) = z (poly_ext F (λ k. e k ∙ sym (ap (λ (s : Ser F). s k) (coef_zer F))))
      go (inr (m, h)) = d m h

  pub deg_ne : {n : ℕ} {p : P} → Degree n p → p ≢ 0P
  deg_ne {n} h e = h.top (ap (λ (t : P). coef F t n) e ∙ ap (λ (s : Ser F). s n) (coef_zer F))

  pub degree_mul : {m n : ℕ} (p q : P) → Degree m p → Degree n q → Degree (m + n) (p * q)
  degree_mul {m} {n} p q h g = subst (Deg (m + n)) (sym (coef_mul F p q)) (deg_mul h g)

  pub degree_one : Degree 0 1P
  unfolding con
  degree_one = record {
    below = λ k l. ap (λ (s : Ser F). s k) (coef_one F) ∙ below_con F F.one k l;
    top = λ e. K.one_ne (sym (ap (λ (s : Ser F). s 0) (coef_one F)) ∙ e);
  }

  pub one_ne_zero : 1P ≢ 0P
  one_ne_zero = deg_ne degree_one

  pub mul_ne : (p q : P) → p ≢ 0P → q ≢ 0P → p * q ≢ 0P
  mul_ne p q hp hq e = by_deg (λ (x y : ⊥). absurd x) p hp (λ m dm. by_deg (λ (x y : ⊥). absurd x) q hq (λ n dn. deg_ne (degree_mul p q dm dn) e))

  -- a factor of a nonzero polynomial is nonzero
  pub right_ne : (p q : P) → p * q ≢ 0P → q ≢ 0P
  right_ne p q h e = h (ap (λ t. p * t) e ∙ mul_zer (poly F) p)

  pub cancel : (p a b : P) → p ≢ 0P → p * a ≡ p * b → a ≡ b
  cancel p a b hp e = by_deg ((poly F).is_set a b) (a ⊕ neg b) (λ z. eq_of_sub (poly F) a b z) (λ n dn. absurd (mul_ne p (a ⊕ neg b) hp (deg_ne dn)
      (by (poly F) 1P e (ring (poly F) (p ∷ a ∷ b ∷ []) (search quote depth 40) refl))))

  -- a multiple of u whose degree is below that of u is zero
  pub small : (n : ℕ) (u p e : P) → Degree n u → Below F n (coef F p) → p ≡ e * u → p ≡ 0P
  small n u p e hu hp eq = by_deg ((poly F).is_set p 0P) e (λ z. eq ∙ ap (λ t. t * u) z ∙ zer_mul (poly F) u)
      (λ k dk. absurd ((degree_mul e u dk hu).top (ap (λ (t : P). coef F t (k + n)) (sym eq) ∙ hp (k + n) (omega arith))))

  pub coef_sub : (p q : P) (k : ℕ) → coef F (p ⊕ neg q) k ≡ F.add (coef F p k) (F.neg (coef F q k))
  coef_sub p q k = ap (λ (s : Ser F). s k) (coef_add F p (neg q) ∙ ap (add_s F (coef F p)) (coef_neg F q))

  pub below_sub : {n : ℕ} (p q : P) → Below F n (coef F p) → Below F n (coef F q) → Below F n (coef F (p ⊕ neg q))
  below_sub p q hp hq k l = coef_sub p q k ∙ ap₂ (λ a b. F.add a (F.neg b)) (hp k l) (hq k l) ∙ ring F [] (search quote depth 40) refl

  pub degree_C : (c : A) → c ≢ 𝟘 → Degree 0 (C F c)
  unfolding con
  degree_C c n = record {
    below = λ k l. ap (λ (s : Ser F). s k) (coef_C F c) ∙ below_con F c k l;
    top = λ e. n (sym (ap (λ (s : Ser F). s 0) (coef_C F c)) ∙ e);
  }

  -- ---- degrees and bounds
  pub deg_bound : (n e : ℕ) (s : Ser F) → Deg e s → Below F n s → e < n
  deg_bound n e s d h = go (dec_le n e)
    where
      go : Dec (n ≤ e) → e < n
      go (yes l) = absurd (d.top (h e l))
      go (no l) = omega arith

  below_prop : (n : ℕ) (p : P) → IsProp (Below F n (coef F p))
  below_prop n p = Π_prop (λ k. Π_prop (λ l. F.is_set (coef F p k) 𝟘))

  -- a factor of u has at most u's degree
  pub factor_below : (e : ℕ) (u n s : P) → Degree e u → u ≡ s * n → Below F (suc e) (coef F n)
  factor_below e u n s hu eq = by_deg (below_prop (suc e) n) n
      (λ z k l. ap (λ (t : P). coef F t k) z ∙ ap (λ (t : Ser F). t k) (coef_zer F))
      (λ m dm. by_deg (below_prop (suc e) n) s (λ z. absurd (deg_ne hu (eq ∙ ap (λ t. t * n) z ∙ zer_mul (poly F) n)))
      (λ t dt k l. dm.below k (omega (arith, deg_bound (suc e) (t + m) (coef F (s * n)) (degree_mul s n dt dm) (subst (λ (x : P). Below F (suc e) (coef F x)) eq hu.below)))))

  -- where one monic polynomial is a constant times another, the constant is 1
  pub monic_unit : (n m : ℕ) (p q : P) (c : A) → c ≢ 𝟘 → Monic F n (coef F p) → Monic F m (coef F q) → p ≡ C F c * q → c ≡ F.one
  monic_unit n m p q c nz hp hq e = sym (mul-one F c) ∙ sym (ap (λ t. c ⊗ t) hq.top) ∙ sym (scaled m) ∙ ap (coef F p) same ∙ hp.top
    where
      scaled : (k : ℕ) → coef F p k ≡ c ⊗ coef F q k
      scaled k = ap (λ (t : P). coef F t k) e ∙ ap (coef F (C F c * q)) {x = k} {y = 0 + k} (omega arith) ∙ coef_shift F c 0 k q

      upper : m < suc n
      upper = deg_bound (suc n) m (coef F p) (record {
        below = λ k l. scaled k ∙ ap (λ t. c ⊗ t) (hq.below k l) ∙ mul_zer F c;
        top = λ z. nz (sym (mul-one F c) ∙ sym (ap (λ t. c ⊗ t) hq.top) ∙ sym (scaled m) ∙ z);
      }) hp.below

      lower : n < suc m
      lower = deg_bound (suc m) n (coef F p) (deg_monic hp) (λ k l. scaled k ∙ ap (λ t. c ⊗ t) (hq.below k l) ∙ mul_zer F c)

      same : m ≡ n
      same = omega (arith, upper, lower)
