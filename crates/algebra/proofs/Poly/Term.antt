-- Single terms a · x^k. Gives: `term a k` with its coefficients, products, sums and opposites of terms; the coefficients of a term
-- times a polynomial (`coef_shift`); the constants `C`, a homomorphism (`constants`), and the variable `X`.
-- Shut (`unfoldable`): `term`, `term_s`. Open: `C`, `X`, which are terms.
use Prim.Native.Nat.{ℕ, zero, suc, ◌+◌}
use mathlib.Core.Path.{◌≡◌, refl, sym, ap, ap₂, ◌∙◌}
use native.Mathlib.Omega.{arith}
use native.Mathlib.Decide.{ℕ_discrete}
use Rattle.algebra.proofs.Ring.CRing.{CRing, IsHom, mul_zer, zer_mul, neg_zer}
use Rattle.algebra.proofs.Poly.Series.{Ser, con, mul_s, con_mulS}
use Rattle.algebra.proofs.Poly.Bound.{Below}
use Rattle.algebra.proofs.Poly.Poly.{poly, coef, mk, coef_mk, poly_ext, coef_add, coef_mul, coef_neg, coef_zer, coef_one}

module _ (F : CRing) where
  open F use {El as A, add as ◌⊕◌, mul as ◌⊗◌, neg, zer as 𝟘, one as 𝟙, zer_add}

  infixl 65 ◌⊕◌
  infixl 70 ◌⊗◌
  open poly F use {El as Po, add as ◌+P◌, mul as ◌*P◌, neg as negP, zer as 0P, one as 1P}

  infixl 65 ◌+P◌
  infixl 70 ◌*P◌
  -- an equation of series, at one place
  pub at : {p q : Ser F} → p ≡ q → (n : ℕ) → p n ≡ q n
  at e n = ap (λ (s : Ser F). s n) e

  unfoldable pub term_s : A → ℕ → Ser F
  term_s a zero n = con F a n
  term_s a (suc k) zero = 𝟘
  term_s a (suc k) (suc n) = term_s a k n

  pub termS_at : (a : A) (k : ℕ) → term_s a k k ≡ a
  unfolding term_s con
  termS_at a zero = refl
  termS_at a (suc k) = termS_at a k

  pub termS_off : (a : A) (k n : ℕ) → (n ≡ k → ⊥) → term_s a k n ≡ 𝟘
  unfolding term_s con
  termS_off a zero zero h = absurd (h refl)
  termS_off a zero (suc n) h = refl
  termS_off a (suc k) zero h = refl
  termS_off a (suc k) (suc n) h = termS_off a k n (λ e. h (ap suc e))

  pub termS_below : (a : A) (k : ℕ) → Below F (suc k) (term_s a k)
  termS_below a k n l = termS_off a k n (λ e. omega arith)

  unfoldable pub term : A → ℕ → Po
  term a k = mk F (suc k) (term_s a k) (termS_below a k)

  pub coef_term : (a : A) (k : ℕ) → coef F (term a k) ≡ term_s a k
  unfolding term
  coef_term a k = coef_mk F (termS_below a k)

  -- the coefficients of a x^k q
  shift : (a : A) (k n j : ℕ) (q : Ser F) → k + n ≡ j → mul_s F (term_s a k) q j ≡ a ⊗ q n
  unfolding term_s mul_s
  shift a zero n j q e = con_mulS F a q j ∙ ap (λ i. a ⊗ q i) (omega arith)
  shift a (suc k) n zero q e = absurd (omega arith)
  shift a (suc k) n (suc j) q e = ap₂ ◌⊕◌ (zer_mul F (q (suc j))) (shift a k n j q (omega arith)) ∙ zer_add (a ⊗ q n)

  pub coef_shift : (a : A) (k n : ℕ) (q : Po) → coef F (term a k *P q) (k + n) ≡ a ⊗ coef F q n
  coef_shift a k n q = ap (λ (s : Ser F). s (k + n)) (coef_mul F (term a k) q ∙ ap (λ (s : Ser F). mul_s F s (coef F q)) (coef_term a k)) ∙ shift a k n (k + n) (coef F q) refl

  term_scaS : (a b : A) (j n : ℕ) → a ⊗ term_s b j n ≡ term_s (a ⊗ b) j n
  unfolding term_s con
  term_scaS a b zero zero = refl
  term_scaS a b zero (suc n) = mul_zer F a
  term_scaS a b (suc j) zero = mul_zer F a
  term_scaS a b (suc j) (suc n) = term_scaS a b j n

  term_mulS : (a b : A) (i j k : ℕ) → i + j ≡ k → (n : ℕ) → mul_s F (term_s a i) (term_s b j) n ≡ term_s (a ⊗ b) k n
  unfolding term_s mul_s
  term_mulS a b zero j k e n = con_mulS F a (term_s b j) n ∙ term_scaS a b j n ∙ ap (λ i. term_s (a ⊗ b) i n) {x = j} {y = k} (omega arith)
  term_mulS a b (suc i) j zero e n = absurd (omega arith)
  term_mulS a b (suc i) j (suc k) e zero = zer_mul F (term_s b j 0)
  term_mulS a b (suc i) j (suc k) e (suc n) = ap₂ ◌⊕◌ (zer_mul F (term_s b j (suc n))) (term_mulS a b i j k (omega arith) n) ∙ zer_add (term_s (a ⊗ b) k n)

  pub term_mul : (a b : A) (i j : ℕ) → term a i *P term b j ≡ term (a ⊗ b) (i + j)
  term_mul a b i j = poly_ext F (λ n.
      at (coef_mul F (term a i) (term b j) ∙ ap₂ (mul_s F) (coef_term a i) (coef_term b j)) n
      ∙ term_mulS a b i j (i + j) refl n
      ∙ sym (at (coef_term (a ⊗ b) (i + j)) n))

  -- one is a term
  pub term_one : term 𝟙 0 ≡ 1P
  unfolding term_s
  term_one = poly_ext F (λ n. at (coef_term 𝟙 0) n ∙ sym (at (coef_one F) n))

  pub term_neg : (a : A) (k : ℕ) → term (neg a) k ≡ negP (term a k)
  unfolding term_s con
  term_neg a k = poly_ext F (λ n. at (coef_term (neg a) k) n ∙ go k n ∙ sym (at (coef_neg F (term a k)) n ∙ ap neg (at (coef_term a k) n)))
    where
      go : (k n : ℕ) → term_s (neg a) k n ≡ neg (term_s a k n)
      go zero zero = refl
      go zero (suc n) = sym (neg_zer F)
      go (suc k) zero = sym (neg_zer F)
      go (suc k) (suc n) = go k n

  pub term_zer : (k : ℕ) → term 𝟘 k ≡ 0P
  term_zer k = poly_ext F (λ n. at (coef_term 𝟘 k) n ∙ go n (ℕ_discrete n k) ∙ sym (at (coef_zer F) n))
    where
      go : (n : ℕ) → Dec (n ≡ k) → term_s 𝟘 k n ≡ 𝟘
      go n (yes e) = ap (term_s 𝟘 k) e ∙ termS_at 𝟘 k
      go n (no h) = termS_off 𝟘 k n h

  pub term_add : (a b : A) (k : ℕ) → term (a ⊕ b) k ≡ term a k +P term b k
  unfolding term_s con
  term_add a b k = poly_ext F (λ n. at (coef_term (a ⊕ b) k) n ∙ go k n ∙ sym (at (coef_add F (term a k) (term b k)) n ∙ ap₂ ◌⊕◌ (at (coef_term a k) n) (at (coef_term b k) n)))
    where
      go : (k n : ℕ) → term_s (a ⊕ b) k n ≡ term_s a k n ⊕ term_s b k n
      go zero zero = refl
      go zero (suc n) = sym (zer_add 𝟘)
      go (suc k) zero = sym (zer_add 𝟘)
      go (suc k) (suc n) = go k n

  -- constants, and the variable
  abbrev pub C : A → Po
  C a = term a 0

  abbrev pub X : Po
  X = term 𝟙 1

  pub constants : IsHom F (poly F) C
  constants = record {
    h_add = λ a b. term_add a b 0;
    h_mul = λ a b. sym (term_mul a b 0 0);
    h_neg = λ a. term_neg a 0;
    h_zer = term_zer 0;
    h_one = term_one;
  }

  pub coef_C : (a : A) → coef F (C a) ≡ con F a
  unfolding term_s
  coef_C a = coef_term a 0

  pub coef_X_zero : (p : Po) → coef F (X *P p) 0 ≡ 𝟘
  unfolding mul_s term_s
  coef_X_zero p = at (coef_mul F X p ∙ ap (λ (s : Ser F). mul_s F s (coef F p)) (coef_term 𝟙 1)) 0 ∙ zer_mul F (coef F p 0)

  pub coef_X_suc : (p : Po) (n : ℕ) → coef F (X *P p) (suc n) ≡ coef F p n
  coef_X_suc p n = ap (coef F (X *P p)) {x = suc n} {y = 1 + n} (omega arith) ∙ coef_shift 𝟙 1 n p ∙ F.one-mul (coef F p n)
