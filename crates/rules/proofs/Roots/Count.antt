-- How many roots there are. Gives: over a field, a polynomial of degree d has no d + 1 different roots (`no_more_roots`); so, modulo a prime p, for
-- any m from 1 below p - 1 some z between 1 and p has z^m ≠ 1 (`nonresidue`), and a divisor of x^p - x of degree 1 or more has a root (`has_root`), of degree 2 or more two different ones (`two_roots`).
use Prim.Native.Nat.{ℕ, zero, suc, ◌+◌, ◌-◌, ◌≤◌, ◌<◌}
use mathlib.Core.Path.{◌≡◌, sym, ap, ap₂, ◌∙◌, subst}
use mathlib.Core.Logic.{◌≢◌, ◌⊎◌, inl, inr}
use mathlib.Core.List.{[], ◌∷◌}
use native.Mathlib.Omega.{arith}
use Rattle.algebra.proofs.Ring.CRing.{zer_mul, eq_of_sub, add_neg, add_zer, cancel_left}
use Rattle.algebra.proofs.Ring.Divides.{Divides}
use Rattle.algebra.proofs.Ring.Field.{Field, no_zero_divisors}
use Rattle.algebra.proofs.Ring.Power.{power, power_of_one}
use Rattle.algebra.proofs.Zmod.Zmod.{zmod, zmod_dec, emb, emb_zero, emb_one, emb_inj}
use Rattle.algebra.proofs.Zmod.Prime.{Prime}
use Rattle.algebra.proofs.Zmod.PrimeField.{prime_field}
use Rattle.algebra.proofs.Poly.Bound.{Below, below_neg}
use Rattle.algebra.proofs.Poly.Poly.{poly, coef, coef_add, coef_neg}
use Rattle.algebra.proofs.Poly.Term.{X, C, at, coef_term, termS_at, termS_below}
use Rattle.algebra.proofs.Poly.Degree.{Deg, Degree, by_deg, deg_ne, deg_bound, deg_monic, deg_add_right, degree_mul, degree_one}
use Rattle.algebra.proofs.List.Value.{mon_monic}
use Rattle.rules.proofs.Roots.Value.{linear, linear_is, constant, ev, ev_hom, ev_C, ev_X, ev_less_one, root_iff}
use Rattle.rules.proofs.Roots.Fermat.{every_root}
use Rattle.rules.proofs.Roots.Shift.{all_or_one}

module _ (K : Field) where
  open K.arith use {base as F, dec}
  open F use {El as A, add as ◌⊞◌, mul as ◌⊠◌, neg as ng, zer as 𝟘, one as 𝟙}

  infixl 65 ◌⊞◌
  infixl 70 ◌⊠◌
  open poly F use {El as P, add as ◌+P◌, mul as ◌*P◌, neg, one as 1P}

  infixl 65 ◌+P◌
  infixl 70 ◌*P◌
  -- a root of q g that isn't one of g is one of q
  factor_root : (p q g : P) (x : A) → p ≡ q *P g → ev F x p ≡ 𝟘 → ev F x g ≢ 𝟘 → ev F x q ≡ 𝟘
  factor_root p q g x e z n = go (dec (ev F x q) 𝟘)
    where
      go : Dec (ev F x q ≡ 𝟘) → ev F x q ≡ 𝟘
      go (yes y) = y
      go (no f) = absurd (no_zero_divisors K (ev F x q) (ev F x g) f n (sym ((ev_hom F x).h_mul q g) ∙ ap (ev F x) (sym e) ∙ z))

  pub degree_same : (a b : ℕ) (p : P) → Degree K a p → Degree K b p → a ≡ b
  degree_same a b p h g = omega (arith, deg_bound K (suc b) a (coef F p) h g.below, deg_bound K (suc a) b (coef F p) g h.below)

  -- x - r is 0 at r alone
  linear_apart : (x r : A) → x ≢ r → ev F x (linear F r) ≢ 𝟘
  linear_apart x r n e = n (eq_of_sub F x r (sym (ap (ev F x) (linear_is F r) ∙ (ev_hom F x).h_add (X F) (neg (C F r)) ∙ ap₂ ◌⊞◌ (ev_X F x) ((ev_hom F x).h_neg (C F r) ∙ ap ng (ev_C F x r))) ∙ e))

  -- p = q (x - r): the degree is 1 less
  quotient_degree : (d m : ℕ) (p q : P) (r : A) → p ≡ q *P linear F r → Degree K (suc d) p → Degree K m q → m ≡ d
  quotient_degree d m p q r e h g = let s = degree_same (m + 1) (suc d) p (subst (Degree K (m + 1)) (sym e) (degree_mul K q (linear F r) g (deg_monic K (mon_monic F (ng r ∷ []))))) h in omega arith

  pub no_more_roots : (d : ℕ) (p : P) → Degree K d p → (root : ℕ → A) → ((i : ℕ) → i ≤ d → ev F (root i) p ≡ 𝟘) → ((i j : ℕ) → i < j → j ≤ d → root i ≢ root j) → ⊥
  no_more_roots zero p h root are apart = h.top (sym (ap (ev F (root 0)) (constant F p h.below) ∙ ev_C F (root 0) (coef F p 0)) ∙ are 0 (omega arith))
  no_more_roots (suc d) p h root are apart =
      let out : Divides (poly F) (linear F (root 0)) p = (root_iff F (root 0) p).1 (are 0 (omega arith)) in
      by_deg K (λ (x y : ⊥). absurd x) out.factor (λ z. deg_ne K h (out.is ∙ ap (λ t. t *P linear F (root 0)) z ∙ zer_mul (poly F) (linear F (root 0))))
      (λ m dm. no_more_roots d out.factor (subst (λ (k : ℕ). Degree K k out.factor) (quotient_degree d m p out.factor (root 0) out.is h dm) dm) (λ i. root (suc i))
      (λ i l. factor_root p out.factor (linear F (root 0)) (root (suc i)) out.is (are (suc i) (omega arith))
      (linear_apart (root (suc i)) (root 0) (λ e. apart 0 (suc i) (omega arith) (omega arith) (sym e))))
      (λ i j l k. apart (suc i) (suc j) (omega arith) (omega arith)))

  -- ---- x^n - q, for a q of lower degree
  degree_X : Degree K 1 (X F)
  degree_X = record { below = λ k l. at F (coef_term F 𝟙 1) k ∙ termS_below F 𝟙 1 k l; top = λ e. K.one_ne (sym (at F (coef_term F 𝟙 1) 1 ∙ termS_at F 𝟙 1) ∙ e) }

  degree_pow : (n : ℕ) → Degree K n (power (poly F) (X F) n)
  unfolding power
  degree_pow zero = degree_one K
  degree_pow (suc n) = subst (λ (k : ℕ). Degree K k (power (poly F) (X F) (suc n))) {x = 1 + n} {y = suc n} (omega arith) (degree_mul K (X F) (power (poly F) (X F) n) degree_X (degree_pow n))

  pub degree_less : (n m : ℕ) (q : P) → Below F m (coef F q) → m ≤ n → Degree K n (power (poly F) (X F) n +P neg q)
  degree_less n m q h l = subst (Deg K n) (sym (coef_add F (power (poly F) (X F) n) (neg q))) (deg_add_right K (degree_pow n) (λ k i. at F (coef_neg F q) k ∙ below_neg F h k i) l)

module _ (p : ℕ) (prime : Prime p) where
  abbrev K : Field
  K = prime_field p prime

  open zmod p use {El as A, add as ◌⊞◌, mul as ◌⊠◌, zer as 𝟘, one as 𝟙}

  infixl 65 ◌⊞◌
  infixl 70 ◌⊠◌
  open poly (zmod p) use {El as P, add as ◌+P◌, mul as ◌*P◌, neg, one as 1P}

  infixl 65 ◌+P◌
  infixl 70 ◌*P◌
  apart : (i j : ℕ) → i < j → j < p → emb p i ≢ emb p j
  apart i j l h e = omega (arith, emb_inj p (omega arith) i j (omega arith) h e)

  pub nonresidue : (m : ℕ) → suc m < p - 1 → (z : ℕ) × (1 < z) × (z < p) × (power (zmod p) (emb p z) (suc m) ≢ 𝟙)
  nonresidue m short = go (all_or_one (p - 1) (λ i. power (zmod p) (emb p (suc i)) (suc m) ≡ 𝟙) (λ i. zmod_dec p (power (zmod p) (emb p (suc i)) (suc m)) 𝟙))
    where
      go : ((i : ℕ) × (i < p - 1) × (power (zmod p) (emb p (suc i)) (suc m) ≢ 𝟙)) ⊎ ((i : ℕ) → i < p - 1 → power (zmod p) (emb p (suc i)) (suc m) ≡ 𝟙)
          → (z : ℕ) × (1 < z) × (z < p) × (power (zmod p) (emb p z) (suc m) ≢ 𝟙)
      go (inl (zero, l, f)) = absurd (f (ap (λ t. power (zmod p) t (suc m)) (emb_one p) ∙ power_of_one (zmod p) (suc m)))
      go (inl (suc i, l, f)) = (suc (suc i), omega arith, omega arith, f)
      -- else 1, 2, .., p - 1 are roots of x^(m+1) - 1
      go (inr h) = absurd (no_more_roots K (suc m) (power (poly (zmod p)) (X (zmod p)) (suc m) +P neg 1P) (degree_less K (suc m) 1 1P (degree_one K).below (omega arith)) (λ i. emb p (suc i))
          (λ i l. ev_less_one (zmod p) (emb p (suc i)) (X (zmod p)) (suc m)
          ∙ ap (λ t. (zmod p).add t ((zmod p).neg 𝟙)) (ap (λ t. power (zmod p) t (suc m)) (ev_X (zmod p) (emb p (suc i))) ∙ h i (omega arith)) ∙ add_neg (zmod p) 𝟙)
          (λ i j l k. apart (suc i) (suc j) (omega arith) (omega arith)))

  abbrev whole : P
  whole = power (poly (zmod p)) (X (zmod p)) p +P neg (X (zmod p))

  degree : Degree K p whole
  degree = degree_less K p 2 (X (zmod p)) (degree_X K).below prime.two

  -- a divisor of x^p - x of degree d has a root among any n different elements, n + d being above p
  root_among : (d n : ℕ) (g h : P) → Degree K d g → whole ≡ h *P g → (root : ℕ → A) → ((i j : ℕ) → i < j → j < n → root i ≢ root j) → p < n + d → (i : ℕ) × (i < n) × (ev (zmod p) (root i) g ≡ 𝟘)
  root_among d n g h dg e root different many = go (all_or_one n (λ i. ev (zmod p) (root i) g ≢ 𝟘) (λ i. other (zmod_dec p (ev (zmod p) (root i) g) 𝟘)))
    where
      other : {T : Type 0} → Dec T → Dec (T → ⊥)
      other (yes t) = no (λ f. f t)
      other (no f) = yes f

      is : (b : A) → (ev (zmod p) b g ≢ 𝟘 → ⊥) → Dec (ev (zmod p) b g ≡ 𝟘) → ev (zmod p) b g ≡ 𝟘
      is b f (yes z) = z
      is b f (no n) = absurd (f n)

      go : ((i : ℕ) × (i < n) × (ev (zmod p) (root i) g ≢ 𝟘 → ⊥)) ⊎ ((i : ℕ) → i < n → ev (zmod p) (root i) g ≢ 𝟘) → (i : ℕ) × (i < n) × (ev (zmod p) (root i) g ≡ 𝟘)
      go (inl (i, l, f)) = (i, l, is (root i) f (zmod_dec p (ev (zmod p) (root i) g) 𝟘))
      -- else all of them are roots of the other factor, whose degree is too small
      go (inr f) = absurd (by_deg K (λ (x y : ⊥). absurd x) h (λ z. deg_ne K degree (e ∙ ap (λ t. t *P g) z ∙ zer_mul (poly (zmod p)) g))
          (λ m dm. let s : m + d ≡ p = degree_same K (m + d) p whole (subst (Degree K (m + d)) (sym e) (degree_mul K h g dm dg)) degree in
          no_more_roots K m h dm root (λ i l. factor_root K whole h g (root i) e (every_root p prime (root i)) (f i (omega arith))) (λ i j l k. different i j l (omega arith))))

  pub has_root : (d : ℕ) (g h : P) → Degree K (suc d) g → whole ≡ h *P g → (a : ℕ) × (a < p) × (ev (zmod p) (emb p a) g ≡ 𝟘)
  has_root d g h dg e = root_among (suc d) p g h dg e (emb p) apart (omega arith)

  pub two_roots : (d : ℕ) (g h : P) → Degree K (suc (suc d)) g → whole ≡ h *P g → (α : A) × ((β : A) × ((α ≢ β) × ((ev (zmod p) α g ≡ 𝟘) × (ev (zmod p) β g ≡ 𝟘))))
  two_roots d g h dg e =
      let r = has_root (suc d) g h dg e in
      let α : A = emb p r.0 in
      let o = root_among (suc (suc d)) (p - 1) g h dg e (λ i. α ⊞ emb p (suc i))
      (λ i j l k q. apart (suc i) (suc j) (omega arith) (omega arith) (cancel_left (zmod p) α (emb p (suc i)) (emb p (suc j)) q)) (omega (arith, prime.two)) in
      (α, (α ⊞ emb p (suc o.0), (λ s. apart 0 (suc o.0) (omega arith) (omega (arith, o.1)) (emb_zero p ∙ cancel_left (zmod p) α 𝟘 (emb p (suc o.0)) (add_zer (zmod p) α ∙ s)), (r.2, o.2))))
