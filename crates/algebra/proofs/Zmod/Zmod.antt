-- The whole numbers modulo p, on the numbers below p. Gives: the ring `zmod p`; `emb p n`, the element of a whole number n; `num p a`,
-- the number below p of an element a; and how both go with sums, products, opposites and remainders. No proof stands in the names:
-- for p = 0 the ring is that of p = 1, and laws that need it ask for 0 < p.
-- Shut (`unfoldable`): `zmod`, `emb`, `num`. `zmod_dec` decides equality and computes.
use Prim.Native.Nat.{ℕ, suc, ◌+◌, ◌*◌, ◌-◌, ◌/◌, ◌%◌, ◌≤◌, ◌<◌}
use mathlib.Core.Path.{◌≡◌, refl, sym, ap, ◌∙◌}
use mathlib.Core.List.{[], ◌∷◌}
use mathlib.Core.HLevel.{hedberg, Σ_set, Σ_prop_path, prop→set}
use native.Mathlib.Omega.{arith}
use native.Mathlib.Bridge.{le_prop}
use native.Mathlib.Decide.{ℕ_discrete}
use native.Mathlib.Nat.{mod-lt, mod-eq_of_lt, mod_self, mod-add-mod, add-mod-mod, mul-add-mod_self_left, div-add-mod, add_assoc, add_comm, mul_assoc, mul_comm, add-mul, zero-add, one-mul}
use Rattle.algebra.proofs.Ring.CRing.{CRing}
use Rattle.algebra.proofs.Ring.Quote.{ring, quote, by}

pub mod-mul-mod : (a b m : ℕ) → (a % m) * b % m ≡ a * b % m
mod-mul-mod a b m = sym (ap (λ t. t % m) e ∙ mul-add-mod_self_left m ((a / m) * b) ((a % m) * b))
  where
    e : a * b ≡ m * ((a / m) * b) + (a % m) * b
    e = ap (λ t. t * b) (sym (div-add-mod a m)) ∙ add-mul (m * (a / m)) (a % m) b ∙ ap (λ t. t + (a % m) * b) (mul_assoc m (a / m) b)

pub mul-mod-mod : (a b m : ℕ) → a * (b % m) % m ≡ a * b % m
mul-mod-mod a b m = ap (λ t. t % m) (mul_comm a (b % m)) ∙ mod-mul-mod b a m ∙ ap (λ t. t % m) (mul_comm b a)

pub positive : (p : ℕ) → 0 < suc (p - 1)
positive p = omega arith

module _ (p : ℕ) where
  -- p itself, but for p = 0
  abbrev q : ℕ
  q = suc (p - 1)

  abbrev pub Z : Type 0
  Z = (n : ℕ) × (n < q)

  abbrev pub cast : ℕ → Z
  cast n = (n % q, mod-lt n (positive p))

  pub z_path : {a b : Z} → a.0 ≡ b.0 → a ≡ b
  z_path {a} {b} e = Σ_prop_path (λ (k : ℕ). le_prop {n = suc k} {m = q}) {u = a} {v = b} e

  pub cast_of : (a : Z) → cast a.0 ≡ a
  cast_of a = z_path (mod-eq_of_lt a.1)

  -- ---- the laws, on numbers
  module _ (a b c : Z) where
    pub Z_add_assoc : cast ((cast (a.0 + b.0)).0 + c.0) ≡ cast (a.0 + (cast (b.0 + c.0)).0)
    Z_add_assoc = z_path (mod-add-mod (a.0 + b.0) q c.0 ∙ ap (λ t. t % q) (add_assoc a.0 b.0 c.0) ∙ sym (add-mod-mod a.0 (b.0 + c.0) q))

    pub Z_mul_assoc : cast ((cast (a.0 * b.0)).0 * c.0) ≡ cast (a.0 * (cast (b.0 * c.0)).0)
    Z_mul_assoc = z_path (mod-mul-mod (a.0 * b.0) c.0 q ∙ ap (λ t. t % q) (mul_assoc a.0 b.0 c.0) ∙ sym (mul-mod-mod a.0 (b.0 * c.0) q))

    pub Z_add_mul : cast ((cast (a.0 + b.0)).0 * c.0) ≡ cast ((cast (a.0 * c.0)).0 + (cast (b.0 * c.0)).0)
    Z_add_mul = z_path (mod-mul-mod (a.0 + b.0) c.0 q ∙ ap (λ t. t % q) (add-mul a.0 b.0 c.0)
        ∙ sym (mod-add-mod (a.0 * c.0) q (b.0 * c.0 % q) ∙ add-mod-mod (a.0 * c.0) (b.0 * c.0) q))

  pub Z_zer_add : (a : Z) → cast ((cast 0).0 + a.0) ≡ a
  Z_zer_add a = z_path (mod-add-mod 0 q a.0 ∙ ap (λ t. t % q) (zero-add a.0) ∙ mod-eq_of_lt a.1)

  pub Z_neg_add : (a : Z) → cast ((cast (q - a.0)).0 + a.0) ≡ cast 0
  Z_neg_add a = z_path (mod-add-mod (q - a.0) q a.0 ∙ ap (λ t. t % q) {x = q - a.0 + a.0} {y = q} (omega (arith, a.1)) ∙ mod_self q ∙ sym (mod-eq_of_lt (positive p)))

  pub Z_one_mul : (a : Z) → cast ((cast 1).0 * a.0) ≡ a
  Z_one_mul a = z_path (mod-mul-mod 1 a.0 q ∙ ap (λ t. t % q) (one-mul a.0) ∙ mod-eq_of_lt a.1)

  pub Z_set : IsSet Z
  Z_set = Σ_set (hedberg ℕ_discrete) (λ k. prop→set le_prop)

  -- ---- the ring, and its elements as numbers
  unfoldable pub zmod : CRing
  zmod = record {
    El = Z;
    add = λ a b. cast (a.0 + b.0);
    mul = λ a b. cast (a.0 * b.0);
    neg = λ a. cast (q - a.0);
    zer = cast 0;
    one = cast 1;
    is_set = Z_set;
    add_assoc = Z_add_assoc;
    add_comm = λ a b. ap cast (add_comm a.0 b.0);
    zer_add = Z_zer_add;
    neg_add = Z_neg_add;
    mul_assoc = Z_mul_assoc;
    mul_comm = λ a b. ap cast (mul_comm a.0 b.0);
    one-mul = Z_one_mul;
    add-mul = Z_add_mul;
  }

  unfoldable pub emb : ℕ → zmod.El
  unfolding zmod
  emb n = cast n

  unfoldable pub num : zmod.El → ℕ
  unfolding zmod
  num a = a.0

  unfoldable pub zmod_dec : Discrete zmod.El
  unfolding zmod ℕ_discrete
  zmod_dec a b = elim (ℕ_discrete a.0 b.0) [ yes e ↦ yes (z_path e) | no n ↦ no (λ e. n (ap (λ (z : Z). z.0) e)) ]

module _ (p : ℕ) where
  open zmod p use {El as A, add as ◌⊕◌, mul as ◌⊗◌, neg as ng, zer as 𝟘, one as 𝟙}

  infixl 65 ◌⊕◌
  infixl 70 ◌⊗◌
  pub emb_num : (a : A) → emb p (num p a) ≡ a
  unfolding zmod emb num
  emb_num a = cast_of p a

  pub num_inj : {a b : A} → num p a ≡ num p b → a ≡ b
  num_inj {a} {b} e = sym (emb_num a) ∙ ap (emb p) e ∙ emb_num b

  pub emb_add : (m n : ℕ) → emb p (m + n) ≡ emb p m ⊕ emb p n
  unfolding zmod emb
  emb_add m n = let q : ℕ = suc (p - 1) in z_path p (sym (mod-add-mod m q (n % q) ∙ add-mod-mod m n q))

  pub emb_mul : (m n : ℕ) → emb p (m * n) ≡ emb p m ⊗ emb p n
  unfolding zmod emb
  emb_mul m n = let q : ℕ = suc (p - 1) in z_path p (sym (mod-mul-mod m (n % q) q ∙ mul-mod-mod m n q))

  pub emb_zero : emb p 0 ≡ 𝟘
  unfolding zmod emb
  emb_zero = refl

  pub emb_one : emb p 1 ≡ 𝟙
  unfolding zmod emb
  emb_one = refl

  module _ (pos : 0 < p) where
    same : suc (p - 1) ≡ p
    same = omega arith

    pub num_emb : (n : ℕ) → num p (emb p n) ≡ n % p
    unfolding zmod emb num
    num_emb n = ap (λ (q : ℕ). n % q) same

    pub num_lt : (a : A) → num p a < p
    unfolding zmod num
    num_lt a = omega (arith, a.1)

    pub emb_p : emb p p ≡ 𝟘
    emb_p = num_inj (num_emb p ∙ mod_self p ∙ sym (ap (num p) (sym emb_zero) ∙ num_emb 0 ∙ mod-eq_of_lt pos))

    pub emb_mod : (n : ℕ) → emb p (n % p) ≡ emb p n
    emb_mod n = sym (ap (emb p) (sym (div-add-mod n p)) ∙ emb_add (p * (n / p)) (n % p) ∙ ap (λ t. t ⊕ emb p (n % p)) (emb_mul p (n / p))
        ∙ by (zmod p) (emb p (n / p)) emb_p (ring (zmod p) (emb p p ∷ emb p (n / p) ∷ emb p (n % p) ∷ []) (search quote depth 40) refl))

    -- p - a is the opposite of a
    pub emb_less : (a : ℕ) → a ≤ p → emb p (p - a) ≡ ng (emb p a)
    emb_less a l = by (zmod p) 𝟙 whole (by (zmod p) 𝟙 emb_p (ring (zmod p) (emb p p ∷ emb p a ∷ emb p (p - a) ∷ []) (search quote depth 40) refl))
      where
        whole : emb p (p - a) ⊕ emb p a ≡ emb p p
        whole = sym (emb_add (p - a) a) ∙ ap (emb p) (omega arith)

    pub num_of : (n : ℕ) → n < p → num p (emb p n) ≡ n
    num_of n l = num_emb n ∙ mod-eq_of_lt l

    -- equal elements of numbers below p are equal numbers
    pub emb_inj : (a b : ℕ) → a < p → b < p → emb p a ≡ emb p b → a ≡ b
    emb_inj a b ha hb e = sym (num_of a ha) ∙ ap (num p) e ∙ num_of b hb

    pub num_zero : num p 𝟘 ≡ 0
    num_zero = ap (num p) (sym emb_zero) ∙ num_of 0 pos
