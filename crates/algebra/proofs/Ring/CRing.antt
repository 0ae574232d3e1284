-- Commutative rings. Gives: the record `CRing` of a ring with its laws, `IsHom` for the maps that keep its operations, and the
-- elementary laws of sums, products, opposites and differences that the ring normaliser's own proof rests on. A longer identity is
-- shown by the normaliser (ring.Quote), never by hand.
-- Open: the record's fields and `◌-◌`. Nothing here needs unfolding.
use mathlib.Core.Path.{◌≡◌, sym, ap, ap₂, ◌∙◌}

pub record CRing : Type 1 where
  pub El : Type 0
  pub add : El → El → El
  pub mul : El → El → El
  pub neg : El → El
  pub zer : El
  pub one : El
  pub is_set : IsSet El
  pub add_assoc : (a b c : El) → add (add a b) c ≡ add a (add b c)
  pub add_comm : (a b : El) → add a b ≡ add b a
  pub zer_add : (a : El) → add zer a ≡ a
  pub neg_add : (a : El) → add (neg a) a ≡ zer
  pub mul_assoc : (a b c : El) → mul (mul a b) c ≡ mul a (mul b c)
  pub mul_comm : (a b : El) → mul a b ≡ mul b a
  pub one-mul : (a : El) → mul one a ≡ a
  pub add-mul : (a b c : El) → mul (add a b) c ≡ add (mul a c) (mul b c)

pub record IsHom (R S : CRing) (f : R.El → S.El) : Type 0 where
  pub h_add : (a b : R.El) → f (R.add a b) ≡ S.add (f a) (f b)
  pub h_mul : (a b : R.El) → f (R.mul a b) ≡ S.mul (f a) (f b)
  pub h_neg : (a : R.El) → f (R.neg a) ≡ S.neg (f a)
  pub h_zer : f R.zer ≡ S.zer
  pub h_one : f R.one ≡ S.one

module _ (R : CRing) where
  open R use {El as A, add as ◌+◌, mul as ◌*◌, neg, zer as 𝟘, one as 𝟙, add_assoc, add_comm, zer_add, neg_add, mul_assoc, mul_comm, one-mul, add-mul}

  infixl 65 ◌+◌
  infixl 70 ◌*◌
  infixl 65 ◌-◌
  abbrev pub ◌-◌ : A → A → A
  a - b = a + neg b

  pub add_zer : (a : A) → a + 𝟘 ≡ a
  add_zer a = add_comm a 𝟘 ∙ zer_add a

  pub add_neg : (a : A) → a + neg a ≡ 𝟘
  add_neg a = add_comm a (neg a) ∙ neg_add a

  pub add_left_comm : (a b c : A) → a + (b + c) ≡ b + (a + c)
  add_left_comm a b c = sym (add_assoc a b c) ∙ ap (λ t. t + c) (add_comm a b) ∙ add_assoc b a c

  pub mul_left_comm : (a b c : A) → a * (b * c) ≡ b * (a * c)
  mul_left_comm a b c = sym (mul_assoc a b c) ∙ ap (λ t. t * c) (mul_comm a b) ∙ mul_assoc b a c

  pub mul-one : (a : A) → a * 𝟙 ≡ a
  mul-one a = mul_comm a 𝟙 ∙ one-mul a

  pub mul-add : (a b c : A) → a * (b + c) ≡ a * b + a * c
  mul-add a b c = mul_comm a (b + c) ∙ add-mul b c a ∙ ap₂ ◌+◌ (mul_comm b a) (mul_comm c a)

  pub add_add_comm : (a b c d : A) → (a + b) + (c + d) ≡ (a + c) + (b + d)
  add_add_comm a b c d = add_assoc a b (c + d) ∙ ap (λ t. a + t) (add_left_comm b c d) ∙ sym (add_assoc a c (b + d))

  pub cancel_left : (a b c : A) → a + b ≡ a + c → b ≡ c
  cancel_left a b c p = sym (drop b) ∙ ap (λ t. neg a + t) p ∙ drop c
    where
      drop : (x : A) → neg a + (a + x) ≡ x
      drop x = sym (add_assoc (neg a) a x) ∙ ap (λ t. t + x) (neg_add a) ∙ zer_add x

  pub eq_of_sub : (a b : A) → a - b ≡ 𝟘 → a ≡ b
  eq_of_sub a b p = cancel_left (neg b) a b (add_comm (neg b) a ∙ p ∙ sym (neg_add b))

  pub neg_unique : (a b : A) → a + b ≡ 𝟘 → b ≡ neg a
  neg_unique a b p = cancel_left a b (neg a) (p ∙ sym (add_neg a))

  pub zer_mul : (a : A) → 𝟘 * a ≡ 𝟘
  zer_mul a = cancel_left (𝟘 * a) (𝟘 * a) 𝟘 (sym (add-mul 𝟘 𝟘 a) ∙ ap (λ t. t * a) (zer_add 𝟘) ∙ sym (add_zer (𝟘 * a)))

  pub mul_zer : (a : A) → a * 𝟘 ≡ 𝟘
  mul_zer a = mul_comm a 𝟘 ∙ zer_mul a

  pub neg_mul : (a b : A) → neg a * b ≡ neg (a * b)
  neg_mul a b = neg_unique (a * b) (neg a * b) (sym (add-mul a (neg a) b) ∙ ap (λ t. t * b) (add_neg a) ∙ zer_mul b)

  pub mul_neg : (a b : A) → a * neg b ≡ neg (a * b)
  mul_neg a b = mul_comm a (neg b) ∙ neg_mul b a ∙ ap neg (mul_comm b a)

  pub neg_neg : (a : A) → neg (neg a) ≡ a
  neg_neg a = sym (neg_unique (neg a) a (neg_add a))

  pub neg_zer : neg 𝟘 ≡ 𝟘
  neg_zer = sym (neg_unique 𝟘 𝟘 (zer_add 𝟘))

  pub neg_of_add : (a b : A) → neg (a + b) ≡ neg a + neg b
  neg_of_add a b = sym (neg_unique (a + b) (neg a + neg b) (add_add_comm a b (neg a) (neg b) ∙ ap₂ ◌+◌ (add_neg a) (add_neg b) ∙ zer_add 𝟘))
