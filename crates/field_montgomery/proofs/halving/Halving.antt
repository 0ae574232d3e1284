-- The almost inverse, that it stays right and ends right. It keeps u · s + v · r = p, and modulo p a · s = σ · v · 2^k and a · r = -σ · u · 2^k, where
-- σ is 1. A turn takes u from v and then all twos from what is left, w of them, which r takes. The other arm is the same with u, s and v, r changed
-- over and -1 for σ.
use Prim.Native.Nat.{ℕ, ◌+◌, ◌-◌, ◌*◌, ◌/◌, ◌%◌, ◌^◌, ◌≤◌, ◌<◌}
use mathlib.Core.Path.{◌≡◌, refl, sym, ap, ap₂, subst, ◌∙◌}
use mathlib.Core.List.{[], ◌∷◌}
use native.Mathlib.Omega.{arith}
use native.Mathlib.Decide.{dec_lt}
use native.Mathlib.Nat.{mul_assoc, mul_comm, mul_left_comm, mul-one, mul-zero, mul-add, add-mul, add_comm, mul-le-mul, mul-le-mul_left, mul-mod_right, eq_of_mul-eq-mul_left, div-le_self, mod-eq_of_lt}
use lib.Pow.{pow-add, pow_mono}
use Rattle.algebra.proofs.Ring.CRing.{neg_neg, mul_zer}
use Rattle.algebra.proofs.Ring.Quote.{ring, quote, by}
use Rattle.algebra.proofs.Zmod.Zmod.{zmod, emb, emb_add, emb_mul, emb_zero, emb_one, emb_p}
use Rattle.field_words.specs.Words.{word}
use Rattle.field_words.specs.Reduced.{top}
use Rattle.field_words.specs.Newton.{Zeros}
use Rattle.field_montgomery.specs.halving.Almost.{Invertible, AlmostIs}
use Rattle.field_words.proofs.Bounds.{eight}

module _ (p a : ℕ) where
  open zmod p use {El as A, add as ◌⊕◌, mul as ◌⊗◌, neg as ng, zer as 𝟘, one as 𝟙}

  infixl 65 ◌⊕◌
  infixl 70 ◌⊗◌
  pub record Halving (σ : A) (u v r s k : ℕ) : Type 0 where
    pub u_some : 0 < u
    pub v_some : 0 < v
    pub sum : u * s + v * r ≡ p
    pub left : emb p a ⊗ emb p s ≡ σ ⊗ emb p (v * 2 ^ k)
    pub right : emb p a ⊗ emb p r ≡ ng σ ⊗ emb p (u * 2 ^ k)
    pub size : u * (v * 2 ^ k) ≤ p * a

  change : {σ : A} {u v r s k : ℕ} → Halving σ u v r s k → Halving (ng σ) v u s r k
  change {σ} {u} {v} {r} {s} {k} h = record {
    u_some = h.v_some;
    v_some = h.u_some;
    sum = add_comm (v * r) (u * s) ∙ h.sum;
    left = h.right;
    right = h.left ∙ ap (λ t. t ⊗ emb p (v * 2 ^ k)) (sym (neg_neg (zmod p) σ));
    size = subst (λ (i : ℕ). i ≤ p * a) (mul_left_comm u v (2 ^ k)) h.size;
  }

  part_some : {n w : ℕ} → Zeros n w → 0 < n → 0 < n / 2 ^ w
  part_some {n} {w} z l = go (n / 2 ^ w) z.whole
    where
      go : (q : ℕ) → q * 2 ^ w ≡ n → 0 < q
      go q e = pos q (λ i. omega (arith, ap (λ j. j * 2 ^ w) i ∙ zero_times (2 ^ w), e))
        where
          zero_times : (d : ℕ) → 0 * d ≡ 0
          zero_times d = omega arith

          pos : (i : ℕ) → (i ≡ 0 → ⊥) → 0 < i
          pos i n = omega (arith, n)

  pub begin : {z : ℕ} → Invertible p a → Zeros a z → 0 < a → Halving 𝟙 p (a / 2 ^ z) 0 1 z
  begin {z} h t l = record {
    u_some = some;
    v_some = part_some t l;
    sum = ap₂ ◌+◌ (mul-one p) (mul-zero (a / 2 ^ z)) ∙ omega arith;
    left = ap (λ i. emb p a ⊗ i) (emb_one p) ∙ ring (zmod p) (emb p a ∷ []) (search quote depth 40) refl ∙ ap (λ i. 𝟙 ⊗ emb p i) (sym t.whole);
    right = ap (λ i. emb p a ⊗ i) (emb_zero p) ∙ mul_zer (zmod p) (emb p a) ∙ sym (ap (λ i. ng 𝟙 ⊗ i) (emb_mul p p (2 ^ z) ∙ ap (λ i. i ⊗ emb p (2 ^ z)) (emb_p p some)) ∙ ring (zmod p) (emb p (2 ^ z) ∷ []) (search quote depth 40) refl);
    size = subst (λ (i : ℕ). p * i ≤ p * a) (sym t.whole) (omega arith);
  }
    where
      some : 0 < p
      some = omega (arith, h.prime.two)

  -- ---- a turn
  module _ {σ : A} {u v r s k : ℕ} (h : Halving σ u v r s k) where
    less : (i j : ℕ) → 0 < i → j ≤ i * j
    less i j l = subst (λ (n : ℕ). n ≤ i * j) (one j) (mul-le-mul {n₁ = 1} {m₁ = j} {n₂ = i} {m₂ = j} l (omega arith))
      where
        one : (n : ℕ) → 1 * n ≡ n
        one n = omega arith

    pub together : s + r ≤ p
    together = both (u * s) (v * r) (less u s h.u_some) (less v r h.v_some) h.sum
      where
        both : (i j : ℕ) → s ≤ i → r ≤ j → i + j ≡ p → s + r ≤ p
        both i j x y e = omega arith

    pub few : p ≤ top → a < p + p → k < 124
    few m b = go (dec_lt k 124)
      where
        product : p * a ≤ top * (top + top)
        product = mul-le-mul {n₁ = p} {m₁ = a} {n₂ = top} {m₂ = top + top} m (omega arith)

        small : 2 ^ k ≤ p * a
        small = trans (2 ^ k) (v * 2 ^ k) (u * (v * 2 ^ k)) (p * a) (less v (2 ^ k) h.v_some) (less u (v * 2 ^ k) h.u_some) h.size
          where
            trans : (x y z w : ℕ) → x ≤ y → y ≤ z → z ≤ w → x ≤ w
            trans x y z w f g i = omega arith

        go : Dec (k < 124) → k < 124
        go (yes l) = l
        go (no l) = absurd (never (2 ^ k) (p * a) (pow_mono {i = 124} {j = k} (omega arith)) small product)
          where
            never : (x y : ℕ) → 2 ^ 124 ≤ x → x ≤ y → y ≤ top * (top + top) → ⊥
            never x y f g i = omega arith

    module _ {w : ℕ} (l : u < v) (z : Zeros (v - u) w) where
      abbrev q : ℕ
      q = (v - u) / 2 ^ w

      parts : v - u + u ≡ v
      parts = omega arith

      power : q * 2 ^ (k + w) ≡ (v - u) * 2 ^ k
      power = ap (λ i. q * i) (pow-add 2 k w ∙ mul_comm (2 ^ k) (2 ^ w)) ∙ sym (mul_assoc q (2 ^ w) (2 ^ k)) ∙ ap (λ i. i * 2 ^ k) z.whole

      pub turned : Halving σ u q (r * 2 ^ w) (s + r) (k + w)
      turned = record {
        u_some = h.u_some;
        v_some = part_some z (omega arith);
        sum = ap₂ ◌+◌ (mul-add u s r) shared ∙ regroup (u * s) (u * r) ((v - u) * r) (v * r) (sym (add-mul (v - u) u r) ∙ ap (λ i. i * r) parts) ∙ h.sum;
        left = ap (λ i. emb p a ⊗ i) (emb_add p s r) ∙ by (zmod p) 𝟙 h.left (by (zmod p) 𝟙 h.right (by (zmod p) (ng σ) difference (ring (zmod p) (emb p a ∷ emb p s ∷ emb p r ∷ σ ∷ emb p (v * 2 ^ k) ∷ emb p (u * 2 ^ k) ∷ emb p (q * 2 ^ (k + w)) ∷ []) (search quote depth 40) refl)));
        right = ap (λ i. emb p a ⊗ i) (emb_mul p r (2 ^ w)) ∙ by (zmod p) (emb p (2 ^ w)) h.right (by (zmod p) (ng (ng σ)) raised (ring (zmod p) (emb p a ∷ emb p r ∷ σ ∷ emb p (2 ^ w) ∷ emb p (u * 2 ^ k) ∷ emb p (u * 2 ^ (k + w)) ∷ []) (search quote depth 40) refl));
        size = trans (u * (q * 2 ^ (k + w))) (u * (v * 2 ^ k)) (p * a) (subst (λ (i : ℕ). u * i ≤ u * (v * 2 ^ k)) (sym power) (mul-le-mul_left {m = (v - u) * 2 ^ k} {n = v * 2 ^ k} u (mul-le-mul {n₁ = v - u} {m₁ = 2 ^ k} {n₂ = v} {m₂ = 2 ^ k} (omega arith) (same (2 ^ k))))) h.size;
      }
        where
          same : (x : ℕ) → x ≤ x
          same x = omega arith

          trans : (x y z : ℕ) → x ≤ y → y ≤ z → x ≤ z
          trans x y z f g = omega arith

          shared : q * (r * 2 ^ w) ≡ (v - u) * r
          shared = ap (λ i. q * i) (mul_comm r (2 ^ w)) ∙ sym (mul_assoc q (2 ^ w) r) ∙ ap (λ i. i * r) z.whole

          regroup : (x y c d : ℕ) → c + y ≡ d → x + y + c ≡ x + d
          regroup x y c d e = omega arith

          difference : emb p (q * 2 ^ (k + w)) ⊕ emb p (u * 2 ^ k) ≡ emb p (v * 2 ^ k)
          difference = sym (emb_add p (q * 2 ^ (k + w)) (u * 2 ^ k)) ∙ ap (emb p) (ap (λ i. i + u * 2 ^ k) power ∙ sym (add-mul (v - u) u (2 ^ k)) ∙ ap (λ i. i * 2 ^ k) parts)

          raised : emb p (u * 2 ^ (k + w)) ≡ emb p (u * 2 ^ k) ⊗ emb p (2 ^ w)
          raised = ap (emb p) (ap (λ i. u * i) (pow-add 2 k w) ∙ sym (mul_assoc u (2 ^ k) (2 ^ w))) ∙ emb_mul p (u * 2 ^ k) (2 ^ w)

      pub fewer : u + q < u + v
      fewer = omega (arith, div-le_self (v - u) (2 ^ w), h.u_some)

      -- a shift loses nothing
      pub shift_is : p ≤ top → r * 2 ^ w % 2 ^ 64 ≡ r * 2 ^ w
      shift_is m = mod-eq_of_lt (fits (r * 2 ^ w) (together' turned))
        where
          together' : Halving σ u q (r * 2 ^ w) (s + r) (k + w) → r * 2 ^ w ≤ p
          together' t = last (q * (r * 2 ^ w)) (u * (s + r)) (r * 2 ^ w) (at (r * 2 ^ w) q t.v_some) t.sum
            where
              at : (n i : ℕ) → 0 < i → n ≤ i * n
              at n i f = subst (λ (j : ℕ). j ≤ i * n) (one n) (mul-le-mul {n₁ = 1} {m₁ = n} {n₂ = i} {m₂ = n} f (omega arith))
                where
                  one : (j : ℕ) → 1 * j ≡ j
                  one j = omega arith

              last : (x y n : ℕ) → n ≤ x → y + x ≡ p → n ≤ p
              last x y n f e = omega arith

          fits : (n : ℕ) → n ≤ p → n < word
          fits n f = omega (arith, eight m)

  -- ---- the turns as the code makes them
  module _ {u v r s k w : ℕ} (i : Invertible p a) (h : Halving 𝟙 u v r s k) where
    pub again : u < v → Zeros (v - u) w → Halving 𝟙 u ((v - u) / 2 ^ w) (r * 2 ^ w % 2 ^ 64) (s + r) (k + w)
    again l z = subst (λ (n : ℕ). Halving 𝟙 u ((v - u) / 2 ^ w) n (s + r) (k + w)) (sym (shift_is h l z i.most)) (turned h l z)

    pub again_other : v < u → Zeros (u - v) w → Halving 𝟙 ((u - v) / 2 ^ w) v (r + s) (s * 2 ^ w % 2 ^ 64) (k + w)
    again_other l z = subst (λ (n : ℕ). Halving 𝟙 ((u - v) / 2 ^ w) v (r + s) n (k + w)) (sym (shift_is (change h) l z i.most))
        (subst (λ (x : A). Halving x ((u - v) / 2 ^ w) v (r + s) (s * 2 ^ w) (k + w)) (neg_neg (zmod p) 𝟙) (change (turned (change h) l z)))

    pub fewer_other : v < u → Zeros (u - v) w → (u - v) / 2 ^ w + v < u + v
    fewer_other l z = omega (arith, div-le_self (u - v) (2 ^ w), h.v_some)

    pub few_next : u < v → Zeros (v - u) w → k + w < 124
    few_next l z = few (turned h l z) i.most i.below

    pub few_other : v < u → Zeros (u - v) w → k + w < 124
    few_other l z = few (turned (change h) l z) i.most i.below

  -- ---- the end
  pub ended : {u v r s k : ℕ} → Invertible p a → Halving 𝟙 u v r s k → u ≡ v → AlmostIs p a (record { s = s; k = k })
  ended {u} {v} {r} {s} {k} i h e = record { small = omega (arith, together h); few = omega (arith, few h i.most i.below); is = h.left ∙ ring (zmod p) (emb p (v * 2 ^ k) ∷ []) (search quote depth 40) refl ∙ ap (emb p) (ap (λ n. n * 2 ^ k) one ∙ once (2 ^ k)) }
    where
      once : (n : ℕ) → 1 * n ≡ n
      once n = omega arith

      some : 0 < p
      some = omega (arith, i.prime.two)

      divides : u * (s + r) ≡ p
      divides = mul-add u s r ∙ ap (λ n. u * s + n * r) e ∙ h.sum

      -- a sum of cofactors that is 1 would make a itself 0
      whole : u ≡ p → ⊥
      whole f = i.nonzero (sym vanishes)
        where
          lone : s + r ≡ 1
          lone = single (s + r) (subst (λ (n : ℕ). n * (s + r) ≡ p) f divides)
            where
              single : (n : ℕ) → p * n ≡ p → n ≡ 1
              single n g = eq_of_mul-eq-mul_left p some n 1 (g ∙ sym (mul-one p))

          at_p : (n : ℕ) → n ≡ p → emb p (n * 2 ^ k) ≡ 𝟘
          at_p n g = ap (λ j. emb p (j * 2 ^ k)) g ∙ emb_mul p p (2 ^ k) ∙ ap (λ j. j ⊗ emb p (2 ^ k)) (emb_p p some) ∙ ring (zmod p) (emb p (2 ^ k) ∷ []) (search quote depth 40) refl

          vanishes : 𝟘 ≡ emb p a
          vanishes = by (zmod p) (ng 𝟙) h.left (by (zmod p) (ng 𝟙) h.right (by (zmod p) (ng 𝟙) (at_p v (sym e ∙ f)) (by (zmod p) 𝟙 (at_p u f) (by (zmod p) (emb p a) (sym (emb_add p s r) ∙ ap (emb p) lone ∙ emb_one p)
              (ring (zmod p) (emb p a ∷ emb p s ∷ emb p r ∷ emb p (v * 2 ^ k) ∷ emb p (u * 2 ^ k) ∷ []) (search quote depth 40) refl)))))

      one : v ≡ 1
      one = sym e ∙ lowest (dec_lt 1 u)
        where
          at_most : u ≤ p
          at_most = upto (s + r) divides
            where
              upto : (n : ℕ) → u * n ≡ p → u ≤ p
              upto n g = go (dec_lt 0 n)
                where
                  go : Dec (0 < n) → u ≤ p
                  go (yes l) = subst (λ (j : ℕ). u ≤ j) g (subst (λ (j : ℕ). j ≤ u * n) (mul-one u) (mul-le-mul {n₁ = u} {m₁ = 1} {n₂ = u} {m₂ = n} (omega arith) l))
                  go (no l) = absurd (omega (arith, some, sym g ∙ ap (λ j. u * j) {x = n} {y = 0} (omega arith) ∙ mul-zero u))

          lowest : Dec (1 < u) → u ≡ 1
          lowest (no l) = omega (arith, h.u_some)
          lowest (yes l) = absurd (omega (arith, i.prime.none u l (strict (whole)), ap (λ n. n % u) (sym divides) ∙ mul-mod_right u (s + r)))
            where
              strict : (u ≡ p → ⊥) → u < p
              strict n = omega (arith, n, at_most)

  -- what is invertible isn't 0
  pub nonzero : Invertible p a → 0 < a
  nonzero i = go (dec_lt 0 a)
    where
      go : Dec (0 < a) → 0 < a
      go (yes l) = l
      go (no l) = absurd (i.nonzero (ap (emb p) {x = a} {y = 0} (omega arith) ∙ emb_zero p))
