-- Formal power series over a commutative ring: functions ℕ → A, coefficient by coefficient, with the product by head and tail,
--   (p · q)(n + 1) = p₀ · q(n + 1) + (tail p · q)(n).
-- Gives: the operations, their laws by short inductions, and the ring `series`. Polynomials (poly.Poly) are the bounded ones.
-- Open: sums, opposites, scaling. Shut (`unfoldable`): the product `mul_s` and the constant `con`.
use Prim.Native.Nat.{ℕ, zero, suc}
use mathlib.Core.Path.{◌≡◌, refl, sym, ap, ap₂, ◌∙◌, fun_ext}
use mathlib.Core.List.{[], ◌∷◌}
use mathlib.Core.HLevel.{Π_set}
use Rattle.algebra.proofs.Ring.CRing.{CRing, add_zer, zer_mul}
use Rattle.algebra.proofs.Ring.Quote.{ring, quote}

module _ (F : CRing) where
  open F use {El as A, add as ◌+◌, mul as ◌*◌, neg, zer as 𝟘, one as 𝟙, add_assoc, add_comm, zer_add, neg_add, mul_assoc, mul_comm, one-mul, add-mul}

  infixl 65 ◌+◌
  infixl 70 ◌*◌
  abbrev pub Ser : Type 0
  Ser = ℕ → A

  abbrev pub tail : Ser → Ser
  tail p n = p (suc n)

  abbrev pub add_s : Ser → Ser → Ser
  add_s p q n = p n + q n

  abbrev pub neg_s : Ser → Ser
  neg_s p n = neg (p n)

  abbrev pub zer_s : Ser
  zer_s n = 𝟘

  -- a constant
  unfoldable pub con : A → Ser
  con a zero = a
  con a (suc n) = 𝟘

  abbrev pub sca : A → Ser → Ser
  sca c p n = c * p n

  unfoldable pub mul_s : Ser → Ser → Ser
  mul_s p q zero = p zero * q zero
  mul_s p q (suc n) = p zero * q (suc n) + mul_s (tail p) q n

  pub add_mulS : (p q r : Ser) (n : ℕ) → mul_s (add_s p q) r n ≡ mul_s p r n + mul_s q r n
  unfolding mul_s
  add_mulS p q r zero = ring F (p 0 ∷ q 0 ∷ r 0 ∷ []) (search quote depth 40) refl
  add_mulS p q r (suc n) = ap (λ t. (p zero + q zero) * r (suc n) + t) (add_mulS (tail p) (tail q) r n)
      ∙ ring F (p 0 ∷ q 0 ∷ r (suc n) ∷ mul_s (tail p) r n ∷ mul_s (tail q) r n ∷ []) (search quote depth 40) refl

  pub sca_mulS : (c : A) (p q : Ser) (n : ℕ) → mul_s (sca c p) q n ≡ c * mul_s p q n
  unfolding mul_s
  sca_mulS c p q zero = mul_assoc c (p 0) (q 0)
  sca_mulS c p q (suc n) = ap (λ t. c * p zero * q (suc n) + t) (sca_mulS c (tail p) q n)
      ∙ ring F (c ∷ p 0 ∷ q (suc n) ∷ mul_s (tail p) q n ∷ []) (search quote depth 40) refl

  pub zer_mulS : (q : Ser) (n : ℕ) → mul_s zer_s q n ≡ 𝟘
  unfolding mul_s
  zer_mulS q zero = zer_mul F (q 0)
  zer_mulS q (suc n) = ap₂ ◌+◌ (zer_mul F (q (suc n))) (zer_mulS q n) ∙ zer_add 𝟘

  pub mirror : (p q : Ser) (n : ℕ) → mul_s p q (suc n) ≡ mul_s p (tail q) n + p (suc n) * q zero
  unfolding mul_s
  mirror p q zero = refl
  mirror p q (suc n) = ap (λ t. p zero * q (suc (suc n)) + t) (mirror (tail p) q n)
      ∙ sym (add_assoc (p 0 * q (suc (suc n))) (mul_s (tail p) (tail q) n) (p (suc (suc n)) * q 0))

  pub mulS_comm : (p q : Ser) (n : ℕ) → mul_s p q n ≡ mul_s q p n
  unfolding mul_s
  mulS_comm p q zero = mul_comm (p 0) (q 0)
  mulS_comm p q (suc n) = ap (λ t. p zero * q (suc n) + t) (mulS_comm (tail p) q n)
      ∙ ring F (p 0 ∷ q (suc n) ∷ mul_s q (tail p) n ∷ []) (search quote depth 40) refl
      ∙ sym (mirror q p n)

  pub mulS_assoc : (p q r : Ser) (n : ℕ) → mul_s (mul_s p q) r n ≡ mul_s p (mul_s q r) n
  unfolding mul_s
  mulS_assoc p q r zero = mul_assoc (p 0) (q 0) (r 0)
  mulS_assoc p q r (suc n) = ap (λ t. p zero * q zero * r (suc n) + t)
      (add_mulS (sca (p 0) (tail q)) (mul_s (tail p) q) r n ∙ ap₂ ◌+◌ (sca_mulS (p 0) (tail q) r n) (mulS_assoc (tail p) q r n))
      ∙ ring F (p 0 ∷ q 0 ∷ r (suc n) ∷ mul_s (tail q) r n ∷ mul_s (tail p) (mul_s q r) n ∷ []) (search quote depth 40) refl

  pub con_mulS : (c : A) (q : Ser) (n : ℕ) → mul_s (con c) q n ≡ c * q n
  unfolding mul_s con
  con_mulS c q zero = refl
  con_mulS c q (suc n) = ap (λ t. c * q (suc n) + t) (zer_mulS q n) ∙ add_zer F (c * q (suc n))

  abbrev pub series : CRing
  series = record {
    El = Ser;
    add = add_s;
    mul = mul_s;
    neg = neg_s;
    zer = zer_s;
    one = con 𝟙;
    is_set = Π_set (λ n. F.is_set);
    add_assoc = λ a b c. fun_ext (λ n. add_assoc (a n) (b n) (c n));
    add_comm = λ a b. fun_ext (λ n. add_comm (a n) (b n));
    zer_add = λ a. fun_ext (λ n. zer_add (a n));
    neg_add = λ a. fun_ext (λ n. neg_add (a n));
    mul_assoc = λ a b c. fun_ext (mulS_assoc a b c);
    mul_comm = λ a b. fun_ext (mulS_comm a b);
    one-mul = λ a. fun_ext (λ n. con_mulS 𝟙 a n ∙ one-mul (a n));
    add-mul = λ a b c. fun_ext (add_mulS a b c);
  }
