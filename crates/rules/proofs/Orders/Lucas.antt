-- Lucas' test. Gives: p ≥ 2 is prime where some a has a^(p-1) = 1 modulo p, and no a^((p-1)/q) is 1 for a prime q that divides p - 1
-- (`lucas`); and so is what the test `is_lucas` accepts (`lucas_by_test`).
-- The order of a is then p - 1: the powers of a are p - 1 different units modulo p, and a divisor of p between 1 and p would be one more
-- number from 1 to p - 1, different from them as it isn't a unit.
use Prim.Native.Nat.{ℕ, zero, suc, ◌+◌, ◌*◌, ◌-◌, ◌/◌, ◌%◌, ◌≤◌, ◌<◌}
use mathlib.Core.Path.{◌≡◌, refl, sym, ap, ap₂, ◌∙◌}
use mathlib.Core.Logic.{◌↔◌, ◌≢◌, ◌⊎◌, inl, inr}
use mathlib.Core.List.{List, [], ◌∷◌}
use mathlib.Core.Bool.{true}
use native.Mathlib.Omega.{arith}
use native.Mathlib.Nat.{mod_self, mod-eq_of_lt, div-lt_self, eq-zero-or-pos}
use Rattle.algebra.proofs.Ring.CRing.{CRing}
use Rattle.algebra.proofs.Ring.Quote.{ring, quote, by}
use Rattle.algebra.proofs.Ring.Power.{power, power_none, power_add, has_power_one, power_one}
use Rattle.algebra.proofs.Zmod.Zmod.{zmod, emb, num, emb_num, num_inj, num_lt, emb_mul, emb_p, emb_zero, emb_inj}
use Rattle.algebra.proofs.Zmod.Prime.{Prime}
use Rattle.algebra.proofs.Zmod.PrimeField.{modulo}
use Rattle.rules.specs.Orders.Tests.{is_lucas}
use Rattle.rules.proofs.Orders.Divisor.{whole}
use Rattle.rules.proofs.Orders.Order.{Closed, order}
use Rattle.rules.proofs.Orders.Listed.{order_test}
use Rattle.rules.proofs.Orders.Pigeonhole.{pigeonhole}

-- ---- the exponents with a^m = 1, in any ring
module _ (R : CRing) (a : R.El) where
  open R use {El as A, mul as ◌⊗◌, one as 𝟙, one-mul}

  infixl 70 ◌⊗◌
  pub powers_closed : Closed (λ m. power R a m ≡ 𝟙)
  powers_closed = record {
    at_zero = power_none R a;
    sums = λ x y hx hy. power_add R a x y ∙ ap₂ ◌⊗◌ hx hy ∙ one-mul 𝟙;
    rests = λ x y hx h. sym (one-mul (power R a y)) ∙ ap (λ t. t ⊗ power R a y) (sym hx) ∙ sym (power_add R a x y) ∙ h;
  }

module _ (p : ℕ) (two : 2 ≤ p) where
  open zmod p use {El as A, mul as ◌⊗◌, zer as 𝟘, one as 𝟙}

  infixl 70 ◌⊗◌
  pos : 0 < p
  pos = omega arith

  -- a divisor of p above 1, p itself too, is no unit
  no_unit : (d : ℕ) → 1 < d → p % d ≡ 0 → (x : A) → emb p d ⊗ x ≡ 𝟙 → ⊥
  no_unit d l h x e = omega (arith, ap (λ (t : ℕ). d * t) none, whole d p h)
    where
      k : ℕ
      k = p / d

      null : emb p k ≡ 𝟘
      null = by (zmod p) (emb p k) (sym e) (by (zmod p) x product (ring (zmod p) (emb p d ∷ emb p k ∷ x ∷ []) (search quote depth 40) refl))
        where
          product : emb p d ⊗ emb p k ≡ 𝟘
          product = sym (emb_mul p d k) ∙ ap (emb p) (whole d p h) ∙ emb_p p pos

      none : k ≡ 0
      none = emb_inj p pos k 0 (div-lt_self pos l) pos (null ∙ sym (emb_zero p))

  -- an a of order p - 1
  module _ (a : A) (order_is : (m : ℕ) → (power (zmod p) a m ≡ 𝟙) ↔ (m % (p - 1) ≡ 0)) where
    one : power (zmod p) a (p - 1) ≡ 𝟙
    one = (order_is (p - 1)).1 (mod_self (p - 1))

    -- its powers are units
    unit : (i : ℕ) → i < p - 1 → power (zmod p) a i ⊗ power (zmod p) a (p - 1 - i) ≡ 𝟙
    unit i l = sym (power_add (zmod p) a i (p - 1 - i)) ∙ ap (power (zmod p) a) {x = i + (p - 1 - i)} {y = p - 1} (omega arith) ∙ one

    not_divisor : (d i : ℕ) → 1 < d → p % d ≡ 0 → i < p - 1 → power (zmod p) a i ≢ emb p d
    not_divisor d i l h k e = no_unit d l h (power (zmod p) a (p - 1 - i)) (ap (λ t. t ⊗ power (zmod p) a (p - 1 - i)) (sym e) ∙ unit i k)

    above_zero : (i : ℕ) → i < p - 1 → 0 < num p (power (zmod p) a i)
    above_zero i l = go (eq-zero-or-pos (num p (power (zmod p) a i)))
      where
        go : (num p (power (zmod p) a i) ≡ 0) ⊎ (0 < num p (power (zmod p) a i)) → 0 < num p (power (zmod p) a i)
        go (inl z) = absurd (not_divisor p i two (mod_self p) l (sym (emb_num p (power (zmod p) a i)) ∙ ap (emb p) z ∙ emb_zero p ∙ sym (emb_p p pos)))
        go (inr h) = h

    -- and different
    different : (i j : ℕ) → i < j → j < p - 1 → power (zmod p) a i ≢ power (zmod p) a j
    different i j l h e = omega (arith, (order_is (j - i)).0 back, mod-eq_of_lt {n = j - i} {m = p - 1} (omega arith))
      where
        round : power (zmod p) a (p - 1 + (j - i)) ≡ 𝟙
        round = ap (power (zmod p) a) {x = p - 1 + (j - i)} {y = j + (p - 1 - i)} (omega arith) ∙ power_add (zmod p) a j (p - 1 - i)
            ∙ ap (λ t. t ⊗ power (zmod p) a (p - 1 - i)) (sym e) ∙ unit i (omega arith)

        back : power (zmod p) a (j - i) ≡ 𝟙
        back = (powers_closed (zmod p) a).rests (p - 1) (j - i) one round

    -- a divisor between 1 and p, and the powers, are p numbers from 1 to p - 1
    abbrev value : ℕ → ℕ → ℕ
    value d zero = d - 1
    value d (suc i) = num p (power (zmod p) a i) - 1

    no_divisor : (d : ℕ) → 1 < d → d < p → p % d ≡ 0 → ⊥
    no_divisor d l h z = pigeonhole (p - 1) (value d) below apart
      where
        below : (i : ℕ) → i ≤ p - 1 → value d i < p - 1
        below zero k = omega arith
        below (suc i) k = omega (arith, num_lt p pos (power (zmod p) a i))

        apart : (i j : ℕ) → i < j → j ≤ p - 1 → value d i ≢ value d j
        apart i zero k m e = absurd (omega arith)
        apart zero (suc j) k m e = not_divisor d j l z m (sym (emb_num p (power (zmod p) a j)) ∙ ap (emb p) (omega arith))
        apart (suc i) (suc j) k m e = different i j (omega arith) m (num_inj p (omega (arith, above_zero i (omega arith), above_zero j (omega arith))))

    pub prime_by_order : Prime p
    prime_by_order = record { two = two; none = λ d l h. go d l h (eq-zero-or-pos (p % d)) }
      where
        go : (d : ℕ) → 1 < d → d < p → (p % d ≡ 0) ⊎ (0 < p % d) → 0 < p % d
        go d l h (inl z) = absurd (no_divisor d l h z)
        go d l h (inr k) = k

  pub lucas : (a : A) → power (zmod p) a (p - 1) ≡ 𝟙 → ((q : ℕ) → Prime q → (p - 1) % q ≡ 0 → power (zmod p) a ((p - 1) / q) ≢ 𝟙) → Prime p
  lucas a one least = prime_by_order a (order (λ m. power (zmod p) a m ≡ 𝟙) (powers_closed (zmod p) a) (p - 1) (omega arith) one least)

-- ---- by the test
pub lucas_by_test : (p : ℕ) → 2 ≤ p → (a : ℕ) (l : List ℕ) → is_lucas p a l ≡ true → Prime p
unfolding is_lucas
lucas_by_test p two a l t = prime_by_order p two (emb p a)
    ((order_test (λ m. power (zmod p) (emb p a) m ≡ (zmod p).one) (powers_closed (zmod p) (emb p a)) (has_power_one (modulo p) (emb p a)) (power_one (modulo p) (emb p a)) (p - 1) l).0 t).exactly

-- 3 has order 30 modulo 31
example_31 : Prime 31
example_31 = lucas_by_test 31 (omega arith) 3 (2 ∷ 3 ∷ 5 ∷ []) (unfold is_lucas in refl)
