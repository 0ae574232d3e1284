-- Primes. Gives: the one proposition `Prime p`, that p is at least 2 and no number between 1 and p divides it; `prime_by_root`, that it
-- is enough to try the numbers whose square is at most p; `prime_by_test` and `test_by_prime`, that the test `is_prime` decides it. And `OddPrime`, an odd
-- prime within a limit.
use Prim.Native.Nat.{ℕ, zero, suc, ◌*◌, ◌/◌, ◌%◌, ◌≤◌, ◌<◌}
use mathlib.Core.Path.{◌≡◌, refl, sym, ap, ◌∙◌, subst}
use mathlib.Core.Bool.{Bool, true, false, false≢true}
use native.Mathlib.Decide.{ℕ_discrete, dec_lt}
use native.Mathlib.Omega.{arith}
use native.Mathlib.Nat.{div-add-mod, mul-le-mul, mul-le-mul_left, mul-mod_left}

pub record Prime (p : ℕ) : Type 0 where
  pub two : 2 ≤ p
  pub none : (d : ℕ) → 1 < d → d < p → 0 < p % d

pub record OddPrime (limit p : ℕ) : Type 0 where
  pub is : Prime p
  pub odd : 3 ≤ p
  pub small : p ≤ limit

-- no number from 2 to d - 1 divides p, and p < d · d
module _ (p d : ℕ) (two : 2 ≤ p) (root : p < d * d) (below : (k : ℕ) → 1 < k → k < d → 0 < p % k) where
  -- k and p / k are not both d or more, and where one divides p, so does the other
  other : (k : ℕ) → 1 < k → k < p → d ≤ k → p % k ≡ 0 → ⊥
  other k k2 kp kd z = let rest : 0 < p % (p / k) = below (p / k) big (short (dec_lt (p / k) d)) in omega (arith, ap (λ (n : ℕ). n % (p / k)) (sym whole) ∙ mul-mod_left k (p / k))
    where
      whole : k * (p / k) ≡ p
      whole = omega (arith, div-add-mod p k)

      big : 1 < p / k
      big = go (dec_lt 1 (p / k))
        where
          go : Dec (1 < p / k) → 1 < p / k
          go (yes l) = l
          go (no l) = absurd (omega (arith, whole, mul-le-mul_left {m = p / k} {n = 1} k (omega arith)))

      short : Dec (p / k < d) → p / k < d
      short (yes l) = l
      short (no l) = absurd (omega (arith, whole, mul-le-mul {n₁ = d} {m₁ = d} {n₂ = k} {m₂ = p / k} kd (omega arith)))

  pub prime_by_root : Prime p
  prime_by_root = record { two = two; none = λ k k2 kp. go k k2 kp (dec_lt k d) }
    where
      go : (k : ℕ) → 1 < k → k < p → Dec (k < d) → 0 < p % k
      go k k2 kp (yes l) = below k k2 l
      go k k2 kp (no l) = omega (arith, other k k2 kp (omega arith))

-- ---- the test: no number from 2 up to d, d included, divides p
unfoldable pub no_divisor : ℕ → ℕ → Bool
no_divisor p zero = true
no_divisor p (suc zero) = true
no_divisor p (suc (suc d)) = elim (p % suc (suc d)) [ zero ↦ false | suc r ↦ no_divisor p (suc d) ]

unfoldable pub is_prime : ℕ → Bool
unfolding no_divisor
is_prime zero = false
is_prime (suc zero) = false
is_prime (suc (suc p)) = no_divisor (suc (suc p)) (suc p)

no_divisor_sound : (p d : ℕ) → no_divisor p d ≡ true → (e : ℕ) → 1 < e → e ≤ d → 0 < p % e
unfolding no_divisor
no_divisor_sound p zero t e h k = absurd (omega arith)
no_divisor_sound p (suc zero) t e h k = absurd (omega arith)
no_divisor_sound p (suc (suc d)) t e h k = go (p % suc (suc d)) refl t (ℕ_discrete e (suc (suc d))) (λ u l. no_divisor_sound p (suc d) u e h l)
  where
    go : (r : ℕ) → p % suc (suc d) ≡ r → elim r [ zero ↦ false | suc r ↦ no_divisor p (suc d) ] ≡ true → Dec (e ≡ suc (suc d))
        → (no_divisor p (suc d) ≡ true → e ≤ suc d → 0 < p % e) → 0 < p % e
    go zero q u w rec = absurd (false≢true u)
    go (suc r) q u (yes w) rec = subst (λ (x : ℕ). 0 < p % x) (sym w) (omega arith)
    go (suc r) q u (no w) rec = rec u (omega arith)

pub prime_by_test : (p : ℕ) → is_prime p ≡ true → Prime p
unfolding is_prime
prime_by_test zero t = absurd (false≢true t)
prime_by_test (suc zero) t = absurd (false≢true t)
prime_by_test (suc (suc p)) t = record { two = omega arith; none = λ d h k. no_divisor_sound (suc (suc p)) (suc p) t d h (omega arith) }

no_divisor_complete : (p d : ℕ) → ((e : ℕ) → 1 < e → e ≤ d → 0 < p % e) → no_divisor p d ≡ true
unfolding no_divisor
no_divisor_complete p zero h = refl
no_divisor_complete p (suc zero) h = refl
no_divisor_complete p (suc (suc d)) h = go (p % suc (suc d)) (h (suc (suc d)) (omega arith) (omega arith)) (no_divisor_complete p (suc d) (λ e l k. h e l (omega arith)))
  where
    go : (r : ℕ) → 0 < r → no_divisor p (suc d) ≡ true → elim r [ zero ↦ false | suc r ↦ no_divisor p (suc d) ] ≡ true
    go zero l e = absurd (omega arith)
    go (suc r) l e = e

-- the test is complete
pub test_by_prime : (p : ℕ) → Prime p → is_prime p ≡ true
unfolding is_prime
test_by_prime zero h = absurd (omega (arith, h.two))
test_by_prime (suc zero) h = absurd (omega (arith, h.two))
test_by_prime (suc (suc p)) h = no_divisor_complete (suc (suc p)) (suc p) (λ e l k. h.none e l (omega arith))
