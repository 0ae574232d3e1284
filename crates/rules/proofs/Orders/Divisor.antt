-- Divisors of numbers: d divides n where n % d is 0. Gives: d times the quotient, and chains; that a number above 1 has a prime divisor
-- (`prime_divisor`); Euclid's lemma (`prime_divides`); and that a prime which divides a prime is that prime.
use Prim.Native.Nat.{ℕ, zero, suc, ◌+◌, ◌*◌, ◌/◌, ◌%◌, ◌≤◌, ◌<◌}
use mathlib.Core.Path.{◌≡◌, sym, ap, ◌∙◌, subst}
use mathlib.Core.Logic.{◌⊎◌, inl, inr}
use native.Mathlib.Decide.{ℕ_discrete, dec_lt}
use native.Mathlib.Omega.{arith}
use native.Mathlib.Nat.{div-add-mod, mod_self, mod-eq_of_lt, mul-mod_right, mul_assoc, eq-zero-or-pos}
use Rattle.algebra.proofs.Ring.Field.{no_zero_divisors}
use Rattle.algebra.proofs.Zmod.Zmod.{zmod, emb, num, emb_mul, emb_mod, emb_zero, num_emb, num_zero}
use Rattle.algebra.proofs.Zmod.Prime.{Prime}
use Rattle.algebra.proofs.Zmod.PrimeField.{prime_field}

pub whole : (d n : ℕ) → n % d ≡ 0 → d * (n / d) ≡ n
whole d n h = omega (arith, div-add-mod n d)

pub divides-by : (d n k : ℕ) → n ≡ d * k → n % d ≡ 0
divides-by d n k e = ap (λ (t : ℕ). t % d) e ∙ mul-mod_right d k

pub divides_chain : (c d n : ℕ) → d % c ≡ 0 → n % d ≡ 0 → n % c ≡ 0
divides_chain c d n h k = divides-by c n ((d / c) * (n / d)) (sym (whole d n k) ∙ ap (λ (t : ℕ). t * (n / d)) (sym (whole c d h)) ∙ mul_assoc c (d / c) (n / d))

pub divides-sum : (d a b : ℕ) → a % d ≡ 0 → b % d ≡ 0 → (a + b) % d ≡ 0
divides-sum d a b h k = divides-by d (a + b) (a / d + b / d) (omega (arith, whole d a h, whole d b k))

pub divides_le : (d n : ℕ) → 0 < n → n % d ≡ 0 → d ≤ n
divides_le d n pos h = go (dec_lt n d)
  where
    go : Dec (n < d) → d ≤ n
    go (yes l) = absurd (omega (arith, mod-eq_of_lt l))
    go (no l) = omega arith

-- ---- the least divisor above 1 is prime
pub record PrimeDivisor (n : ℕ) : Type 0 where
  pub divisor : ℕ
  pub prime : Prime divisor
  pub divides : n % divisor ≡ 0

-- from d on, where none below d divides n
least : (f d n : ℕ) → 1 < d → d + f ≡ n → ((k : ℕ) → 1 < k → k < d → 0 < n % k) → PrimeDivisor n
least zero d n two e none = record { divisor = n; prime = record { two = omega arith; none = λ k l h. none k l (omega arith) }; divides = mod_self n }
least (suc f) d n two e none = go (ℕ_discrete (n % d) 0) (λ below. least f (suc d) n (omega arith) (omega arith) below)
  where
    go : Dec (n % d ≡ 0) → (((k : ℕ) → 1 < k → k < suc d → 0 < n % k) → PrimeDivisor n) → PrimeDivisor n
    go (yes z) rec = record { divisor = d; prime = record { two = two; none = λ k l h. prime k l h (eq-zero-or-pos (d % k)) }; divides = z }
      where
        prime : (k : ℕ) → 1 < k → k < d → (d % k ≡ 0) ⊎ (0 < d % k) → 0 < d % k
        prime k l h (inl c) = absurd (omega (arith, none k l h, divides_chain k d n c z))
        prime k l h (inr p) = p
    go (no z) rec = rec (λ k l h. next k l h (ℕ_discrete k d))
      where
        next : (k : ℕ) → 1 < k → k < suc d → Dec (k ≡ d) → 0 < n % k
        next k l h (yes c) = subst (λ (x : ℕ). 0 < n % x) (sym c) (omega arith)
        next k l h (no c) = none k l (omega arith)

pub prime_divisor : (n : ℕ) → 1 < n → PrimeDivisor n
prime_divisor (suc (suc n)) l = least n 2 (suc (suc n)) (omega arith) (omega arith) (λ k a b. absurd (omega arith))
prime_divisor (suc zero) l = absurd (omega arith)
prime_divisor zero l = absurd (omega arith)

-- ---- a prime that divides a product divides a factor
module _ (l : ℕ) (prime : Prime l) where
  pos : 0 < l
  pos = omega (arith, prime.two)

  null : (n : ℕ) → emb l n ≡ (zmod l).zer → n % l ≡ 0
  null n e = sym (num_emb l pos n) ∙ ap (num l) e ∙ num_zero l pos

  null_back : (n : ℕ) → n % l ≡ 0 → emb l n ≡ (zmod l).zer
  null_back n h = sym (emb_mod l pos n) ∙ ap (emb l) h ∙ emb_zero l

  pub prime_divides : (a b : ℕ) → a * b % l ≡ 0 → (a % l ≡ 0) ⊎ (b % l ≡ 0)
  prime_divides a b h = go (ℕ_discrete (a % l) 0) (ℕ_discrete (b % l) 0)
    where
      go : Dec (a % l ≡ 0) → Dec (b % l ≡ 0) → (a % l ≡ 0) ⊎ (b % l ≡ 0)
      go (yes c) d = inl c
      go (no c) (yes d) = inr d
      go (no c) (no d) = absurd (no_zero_divisors (prime_field l prime) (emb l a) (emb l b) (λ e. c (null a e)) (λ e. d (null b e)) (sym (emb_mul l a b) ∙ null_back (a * b) h))

  pub prime_of_prime : (q : ℕ) → Prime q → q % l ≡ 0 → l ≡ q
  prime_of_prime q other h = go (ℕ_discrete l q)
    where
      go : Dec (l ≡ q) → l ≡ q
      go (yes e) = e
      go (no n) = absurd (omega (arith, other.none l prime.two (omega (arith, divides_le l q (omega (arith, other.two)) h)), h))
