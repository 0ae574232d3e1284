-- Trial division by 2, 3, 5 and the numbers that are multiples of none of them. The loop keeps: nothing from 2 to d - 1 divides p; a turn passes
-- the thirty numbers from d on at once.
use Prim.Native.Nat.{ℕ, ◌+◌, ◌*◌, ◌%◌, ◌≤◌, ◌<◌}
use mathlib.Core.Path.{◌≡◌, refl, sym, ap, subst}
use mathlib.Core.Bool.{Bool, true, false}
use native.Mathlib.Omega.{arith}
use native.Mathlib.Decide.{ℕ_discrete, dec_lt}
use native.Mathlib.Nat.{mul-le-mul_left, mul-le-mul, mod_self, mod-eq_of_lt}
use lib.Dec.{eqb}
use borrow.Author.Tests.{eqb-true, eqb-false}
use Rattle.algebra.proofs.Zmod.Prime.{prime_by_root, prime_by_test, is_prime}
use Rattle.field_primes.specs.Primes.{Decides, OddPrime, limit}
use Rattle.field_primes.specs.Wheel.{Left, DividedFrom}
use Rattle.field_primes.proofs.Wheel.{multiple}

pub record Tried (p d : ℕ) : Type 0 where
  pub from : 7 ≤ d
  pub within : d ≤ p
  pub small : d ≤ 46370
  pub turn : d % 30 ≡ 7
  pub none : (k : ℕ) → 1 < k → k < d → 0 < p % k

-- a square within the limit is that of a number below 46,341
pub root-small : (d : ℕ) → d * d ≤ limit → d ≤ 46340
root-small d r = go (dec_lt d 46341)
  where
    go : Dec (d < 46341) → d ≤ 46340
    go (yes l) = omega arith
    go (no l) = absurd (omega (arith, mul-le-mul {n₁ = 46341} {m₁ = 46341} {n₂ = d} {m₂ = d} (omega arith) (omega arith)))

module _ (p : ℕ) (two : p % 2 ≡ 0 → ⊥) (three : p % 3 ≡ 0 → ⊥) (five : p % 5 ≡ 0 → ⊥) where
  below_seven : (k : ℕ) → 1 < k → k < 7 → Dec (k ≡ 3) → Dec (k ≡ 5) → p % k ≡ 0 → ⊥
  below_seven k h j (yes e) f z = multiple p 3 k three z (ap (λ (n : ℕ). n % 3) e)
  below_seven k h j (no e) (yes f) z = multiple p 5 k five z (ap (λ (n : ℕ). n % 5) f)
  below_seven k h j (no e) (no f) z = multiple p 2 k two z (omega arith)

  -- else p would be divided by itself
  from_seven : 3 ≤ p → Dec (p < 7) → 7 ≤ p
  from_seven l (yes h) = absurd (below_seven p (omega arith) h (ℕ_discrete p 3) (ℕ_discrete p 5) (mod_self p))
  from_seven l (no h) = omega arith

  pub tried_begin : 3 ≤ p → Tried p 7
  tried_begin l = record {
    from = omega arith;
    within = from_seven l (dec_lt p 7);
    small = omega arith;
    turn = omega arith;
    none = λ k h j. omega (arith, below_seven k h j (ℕ_discrete k 3) (ℕ_discrete k 5));
  }

  pub left : {d : ℕ} → Tried p d → d * d ≤ p → p ≤ limit → Left p d
  left {d} t r s = record { odd = two; threes = three; fives = five; turn = t.turn; small = root-small d (omega arith) }

  -- d + 30 stays below p: d · d is at least seven times d
  pub room : {d : ℕ} → Tried p d → d * d ≤ p → d + 30 ≤ p
  room {d} t r = omega (arith, mul-le-mul_left {m = 7} {n = d} d t.from)

  pub tried_turn : {d : ℕ} → Tried p d → d * d ≤ p → p ≤ limit → (DividedFrom p d → ⊥) → Tried p (d + 30)
  tried_turn {d} t r s n = record {
    from = omega (arith, t.from);
    within = room t r;
    small = omega (arith, root-small d (omega arith));
    turn = omega (arith, t.turn);
    none = λ k h l. at k h l (dec_lt k d);
  }
    where
      at : (k : ℕ) → 1 < k → k < d + 30 → Dec (k < d) → 0 < p % k
      at k h l (yes j) = t.none k h j
      at k h l (no j) = let none : p % k ≡ 0 → ⊥ = λ z. n (record { by = k; from = omega arith; before = l; whole = z }) in omega arith

pub tried-end : {p d : ℕ} → Tried p d → p < d * d → 3 ≤ p → p ≤ limit → OddPrime p
tried-end {p} {d} t r l s = record { is = prime_by_root p d (omega arith) r t.none; odd = l; small = s }

-- what fails on the way is no odd prime within the limit
pub not_whole : (p d : ℕ) → 1 < d → d < p → p % d ≡ 0 → OddPrime p → ⊥
not_whole p d h l e o = omega (arith, o.is.none d h l)

pub not_divided : {p d : ℕ} → Tried p d → d * d ≤ p → DividedFrom p d → OddPrime p → ⊥
not_divided {p} {d} t r f = not_whole p f.by (omega (arith, t.from, f.from)) (omega (arith, f.before, mul-le-mul_left {m = 7} {n = d} d t.from)) f.whole

-- what c divides is an odd prime exactly where it is c
pub decides_small : (p c : ℕ) → 3 ≤ p → p % c ≡ 0 → OddPrime c → Decides (eqb p c) (OddPrime p)
decides_small p c l z o = go (eqb p c) refl
  where
    big : (p ≡ c → ⊥) → Dec (c < p) → c < p
    big n (yes h) = h
    big n (no h) = absurd (omega (arith, mod-eq_of_lt {n = p} {m = c} (omega arith)))

    other : eqb p c ≡ false → OddPrime p → ⊥
    other e = not_whole p c (omega (arith, o.odd)) (big (eqb-false p c e) (dec_lt c p)) z

    go : (b : Bool) → eqb p c ≡ b → Decides b (OddPrime p)
    go true e = subst OddPrime (sym (eqb-true p c e)) o
    go false e = other e

pub three-prime : OddPrime 3
unfolding is_prime
three-prime = record { is = prime_by_test 3 refl; odd = omega arith; small = omega arith }

pub five_prime : OddPrime 5
unfolding is_prime
five_prime = record { is = prime_by_test 5 refl; odd = omega arith; small = omega arith }

-- a square of a number up to 46,370 fits 32 bits
pub fits : {d : ℕ} → d ≤ 46370 → d * d ≤ 2150176900
fits {d} h = mul-le-mul {n₁ = d} {m₁ = d} {n₂ = 46370} {m₂ = 46370} h h
