-- What the count of trailing zeros says of a number that isn't 0: it is below the width, 2 to it divides the number, and what is left is odd.
use Rattle.std.proofs.Common.{◌≡◌, ℕ, zero, suc, ◌+◌, ◌*◌, ◌/◌, ◌%◌, ◌^◌, ◌<◌, sym, refl, ap, ◌∙◌, mul_assoc, arith, pow-add}
use lib.Pow.{shl-shr}
use lib.Count.{count_trailing_zeros, under}
use Rattle.field_words.specs.Newton.{Zeros}

pub pow_more : (t : ℕ) → 2 ^ suc t ≡ 2 ^ t * 2
pow_more t = ap (λ (n : ℕ). 2 ^ n) {x = suc t} {y = t + 1} (omega arith) ∙ pow-add 2 t 1

-- of k bits: what is left of n without its t twos
record Part (k n t : ℕ) : Type 0 where
  pub of : ℕ
  pub is : of * 2 ^ t ≡ n
  pub odd : 0 < n → n < 2 ^ k → of % 2 ≡ 1

part : (k n : ℕ) → Part k n (count_trailing_zeros k n)
unfolding count_trailing_zeros
part zero n = record { of = n; is = omega arith; odd = λ l u. absurd (omega arith) }
part (suc k) n = go (n % 2) refl (part k (n / 2))
  where
    go : (d : ℕ) → n % 2 ≡ d → Part k (n / 2) (count_trailing_zeros k (n / 2)) → Part (suc k) n (under d (count_trailing_zeros k (n / 2)))
    go zero e h = record {
      of = h.of;
      is = ap (λ x. h.of * x) (pow_more (count_trailing_zeros k (n / 2))) ∙ sym (mul_assoc h.of (2 ^ count_trailing_zeros k (n / 2)) 2) ∙ ap (λ x. x * 2) h.is ∙ omega arith;
      odd = λ l u. h.odd (omega arith) (omega (arith, pow_more k));
    }
    go (suc d) e h = record { of = n; is = omega arith; odd = λ l u. omega arith }

small : (k n : ℕ) → 0 < n → n < 2 ^ k → count_trailing_zeros k n < k
unfolding count_trailing_zeros
small zero n l u = absurd (omega arith)
small (suc k) n l u = go (n % 2) refl (λ j. small k (n / 2) j (omega (arith, pow_more k)))
  where
    go : (d : ℕ) → n % 2 ≡ d → (0 < n / 2 → count_trailing_zeros k (n / 2) < k) → under d (count_trailing_zeros k (n / 2)) < suc k
    go zero e h = let j : count_trailing_zeros k (n / 2) < k = h (omega arith) in omega arith
    go (suc d) e h = omega arith

pub twos_is : (n : ℕ) → 0 < n → n < 2 ^ 64 → Zeros n (count_trailing_zeros 64 n)
twos_is n l u = record { small = small 64 n l u; whole = ap (λ x. x * 2 ^ t) left ∙ h.is; all = ap (λ x. x % 2) left ∙ h.odd l u }
  where
    t : ℕ
    t = count_trailing_zeros 64 n

    h : Part 64 n (count_trailing_zeros 64 n)
    h = part 64 n

    left : n / 2 ^ count_trailing_zeros 64 n ≡ h.of
    left = ap (λ x. x / 2 ^ count_trailing_zeros 64 n) (sym h.is) ∙ shl-shr h.of (count_trailing_zeros 64 n)
