-- The order lemma. Gives: for a predicate N on numbers that holds of 0, of sums, and of what is left of a sum when a part that has it is
-- taken away (`Closed N`): where n > 0 has N, and n / l hasn't for any prime l that divides n, exactly the multiples of n have N (`order`).
-- Euclid's algorithm leads from n and m to a common divisor that has N.
use Prim.Native.Nat.{ℕ, zero, suc, ◌+◌, ◌*◌, ◌/◌, ◌%◌, ◌≤◌, ◌<◌}
use mathlib.Core.Path.{◌≡◌, sym, ap, ◌∙◌, subst}
use mathlib.Core.Logic.{◌↔◌}
use native.Mathlib.Decide.{dec_lt}
use native.Mathlib.Omega.{arith}
use native.Mathlib.Nat.{div-add-mod, mod_self, mod-lt, zero-mod, mul-zero, mul-suc, mul_comm, mul_left_comm, mul-mod_right, div-eq_of_eq-mul_right}
use Rattle.algebra.proofs.Zmod.Prime.{Prime}
use Rattle.rules.proofs.Orders.Divisor.{whole, divides-by, divides_chain, divides-sum, prime_divisor}

pub record Closed (N : ℕ → Type 0) : Type 0 where
  pub at_zero : N 0
  pub sums : (x y : ℕ) → N x → N y → N (x + y)
  pub rests : (x y : ℕ) → N x → N (x + y) → N y

module _ (N : ℕ → Type 0) (closed : Closed N) where
  multiples : (n k : ℕ) → N n → N (n * k)
  multiples n zero h = subst N (sym (mul-zero n)) closed.at_zero
  multiples n (suc k) h = subst N (sym (mul-suc n k)) (closed.sums (n * k) n (multiples n k h) h)

  remainders : (m n : ℕ) → N m → N n → N (m % n)
  remainders m n hm hn = closed.rests (n * (m / n)) (m % n) (multiples n (m / n) hn) (subst N (sym (div-add-mod m n)) hm)

  record Common (m n : ℕ) : Type 0 where
    e : ℕ
    has : N e
    first : m % e ≡ 0
    second : n % e ≡ 0

  common : (f m n : ℕ) → n ≤ f → N m → N n → Common m n
  common zero m zero l hm hn = record { e = m; has = hm; first = mod_self m; second = zero-mod m }
  common zero m (suc n) l hm hn = absurd (omega arith)
  common (suc f) m zero l hm hn = record { e = m; has = hm; first = mod_self m; second = zero-mod m }
  common (suc f) m (suc n) l hm hn = up (common f (suc n) (m % suc n) (omega (arith, mod-lt m {m = suc n} (omega arith))) hn (remainders m (suc n) hm hn))
    where
      up : Common (suc n) (m % suc n) → Common m (suc n)
      up c = record { e = c.e; has = c.has; first = first; second = c.first }
        where
          first : m % c.e ≡ 0
          first = ap (λ (t : ℕ). t % c.e) (sym (div-add-mod m (suc n)))
              ∙ divides-sum c.e (suc n * (m / suc n)) (m % suc n) (divides_chain c.e (suc n) (suc n * (m / suc n)) c.first (mul-mod_right (suc n) (m / suc n))) c.second

  pub order : (n : ℕ) → 0 < n → N n → ((l : ℕ) → Prime l → n % l ≡ 0 → N (n / l) → ⊥) → (m : ℕ) → N m ↔ (m % n ≡ 0)
  order n pos hn least m = (λ hm. only (common n m n (omega arith) hm hn), λ z. subst N (whole n m z) (multiples n (m / n) hn))
    where
      only : Common m n → m % n ≡ 0
      only c = go (dec_lt 1 k)
        where
          k : ℕ
          k = n / c.e

          n_is : c.e * k ≡ n
          n_is = whole c.e n c.second

          one : (i : ℕ) → (1 < i → ⊥) → c.e * i ≡ n → c.e ≡ n
          one zero h e = absurd (omega (arith, mul-zero c.e))
          one (suc zero) h e = omega arith
          one (suc (suc i)) h e = absurd (h (omega arith))

          go : Dec (1 < k) → m % n ≡ 0
          go (yes l) = let d = prime_divisor k l in
              let above : 0 < d.divisor = omega (arith, d.prime.two) in
              let quotient : n / d.divisor ≡ c.e * (k / d.divisor) = div-eq_of_eq-mul_right above
              (sym n_is ∙ ap (λ (t : ℕ). c.e * t) (sym (whole d.divisor k d.divides)) ∙ mul_left_comm c.e d.divisor (k / d.divisor)) in
              absurd (least d.divisor d.prime (divides_chain d.divisor k n d.divides (divides-by k n c.e (sym n_is ∙ mul_comm c.e k)))
              (subst N (sym quotient) (multiples c.e (k / d.divisor) c.has)))
          go (no l) = subst (λ (t : ℕ). m % t ≡ 0) (one k l n_is) c.first
