-- A number's primes, listed. Gives: `Powers b n l`, that n is a product of powers of the listed primes, which rise from above b, each at least once; that the test `is_made_of`
-- decides it (`factors_decides`); and that the list then has exactly the primes that divide n (`Factored`, `factored`).
-- Open: `Powers`.
use Prim.Native.Nat.{ℕ, zero, suc, ◌*◌, ◌/◌, ◌%◌, ◌^◌, ◌≤◌, ◌<◌}
use mathlib.Core.Path.{◌≡◌, refl, sym, ap, ap₂, ◌∙◌, subst}
use mathlib.Core.Logic.{◌↔◌, ◌⊎◌, inl, inr}
use mathlib.Core.List.Memᴰ
use mathlib.Core.List.{List, [], ◌∷◌, Memᴰ}
use mathlib.Core.Bool.{true, ◌&&◌, and-eq-true_iff}
use native.Mathlib.Omega.{arith}
use native.Mathlib.Nat.{mod-eq_of_lt, mod-le, mul_assoc, mul_comm, one-mul, mul-zero, mul-pos, one-le-pow, pow-suc, pow-zero, pow-succ', mul-div_right, div-lt_self, eq-zero-or-pos}
use lib.Dec.{ltb, eqb}
use borrow.Author.Tests.{ltb-true, eqb-true, lt-ltb, eq-eqb}
use Rattle.algebra.proofs.Zmod.Prime.{Prime, is_prime, prime_by_test, test_by_prime}
use Rattle.rules.specs.Orders.Tests.{strip, is_made_of}
use Rattle.rules.proofs.Orders.Divisor.{whole, divides-by, divides_chain, prime_divides, prime_of_prime}

abbrev pub Powers : (b n : ℕ) → List ℕ → Type 0
Powers b n [] = n ≡ 1
Powers b n (q ∷ l) = (b < q) × Prime q × ((k m : ℕ) × (n ≡ q ^ suc k * m) × Powers q m l)

power_out : (q k m : ℕ) → q ^ suc k * m ≡ q * (q ^ k * m)
power_out q k m = ap (λ (t : ℕ). t * m) (pow-succ' q k) ∙ mul_assoc q (q ^ k) m

-- ---- which primes divide n
pub record Factored (n : ℕ) (l : List ℕ) : Type 0 where
  pub each : (q : ℕ) → Memᴰ q l → Prime q × (n % q ≡ 0)
  pub all : (q : ℕ) → Prime q → n % q ≡ 0 → Memᴰ q l

not_of_one : (p : ℕ) → Prime p → 1 % p ≡ 0 → ⊥
not_of_one p h z = omega (arith, mod-eq_of_lt h.two)

of_power : (p q k : ℕ) → Prime p → Prime q → q ^ k % p ≡ 0 → p ≡ q
of_power p q zero hp hq z = absurd (not_of_one p hp (ap (λ (t : ℕ). t % p) (sym (pow-zero q)) ∙ z))
of_power p q (suc k) hp hq z = go (prime_divides p hp (q ^ k) q (ap (λ (t : ℕ). t % p) (sym (pow-suc q k)) ∙ z)) (of_power p q k hp hq)
  where
    go : (q ^ k % p ≡ 0) ⊎ (q % p ≡ 0) → (q ^ k % p ≡ 0 → p ≡ q) → p ≡ q
    go (inl d) rec = rec d
    go (inr d) rec = prime_of_prime p hp q hq d

pub factored : (b n : ℕ) (l : List ℕ) → Powers b n l → Factored n l
factored b n [] h = record { each = λ q m. absurd (Memᴰ.not-nil m); all = λ q hq z. absurd (not_of_one q hq (ap (λ (t : ℕ). t % q) (sym h) ∙ z)) }
factored b n (q ∷ l) (l0, hq, (k, m, e, h)) = more (factored q m l h)
  where
    more : Factored m l → Factored n (q ∷ l)
    more f = record { each = λ p i. each p (Memᴰ.cases_cons i); all = λ p hp z. all p hp (prime_divides p hp (q ^ suc k) m (ap (λ (t : ℕ). t % p) (sym e) ∙ z)) }
      where
        each : (p : ℕ) → (p ≡ q) ⊎ Memᴰ p l → Prime p × (n % p ≡ 0)
        each p (inl s) = subst (λ (x : ℕ). Prime x × (n % x ≡ 0)) (sym s) (hq, divides-by q n (q ^ k * m) (e ∙ power_out q k m))
        each p (inr i) = ((f.each p i).0, divides_chain p m n (f.each p i).1 (divides-by m n (q ^ suc k) (e ∙ mul_comm (q ^ suc k) m)))

        all : (p : ℕ) → Prime p → (q ^ suc k % p ≡ 0) ⊎ (m % p ≡ 0) → Memᴰ p (q ∷ l)
        all p hp (inl d) = Memᴰ.head (of_power p q (suc k) hp hq d)
        all p hp (inr d) = Memᴰ.tail (f.all p hp d)

-- ---- the test passes only then
more_power : (q n k s : ℕ) → n % q ≡ 0 → n / q ≡ q ^ k * s → n ≡ q ^ suc k * s
more_power q n k s z e = sym (whole q n z) ∙ ap (λ (t : ℕ). q * t) e ∙ sym (power_out q k s)

strip_is : (f q n : ℕ) → (k : ℕ) × (n ≡ q ^ k * strip f q n)
unfolding strip
strip_is zero q n = (0, sym (ap (λ (t : ℕ). t * n) (pow-zero q) ∙ one-mul n))
strip_is (suc f) q n = go (n % q) refl (strip_is f q (n / q))
  where
    go : (r : ℕ) → n % q ≡ r → (k : ℕ) × (n / q ≡ q ^ k * strip f q (n / q)) → (k : ℕ) × (n ≡ q ^ k * elim r [ zero ↦ strip f q (n / q) | suc r ↦ n ])
    go zero z s = (suc s.0, more_power q n s.0 (strip f q (n / q)) z s.1)
    go (suc r) z s = (0, sym (ap (λ (t : ℕ). t * n) (pow-zero q) ∙ one-mul n))

-- once at least, where q divides n
strip-first : (n q : ℕ) → 0 < n → n % q ≡ 0 → (k : ℕ) × (n ≡ q ^ suc k * strip n q n)
unfolding strip
strip-first zero q pos z = absurd (omega arith)
strip-first (suc n) q pos z = go (suc n % q) z (strip_is n q (suc n / q))
  where
    go : (r : ℕ) → r ≡ 0 → (k : ℕ) × (suc n / q ≡ q ^ k * strip n q (suc n / q)) → (k : ℕ) × (suc n ≡ q ^ suc k * elim r [ zero ↦ strip n q (suc n / q) | suc r ↦ suc n ])
    go zero e s = (s.0, more_power q (suc n) s.0 (strip n q (suc n / q)) z s.1)
    go (suc r) e s = absurd (omega arith)

factor_pos : (n a m : ℕ) → 0 < n → n ≡ a * m → 0 < m
factor_pos n a zero pos e = absurd (omega (arith, mul-zero a))
factor_pos n a (suc m) pos e = omega arith

factors-sound : (b n : ℕ) (l : List ℕ) → 0 < n → is_made_of b n l ≡ true → Powers b n l
unfolding is_made_of
factors-sound b n [] pos t = eqb-true n 1 t
factors-sound b n (q ∷ l) pos t =
    let u = (and-eq-true_iff (ltb b q && is_prime q && eqb (n % q) 0) (is_made_of q (strip n q n) l)).0 t in
    let v = (and-eq-true_iff (ltb b q && is_prime q) (eqb (n % q) 0)).0 u.0 in
    let w = (and-eq-true_iff (ltb b q) (is_prime q)).0 v.0 in
    let s = strip-first n q pos (eqb-true (n % q) 0 v.1) in
    (ltb-true b q w.0, prime_by_test q w.1, (s.0, strip n q n, s.1, factors-sound q (strip n q n) l (factor_pos n (q ^ suc s.0) (strip n q n) pos s.1) u.1))

-- ---- and always then
product_pos : (q k m n : ℕ) → 1 < q → 0 < m → n ≡ q ^ k * m → 0 < n
product_pos q k m n l h e = omega (arith, mul-pos (one-le-pow k q (omega arith)) h)

pub strip_exact : (f q k n m : ℕ) → 1 < q → 0 < m % q → n ≡ q ^ k * m → n ≤ f → strip f q n ≡ m
unfolding strip
strip_exact zero q k n m l h e b = absurd (omega (arith, product_pos q k m n l (omega (arith, mod-le m q)) e))
strip_exact (suc f) q zero n m l h e b = go (n % q) refl
  where
    same : n ≡ m
    same = e ∙ ap (λ (t : ℕ). t * m) (pow-zero q) ∙ one-mul m

    go : (r : ℕ) → n % q ≡ r → elim r [ zero ↦ strip f q (n / q) | suc r ↦ n ] ≡ m
    go zero z = absurd (omega (arith, ap (λ (t : ℕ). t % q) same))
    go (suc r) z = same
strip_exact (suc f) q (suc k) n m l h e b = go (n % q) refl (strip_exact f q k (n / q) m l h quotient (omega (arith, div-lt_self {n = n} {k = q} pos l)))
  where
    pos : 0 < n
    pos = product_pos q (suc k) m n l (omega (arith, mod-le m q)) e

    out : n ≡ q * (q ^ k * m)
    out = e ∙ power_out q k m

    quotient : n / q ≡ q ^ k * m
    quotient = ap (λ (t : ℕ). t / q) out ∙ mul-div_right (q ^ k * m) (omega arith)

    go : (r : ℕ) → n % q ≡ r → strip f q (n / q) ≡ m → elim r [ zero ↦ strip f q (n / q) | suc r ↦ n ] ≡ m
    go zero z rec = rec
    go (suc r) z rec = absurd (omega (arith, divides-by q n (q ^ k * m) out))

above : (b n : ℕ) (l : List ℕ) → Powers b n l → (p : ℕ) → Memᴰ p l → b < p
above b n [] h p i = absurd (Memᴰ.not-nil i)
above b n (q ∷ l) h p i = go (Memᴰ.cases_cons i) (above q h.2.1 l h.2.3 p)
  where
    go : (p ≡ q) ⊎ Memᴰ p l → (Memᴰ p l → q < p) → b < p
    go (inl e) rec = omega (arith, h.0)
    go (inr j) rec = omega (arith, h.0, rec j)

factors_complete : (b n : ℕ) (l : List ℕ) → Powers b n l → is_made_of b n l ≡ true
unfolding is_made_of
factors_complete b n [] h = eq-eqb n 1 h
factors_complete b n (q ∷ l) h = go h.2.0 h.2.1 h.2.2 h.2.3 (factors_complete q h.2.1 l h.2.3)
  where
    hq : Prime q
    hq = h.1

    go : (k m : ℕ) → n ≡ q ^ suc k * m → Powers q m l → is_made_of q m l ≡ true → (ltb b q && is_prime q && eqb (n % q) 0 && is_made_of q (strip n q n) l) ≡ true
    go k m e rest rec = ap₂ ◌&&◌ (ap₂ ◌&&◌ (ap₂ ◌&&◌ (lt-ltb b q h.0) (test_by_prime q hq)) (eq-eqb (n % q) 0 divides))
        (ap (λ (x : ℕ). is_made_of q x l) (strip_exact n q (suc k) n m hq.two (left (eq-zero-or-pos (m % q))) e (omega arith)) ∙ rec)
      where
        divides : n % q ≡ 0
        divides = divides-by q n (q ^ k * m) (e ∙ power_out q k m)

        left : (m % q ≡ 0) ⊎ (0 < m % q) → 0 < m % q
        left (inl z) = absurd (omega (arith, above q m l rest q ((factored q m l rest).all q hq z)))
        left (inr p) = p

pub factors_decides : (b n : ℕ) (l : List ℕ) → 0 < n → (is_made_of b n l ≡ true) ↔ Powers b n l
factors_decides b n l pos = (factors-sound b n l pos, factors_complete b n l)

-- 2^61 - 2, its primes
example_limit : is_made_of 0 2305843009213693950 (2 ∷ 3 ∷ 5 ∷ 7 ∷ 11 ∷ 13 ∷ 31 ∷ 41 ∷ 61 ∷ 151 ∷ 331 ∷ 1321 ∷ []) ≡ true
unfolding is_made_of
example_limit = refl
