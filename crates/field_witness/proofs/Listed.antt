-- The loops over listed numbers. Gives: a number divided by a prime as often as it goes (`Out`), the list looked at one by one for primes that a number is made of (`Left`), and for powers that
-- aren't 1 (`none_stop`, `none_turn`); and what a number's own test of primes says.
use Prim.Native.Nat.{ℕ, zero, suc, ◌+◌, ◌*◌, ◌/◌, ◌%◌, ◌^◌, ◌≤◌, ◌<◌}
use mathlib.Core.Path.{◌≡◌, refl, sym, ap, ◌∙◌, subst}
use mathlib.Core.List.{List, [], ◌∷◌}
use mathlib.Core.Bool.{Bool, true, false, not, ◌&&◌, and-eq-true_iff, false≢true}
use native.Mathlib.Omega.{arith}
use native.Mathlib.Nat.{pow-zero, pow-suc, one-mul, mul_assoc, div-lt_self, div-add-mod}
use lib.Dec.{ltb, eqb}
use lib.ListN.{length, drop, get_or, drop_of_length-le}
use lib.Seq.{drop-cons}
use borrow.Author.Tests.{lt-ltb, ltb-true, eqb-true, eq-eqb}
use Rattle.algebra.proofs.Zmod.Prime.{Prime, is_prime, prime_by_test, test_by_prime}
use Rattle.field.specs.Primes.{Decides, OddPrime}
use Rattle.rules.specs.Orders.Tests.{strip, is_made_of, is_none_below}
use Rattle.rules.proofs.Orders.Factors.{strip_exact}
use Rattle.field_witness.specs.Witness.{SmallPrime, Stripped, AllSmall, AllSome, MadeOf}

-- ---- a prime below 2^31
pub small_by : (q : ℕ) → (q ≡ 2 → ⊥) → (b : Bool) → Decides b (OddPrime q) → Decides b (SmallPrime q)
small_by q ne true h = record { is = h.is; small = omega (arith, h.small) }
small_by q ne false h = λ s. h (record { is = s.is; odd = omega (arith, s.is.two, ne); small = omega (arith, s.small) })

-- ---- one of a list after the other
module _ (q : List ℕ) (i : ℕ) where
  pub next : (z : ℕ) → i < length q → drop i q ≡ get_or q i z ∷ drop (i + 1) q
  next z h = drop-cons q i z h ∙ ap (λ (j : ℕ). get_or q i z ∷ drop j q) {x = suc i} {y = i + 1} (omega arith)

  pub at_end : length q ≤ i → drop i q ≡ []
  at_end h = drop_of_length-le q h

-- ---- n divided by q as often as it goes
pub record Out (n q k : ℕ) : Type 0 where
  pub some : 0 < k
  pub times : ℕ
  pub is : n ≡ q ^ times * k

module _ (n q : ℕ) where
  pub out_begin : 0 < n → Out n q n
  out_begin h = record { some = h; times = 0; is = sym (ap (λ (t : ℕ). t * n) (pow-zero q) ∙ one-mul n) }

  quotient : (k : ℕ) → k % q ≡ 0 → k ≡ q * (k / q)
  quotient k z = sym (div-add-mod k q) ∙ omega arith

  pub out_turn : (k : ℕ) → 1 < q → Out n q k → k % q ≡ 0 → Out n q (k / q)
  out_turn k l h z = record {
    some = positive (k / q) (quotient k z);
    times = suc h.times;
    is = h.is ∙ ap (λ (t : ℕ). q ^ h.times * t) (quotient k z) ∙ sym (mul_assoc (q ^ h.times) q (k / q)) ∙ ap (λ (t : ℕ). t * (k / q)) (sym (pow-suc q h.times));
  }
    where
      positive : (x : ℕ) → k ≡ q * x → 0 < x
      positive zero e = absurd (omega (arith, h.some, e))
      positive (suc x) e = omega arith

  pub out_less : (k : ℕ) → 1 < q → Out n q k → k / q < k
  out_less k l h = div-lt_self {n = k} {k = q} h.some l

  pub out_end : (k : ℕ) → 1 < q → Out n q k → (k % q ≡ 0 → ⊥) → Stripped n q k
  out_end k l h ne = record { is = sym (strip_exact n q h.times n k l (omega (arith, ne)) h.is (omega arith)); some = h.some }

-- ---- powers that aren't 1
module _ (t : ℕ → Bool) (n : ℕ) (l : List ℕ) where
  pub none_stop : (d r : List ℕ) (x : ℕ) → is_none_below t n d ≡ is_none_below t n l → d ≡ x ∷ r → t (n / x) ≡ true → false ≡ is_none_below t n l
  unfolding is_none_below
  none_stop d r x h e y = sym (ap (λ (b : Bool). not b && is_none_below t n r) y) ∙ sym (ap (is_none_below t n) e) ∙ h

  pub none_turn : (d r : List ℕ) (x : ℕ) → is_none_below t n d ≡ is_none_below t n l → d ≡ x ∷ r → t (n / x) ≡ false → is_none_below t n r ≡ is_none_below t n l
  unfolding is_none_below
  none_turn d r x h e y = sym (ap (λ (b : Bool). not b && is_none_below t n r) y) ∙ sym (ap (is_none_below t n) e) ∙ h

  pub none_end : (d : List ℕ) → is_none_below t n d ≡ is_none_below t n l → d ≡ [] → true ≡ is_none_below t n l
  unfolding is_none_below
  none_end d h e = sym (ap (is_none_below t n) e) ∙ h

-- ---- a number made of listed primes: what is left of it, and of the list
pub record Left (n : ℕ) (l d : List ℕ) (last left : ℕ) : Type 0 where
  pub some : 0 < left
  pub same : is_made_of last left d ≡ is_made_of 0 n l
  pub up : AllSmall d → AllSmall l
  pub down : AllSmall l → AllSmall d

record Passes (b n x : ℕ) (r : List ℕ) : Type 0 where
  above : b < x
  prime : Prime x
  divides : n % x ≡ 0
  rest : is_made_of x (strip n x n) r ≡ true

passes : (b n x : ℕ) (r : List ℕ) → is_made_of b n (x ∷ r) ≡ true → Passes b n x r
unfolding is_made_of
passes b n x r e =
    let u = (and-eq-true_iff (ltb b x && is_prime x && eqb (n % x) 0) (is_made_of x (strip n x n) r)).0 e in
    let v = (and-eq-true_iff (ltb b x && is_prime x) (eqb (n % x) 0)).0 u.0 in
    let w = (and-eq-true_iff (ltb b x) (is_prime x)).0 v.0 in
    record { above = ltb-true b x w.0; prime = prime_by_test x w.1; divides = eqb-true (n % x) 0 v.1; rest = u.1 }

pub left_begin : (n : ℕ) (l : List ℕ) → 0 < n → Left n l l 0 n
left_begin n l h = record { some = h; same = refl; up = λ s. s; down = λ s. s }

module _ (n : ℕ) (l d : List ℕ) (last left x : ℕ) (r : List ℕ) (h : Left n l d last left) (e : d ≡ x ∷ r) where
  now_is : is_made_of last left (x ∷ r) ≡ is_made_of 0 n l
  now_is = sym (ap (is_made_of last left) e) ∙ h.same

  passed : MadeOf n l → Passes last left x r
  passed w = passes last left x r (now_is ∙ w.is)

  pub not_above : x ≤ last → MadeOf n l → ⊥
  not_above g w = omega (arith, (passed w).above)

  pub not_prime : (SmallPrime x → ⊥) → MadeOf n l → ⊥
  not_prime g w = g (record { is = (passed w).prime; small = (subst AllSmall e (h.down w.small)).0 })

  pub not_divided : (left % x ≡ 0 → ⊥) → MadeOf n l → ⊥
  not_divided g w = g (passed w).divides

  pub left_turn : (last < x) → SmallPrime x → left % x ≡ 0 → (k : ℕ) → Stripped left x k → Left n l r x k
  unfolding is_made_of
  left_turn a s z k t = record {
    some = t.some;
    same = ap (λ (j : ℕ). is_made_of x j r) t.is ∙ sym step ∙ now_is;
    up = λ y. h.up (subst AllSmall (sym e) (s.small, y));
    down = λ y. (subst AllSmall e (h.down y)).1;
  }
    where
      step : is_made_of last left (x ∷ r) ≡ is_made_of x (strip left x left) r
      step = rw (lt-ltb last x a, test_by_prime x s.is, eq-eqb (left % x) 0 z)

pub left_end : (n : ℕ) (l d : List ℕ) (last left : ℕ) → Left n l d last left → d ≡ [] → Decides (eqb left 1) (MadeOf n l)
unfolding is_made_of
left_end n l d last left h e = by_cases (eqb left 1) (sym (ap (is_made_of last left) e) ∙ h.same) (h.up (subst AllSmall (sym e) tt))
  where
    by_cases : (b : Bool) → b ≡ is_made_of 0 n l → AllSmall l → Decides b (MadeOf n l)
    by_cases true q s = record { is = sym q; small = s }
    by_cases false q s = λ w. false≢true (q ∙ w.is)

-- primes are above 0
pub all-some : (b n : ℕ) (l : List ℕ) → is_made_of b n l ≡ true → AllSome l
all-some b n [] e = tt
all-some b n (x ∷ r) e = let h = passes b n x r e in (omega (arith, h.prime.two), all-some x (strip n x n) r h.rest)
