-- The order lemma by a list of primes. Gives: it is enough to look at the listed primes (`order-listed`); and the test `is_order`, of a property that is itself tested, accepts n and the
-- list exactly when n > 0 is a product of powers of the listed primes, rising, each at least once, and the multiples of n, and no other numbers, have the property (`order_test`).
use Prim.Native.Nat.{ℕ, ◌*◌, ◌/◌, ◌%◌, ◌<◌}
use mathlib.Core.Path.{◌≡◌, refl, sym, ap, ap₂, ◌∙◌}
use mathlib.Core.Logic.{◌↔◌, ◌⊎◌, inl, inr}
use mathlib.Core.List.Memᴰ
use mathlib.Core.List.{List, [], ◌∷◌, Memᴰ}
use mathlib.Core.Bool.{Bool, true, false, not, ◌&&◌, true≢false, and-eq-true_iff}
use native.Mathlib.Omega.{arith}
use native.Mathlib.Nat.{mod_self, mod-eq_of_lt, div-lt_self}
use lib.Dec.{ltb}
use borrow.Author.Tests.{ltb-true, lt-ltb, not-true}
use Rattle.algebra.proofs.Zmod.Prime.{Prime}
use Rattle.rules.specs.Orders.Tests.{is_made_of, is_none_below, is_order}
use Rattle.rules.proofs.Orders.Divisor.{whole}
use Rattle.rules.proofs.Orders.Order.{Closed, order}
use Rattle.rules.proofs.Orders.Factors.{Powers, factors_decides, factored}

pub order-listed : (N : ℕ → Type 0) → Closed N → (n : ℕ) (l : List ℕ) → 0 < n → Powers 0 n l → N n → ((q : ℕ) → Memᴰ q l → N (n / q) → ⊥) → (m : ℕ) → N m ↔ (m % n ≡ 0)
order-listed N closed n l pos f hn least = order N closed n pos hn (λ q prime h. least q ((factored 0 n l f).all q prime h))

-- ---- as a test
module _ (t : ℕ → Bool) (n : ℕ) where
  none_below : (l : List ℕ) → is_none_below t n l ≡ true → (q : ℕ) → Memᴰ q l → t (n / q) ≡ false
  unfolding is_none_below
  none_below [] h q m = absurd (Memᴰ.not-nil m)
  none_below (r ∷ l) h q m = let u = (and-eq-true_iff (not (t (n / r))) (is_none_below t n l)).0 h in go (not-true (t (n / r)) u.0) (Memᴰ.cases_cons m) (none_below l u.1 q)
    where
      go : t (n / r) ≡ false → (q ≡ r) ⊎ Memᴰ q l → (Memᴰ q l → t (n / q) ≡ false) → t (n / q) ≡ false
      go f (inl e) rec = ap (λ (x : ℕ). t (n / x)) e ∙ f
      go f (inr k) rec = rec k

  none_below_back : (l : List ℕ) → ((q : ℕ) → Memᴰ q l → t (n / q) ≡ false) → is_none_below t n l ≡ true
  unfolding is_none_below
  none_below_back [] h = refl
  none_below_back (r ∷ l) h = ap₂ (λ a b. not a && b) (h r (Memᴰ.head refl)) (none_below_back l (λ q m. h q (Memᴰ.tail m)))

-- n is the order, and the list has its primes
pub record Order (N : ℕ → Type 0) (n : ℕ) (l : List ℕ) : Type 0 where
  pub positive : 0 < n
  pub powers : Powers 0 n l
  pub exactly : (m : ℕ) → N m ↔ (m % n ≡ 0)

module _ (N : ℕ → Type 0) (closed : Closed N) (t : ℕ → Bool) (tests : (m : ℕ) → (t m ≡ true) ↔ N m) (n : ℕ) (l : List ℕ) where
  accepted : is_order t n l ≡ true → Order N n l
  unfolding is_order
  accepted h =
      let u = (and-eq-true_iff (ltb 0 n && is_made_of 0 n l && t n) (is_none_below t n l)).0 h in
      let v = (and-eq-true_iff (ltb 0 n && is_made_of 0 n l) (t n)).0 u.0 in
      let w = (and-eq-true_iff (ltb 0 n) (is_made_of 0 n l)).0 v.0 in
      let pos = ltb-true 0 n w.0 in
      let f = (factors_decides 0 n l pos).0 w.1 in
      record { positive = pos; powers = f; exactly = order-listed N closed n l pos f ((tests n).0 v.1) (λ q m k. true≢false (sym ((tests (n / q)).1 k) ∙ none_below t n l u.1 q m)) }

  accepts : Order N n l → is_order t n l ≡ true
  unfolding is_order
  accepts o = ap₂ ◌&&◌ (ap₂ ◌&&◌ (ap₂ ◌&&◌ (lt-ltb 0 n pos) ((factors_decides 0 n l pos).1 o.powers)) ((tests n).1 ((o.exactly n).1 (mod_self n))))
      (none_below_back t n l (λ q m. refused q ((factored 0 n l o.powers).each q m) (t (n / q)) refl))
    where
      pos : 0 < n
      pos = o.positive

      refused : (q : ℕ) → Prime q × (n % q ≡ 0) → (b : Bool) → t (n / q) ≡ b → b ≡ false
      refused q d false e = refl
      refused q d true e = let less : n / q < n = div-lt_self pos d.0.two in
          let z : n / q ≡ 0 = sym (mod-eq_of_lt less) ∙ (o.exactly (n / q)).0 ((tests (n / q)).0 e) in
          absurd (omega (arith, whole q n d.1, ap (λ (x : ℕ). q * x) z))

  pub order_test : (is_order t n l ≡ true) ↔ Order N n l
  order_test = (accepted, accepts)
