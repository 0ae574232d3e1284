-- Each test of a check in mathematical words: what it says that it passes. Of a curve record `Marked`, `OddPrime`, `OddTo` and `Witness`, of a divisor record `Fits`, of a running total `Whole`.
-- Open: `Marked`, `Fits`.
use Prim.Native.Nat.{ℕ, ◌-◌, ◌%◌, ◌≤◌, ◌<◌}
use mathlib.Core.Path.{◌≡◌, refl, sym, ◌∙◌, subst}
use mathlib.Core.List.{List}
use mathlib.Core.Bool.{Bool, true, false, false≢true}
use mathlib.Core.Logic.{◌↔◌, ◌⊎◌, inl, inr}
use native.Mathlib.Omega.{arith}
use lib.Dec.{eqb, leb, ltb}
use lib.ListN.{get_or, length}
use borrow.Author.Tests.{leb-true, le-leb, ltb-true, lt-ltb, eqb-true, eq-eqb}
use Rattle.algebra.proofs.Ring.Power.{power, has_power_one, power_one}
use Rattle.algebra.proofs.Zmod.Zmod.{zmod, emb}
use Rattle.algebra.proofs.Zmod.Prime.{Prime, OddPrime, test_by_prime}
use Rattle.algebra.proofs.Zmod.PrimeField.{modulo}
use Rattle.rules.specs.Orders.Tests.{is_lucas}
use Rattle.rules.proofs.Orders.Listed.{Order, order_test}
use Rattle.rules.proofs.Orders.Lucas.{powers_closed, lucas_by_test}
use Rattle.rules.specs.Pair.{Valid}
use Rattle.rules.specs.Lists.{most_records}
use Rattle.rules.specs.Tests.{is_on_curve}
use Rattle.rules.specs.Records.{both, either, is_below, is_odd_prime, is_odd_number, is_witnessed, is_marked, fits, CurveRecord, curve, made_of}
use Rattle.rules.specs.Calls.{Running}
use Rattle.rules.proofs.Cantor.OnCurve.{on_curve_decides}
use Rattle.rules.proofs.Calls.Tests.{both_true, true_both, either_true}
use Rattle.rules.proofs.Calls.Elements.{AllBelow, below_decides, length_elements}
use Rattle.rules.proofs.Calls.CurveRecords.{odd_prime, OddTo, odd_number, is_witness}

-- ---- two tests in one
pub both_decides : (a b : Bool) {P Q : Type 0} → (a ≡ true) ↔ P → (b ≡ true) ↔ Q → (both a b ≡ true) ↔ (P × Q)
both_decides a b h k = (λ e. let t = both_true a b e in (h.0 t.0, k.0 t.1), λ q. true_both (h.1 q.0) (k.1 q.1))

pub either_decides : (a b : Bool) {P Q : Type 0} → (a ≡ true) ↔ P → (b ≡ true) ↔ Q → (either a b ≡ true) ↔ (P ⊎ Q)
either_decides a b {P} {Q} h k = (λ e. elim (either_true a b e) [ inl t ↦ inl (h.0 t) | inr t ↦ inr (k.0 t) ], back a b h k)
  where
    back : (a b : Bool) → (a ≡ true) ↔ P → (b ≡ true) ↔ Q → P ⊎ Q → either a b ≡ true
    back true b h k q = refl
    back false b h k (inl p) = absurd (false≢true (h.1 p))
    back false b h k (inr q) = k.1 q

pub eq_decides : (a b : ℕ) → (eqb a b ≡ true) ↔ (a ≡ b)
eq_decides a b = (eqb-true a b, eq-eqb a b)

pub le_decides : (a b : ℕ) → (leb a b ≡ true) ↔ (a ≤ b)
le_decides a b = (leb-true a b, le-leb a b)

pub lt_decides : (a b : ℕ) → (ltb a b ≡ true) ↔ (a < b)
lt_decides a b = (ltb-true a b, lt-ltb a b)

-- ---- a curve record: the letters HJC; p; and in version 2 the witness
abbrev pub Marked : List ℕ → Type 0
Marked s = (get_or s 0 0 ≡ 72) × ((get_or s 1 0 ≡ 74) × (get_or s 2 0 ≡ 67))

pub marked_decides : (s : List ℕ) → (is_marked s ≡ true) ↔ Marked s
marked_decides s = both_decides _ _ (eq_decides (get_or s 0 0) 72) (both_decides _ _ (eq_decides (get_or s 1 0) 74) (eq_decides (get_or s 2 0) 67))

pub odd_prime_decides : (p : ℕ) → (is_odd_prime p ≡ true) ↔ OddPrime 2147483647 p
unfolding is_odd_prime
odd_prime_decides p = (odd_prime, λ h. true_both (le-leb 3 p h.odd) (true_both (le-leb p 2147483647 h.small) (test_by_prime p h.is)))

pub odd_number_decides : (p : ℕ) → (is_odd_number p ≡ true) ↔ OddTo p
unfolding is_odd_number
odd_number_decides p = (odd_number, λ h. true_both (le-leb 3 p h.from) (true_both (le-leb p 2305843009213693951 h.most) (eq-eqb (p % 2) 1 h.odd)))

-- a base a from 1 to p - 1; primes below 2^31, rising, p - 1 a product of powers of them; and a has order p - 1 modulo p
pub record Witness (p a : ℕ) (l : List ℕ) : Type 0 where
  pub from : 1 ≤ a
  pub below : a < p
  pub small : AllBelow 2147483648 l
  pub order : Order (λ m. power (zmod p) (emb p a) m ≡ (zmod p).one) (p - 1) l

lucas_decides : (p a : ℕ) (l : List ℕ) → (is_lucas p a l ≡ true) ↔ Order (λ m. power (zmod p) (emb p a) m ≡ (zmod p).one) (p - 1) l
unfolding is_lucas
lucas_decides p a l = order_test (λ m. power (zmod p) (emb p a) m ≡ (zmod p).one) (powers_closed (zmod p) (emb p a)) (has_power_one (modulo p) (emb p a)) (power_one (modulo p) (emb p a)) (p - 1) l

pub witness_decides : (p a : ℕ) (l : List ℕ) → (is_witnessed p a l ≡ true) ↔ Witness p a l
unfolding is_witnessed
witness_decides p a l = (
  λ e. let w = is_witness {p = p} {a = a} {l = l} e in record { from = w.from; below = w.below; small = (below_decides 2147483648 l).0 w.small; order = (lucas_decides p a l).0 w.is },
  λ w. true_both (true_both (le-leb 1 a w.from) (lt-ltb a p w.below)) (true_both ((below_decides 2147483648 l).1 w.small) ((lucas_decides p a l).1 w.order)),
)

-- so p is prime (Lucas)
pub witness_prime : (p a : ℕ) (l : List ℕ) → OddTo p → Witness p a l → Prime p
witness_prime p a l o w = lucas_by_test p (omega (arith, o.from)) a l ((lucas_decides p a l).1 w.order)

-- ---- a divisor record: alone it ends where the bytes end, in a batch not behind them
abbrev pub Fits : Bool → ℕ → ℕ → Type 0
Fits true end all = all ≡ end
Fits false end all = end ≤ all

pub fits_decides : (whole : Bool) (end all : ℕ) → (fits whole end all ≡ true) ↔ Fits whole end all
fits_decides true end all = eq_decides all end
fits_decides false end all = le_decides end all

-- ---- a running total: its numbers are below p, its divisor is valid on the curve, and its count is at most 4,096
pub record Whole (c : CurveRecord) (t : Running) : Type 0 where
  pub u_below : AllBelow c.p t.u
  pub v_below : AllBelow c.p t.v
  pub valid : Valid (curve c) (made_of c t.u t.v)
  pub count : t.count ≤ 4096

-- its five tests in one
abbrev pub is_whole : CurveRecord → Running → Bool
is_whole c t = both (both (both (both (leb (length t.u) c.g) (eqb (length t.v) (length t.u))) (both (is_below c.p t.u) (is_below c.p t.v))) (is_on_curve (curve c) (made_of c t.u t.v))) (leb t.count most_records)

pub whole_decides : (c : CurveRecord) (t : Running) → (is_whole c t ≡ true) ↔ Whole c t
whole_decides c t = (to, back)
  where
    u_long : length (made_of c t.u t.v).u ≡ length t.u
    u_long = length_elements c.p t.u

    v_long : length (made_of c t.u t.v).v ≡ length t.v
    v_long = length_elements c.p t.v

    to : is_whole c t ≡ true → Whole c t
    to e =
        let a = both_true _ _ e in
        let b = both_true _ _ a.0 in
        let d = both_true _ _ b.0 in
        let l = both_true _ _ d.0 in
        let n = both_true _ _ d.1 in
        record {
          u_below = (below_decides c.p t.u).0 n.0;
          v_below = (below_decides c.p t.v).0 n.1;
          valid = record {
            fits = v_long ∙ eqb-true _ _ l.1 ∙ sym u_long;
            small = subst (λ (n : ℕ). n ≤ c.g) (sym u_long) (leb-true _ _ l.0);
            divides = (on_curve_decides (curve c) (made_of c t.u t.v)).0 b.1;
          };
          count = leb-true t.count 4096 a.1;
        }

    back : Whole c t → is_whole c t ≡ true
    back h = true_both (true_both (true_both
        (true_both (le-leb (length t.u) c.g (omega (arith, u_long, h.valid.small))) (eq-eqb (length t.v) (length t.u) (sym v_long ∙ h.valid.fits ∙ u_long)))
        (true_both ((below_decides c.p t.u).1 h.u_below) ((below_decides c.p t.v).1 h.v_below)))
        ((on_curve_decides (curve c) (made_of c t.u t.v)).1 h.valid.divides))
        (le-leb t.count 4096 h.count)
