-- p of a record: what the tests of code say of the rule's. In version 1 by trial (`trial_taken`, `trial_refused`), in version 2 by the witness (`not_odd`, `no_base`, `no_witness`, `witness_taken`).
use Prim.Native.Nat.{ℕ, ◌+◌, ◌*◌, ◌%◌, ◌≤◌, ◌<◌}
use mathlib.Core.Path.{◌≡◌, refl, sym, ap, ap₂, ◌∙◌, subst}
use mathlib.Core.List.{List, [], ◌∷◌}
use mathlib.Core.Bool.{Bool, true, false}
use native.Mathlib.Omega.{arith}
use lib.ListN.{get_or}
use borrow.Author.Tests.{le-leb, lt-ltb, eq-eqb, ltb-true, eqb-true}
use lib.Dec.{eqb, ltb}
use mathlib.Core.Logic.{◌⊎◌, inl, inr}
use Rattle.algebra.proofs.Zmod.Prime.{Prime, test_by_prime}
use Rattle.std.specs.Prelude.{Option, Some, None, Err, ok_or}
use Rattle.refusals.specs.declared.Refusal.TheVariants.{Prime as RPrime, Witness}
use Rattle.rules.specs.Bytes.{word64, words}
use Rattle.rules.specs.Records.{refused, choose, both, is_below, is_odd_prime, is_odd_number, is_witnessed, has_version, version_of, base_of, count_of, primes_of, read_curve}
use Rattle.rules.proofs.Calls.Tests.{both_true, true_both, either_true}
use Rattle.rules.proofs.Calls.CurveRecords.{odd_prime, odd_number, is_witness}
use Rattle.field.specs.declared.Modulus.{Modulus}
use Rattle.field.specs.Constants.{Odd, OfNumber}
use Rattle.field.specs.Primes.{limit, OddPrime}
use Rattle.field.specs.declared.PrimeModulus.{PrimeModulus}
use Rattle.field.specs.Read.{ModulusIs}
use Rattle.field.proofs.Decide.{otherwise}
use Rattle.field_witness.specs.Witness.{AllSmall, Witnessed}
use Rattle.field_witness.proofs.Accepted.{witnessed-prime}
use Rattle.record_curve_head.specs.Heads.{Headed, low_rule}
use Rattle.record_curve_head.proofs.Head.{behind_plain, behind_witness}
use Rattle.record_curve_prime.specs.Primes.{PrimeTaken, PrimeIs}

-- ---- the rule's tests decide what the code's do
odd_prime_yes : (p : ℕ) → OddPrime p → is_odd_prime p ≡ true
unfolding is_odd_prime
odd_prime_yes p h = ap₂ both (le-leb 3 p h.odd) (ap₂ both (le-leb p limit h.small) (test_by_prime p h.is))

odd_prime_no : (p : ℕ) → (OddPrime p → ⊥) → is_odd_prime p ≡ false
odd_prime_no p h = otherwise (is_odd_prime p) (λ e. h (odd_prime e))

odd_yes : (p : ℕ) → Odd p → is_odd_number p ≡ true
unfolding is_odd_number
odd_yes p h = true_both (le-leb 3 p h.from) (true_both (le-leb p 2305843009213693951 h.most) (eq-eqb (p % 2) 1 h.odd))

odd_no : (p : ℕ) → (Odd p → ⊥) → is_odd_number p ≡ false
odd_no p h = otherwise (is_odd_number p) (λ e. let o = odd_number e in h (record { from = o.from; most = o.most; odd = o.odd }))

-- each listed number below 2^31, as a fact and as the rules' test (`call_order` cites both)
pub all_small : (l : List ℕ) → AllSmall l → is_below 2147483648 l ≡ true
unfolding is_below
all_small [] h = refl
all_small (q ∷ l) h = true_both (lt-ltb q 2147483648 h.0) (all_small l h.1)

pub small_all : (l : List ℕ) → is_below 2147483648 l ≡ true → AllSmall l
unfolding is_below
small_all [] e = tt
small_all (q ∷ l) e = let t = both_true (ltb q 2147483648) (is_below 2147483648 l) e in (ltb-true q 2147483648 t.0, small_all l t.1)

witness_yes : (p a : ℕ) (l : List ℕ) → 1 ≤ a → Witnessed p a l → is_witnessed p a l ≡ true
unfolding is_witnessed
witness_yes p a l from w = true_both (true_both (le-leb 1 a from) (lt-ltb a p w.below)) (true_both (all_small l w.small) w.is)

witness_no : (p a : ℕ) (l : List ℕ) → (Witnessed p a l → ⊥) → is_witnessed p a l ≡ false
witness_no p a l n = otherwise (is_witnessed p a l) (λ e. let w = is_witness e in n (record { below = w.below; is = w.is; small = small_all l w.small }))

base_no : (p a : ℕ) (l : List ℕ) → a < 1 → is_witnessed p a l ≡ false
base_no p a l z = otherwise (is_witnessed p a l) (λ e. omega (arith, (is_witness {p = p} {a = a} {l = l} e).from, z))

-- ---- where its parts stand
module _ (s : List ℕ) where
  pub version_one : has_version (version_of s) ≡ true → get_or s 4 0 ≡ 1 → version_of s ≡ 1
  version_one v e = go (either_true _ _ v)
    where
      go : (eqb (version_of s) 1 ≡ true) ⊎ (eqb (version_of s) 2 ≡ true) → version_of s ≡ 1
      go (inl h) = eqb-true (version_of s) 1 h
      go (inr h) = omega (arith, eqb-true (version_of s) 2 h, e)

  module _ (n : ℕ) (n_is : n ≡ get_or s 5 0) where
    pub base_at : word64 s (22 + 16 * n) ≡ base_of s
    base_at = ap (λ (x : ℕ). word64 s (22 + 16 * x)) n_is

    pub primes_at : (k : ℕ) → k ≡ count_of s → words s (31 + 16 * n) k ≡ primes_of s
    primes_at k e = ap₂ (λ (x y : ℕ). words s (31 + 16 * x) y) n_is e

-- what a witness shows
pub witnessed : (p a : ℕ) (l : List ℕ) → Odd p → Witnessed p a l → (m : Modulus) → OfNumber p m → Prime m.p
witnessed p a l odd w m k = subst Prime (sym k.is) (witnessed-prime p a l odd w)

-- ---- the record
module _ (s : List ℕ) (h : Headed s) where
  abbrev g : ℕ
  g = get_or s 5 0

  module _ (v : version_of s ≡ 1) (p : ℕ) (p-is : p ≡ word64 s 6) where
    by_test : {b : Bool} → is_odd_prime (word64 s 6) ≡ b → read_curve s ≡ choose b (low_rule s g (word64 s 6)) (refused 5 0)
    by_test e = behind_plain s h.begun v h ∙ ap (λ b. choose b (low_rule s g (word64 s 6)) (refused 5 0)) e

    pub tried : (r : Option PrimeModulus) → ModulusIs p r → PrimeIs s (ok_or r RPrime)
    tried (Some m) k = record { is = k.0 ∙ p-is; goes_on = by_test (odd_prime_yes (word64 s 6) (subst OddPrime p-is k.1)) }
    tried None n = by_test (odd_prime_no (word64 s 6) (λ o. n (subst OddPrime (sym p-is) o)))

  module _ (v : version_of s ≡ 1 → ⊥) (p : ℕ) (p-is : p ≡ word64 s 6) where
    by_tests : {x y : Bool} → is_odd_number (word64 s 6) ≡ x → is_witnessed (word64 s 6) (base_of s) (primes_of s) ≡ y → read_curve s ≡ choose x (choose y (low_rule s g (word64 s 6)) (refused 18 0)) (refused 5 0)
    by_tests ex ey = behind_witness s h.begun v h ∙ ap₂ (λ x y. choose x (choose y (low_rule s g (word64 s 6)) (refused 18 0)) (refused 5 0)) ex ey

    pub not_odd : (Odd p → ⊥) → PrimeIs s (Err RPrime)
    not_odd n = by_tests (odd_no (word64 s 6) (λ o. n (subst Odd (sym p-is) o))) refl

    module _ (odd : Odd p) where
      here : is_odd_number (word64 s 6) ≡ true
      here = odd_yes (word64 s 6) (subst Odd p-is odd)

      eighteen : is_witnessed (word64 s 6) (base_of s) (primes_of s) ≡ false → PrimeIs s (Err Witness)
      eighteen e = by_tests here e

      pub no_base : (a : ℕ) → a ≡ base_of s → a < 1 → PrimeIs s (Err Witness)
      no_base a e z = eighteen (base_no (word64 s 6) (base_of s) (primes_of s) (subst (λ (x : ℕ). x < 1) e z))

      module _ (a : ℕ) (a_is : a ≡ base_of s) (l : List ℕ) (l-is : l ≡ primes_of s) where
        -- the witness as it is read
        as_read : Witnessed p a l → Witnessed (word64 s 6) (base_of s) (primes_of s)
        as_read w = subst (Witnessed (word64 s 6) (base_of s)) l-is (subst (λ (x : ℕ). Witnessed (word64 s 6) x l) a_is (subst (λ (x : ℕ). Witnessed x a l) p-is w))

        back : Witnessed (word64 s 6) (base_of s) (primes_of s) → Witnessed p a l
        back w = subst (λ (x : ℕ). Witnessed x a l) (sym p-is) (subst (λ (x : ℕ). Witnessed (word64 s 6) x l) (sym a_is) (subst (Witnessed (word64 s 6) (base_of s)) (sym l-is) w))

        pub no_witness : (Witnessed p a l → ⊥) → PrimeIs s (Err Witness)
        no_witness n = eighteen (witness_no (word64 s 6) (base_of s) (primes_of s) (λ w. n (back w)))

        pub witness_taken : (a < 1 → ⊥) → Witnessed p a l → (m : PrimeModulus) → OfNumber p m.m → PrimeTaken s m
        witness_taken n w m k = record {
          is = k.is ∙ p-is;
          goes_on = by_tests here (witness_yes (word64 s 6) (base_of s) (primes_of s) (subst (λ (x : ℕ). 1 ≤ x) a_is (omega (arith, n))) (as_read w));
        }
