-- The curve record, of both versions. Gives: what a record that is taken says of its bytes (`curve_read`, `Formed`) and of its curve (`Accepts`); that p is prime
-- whichever way it was shown (`shown_prime`), by Lucas' test in version 2. (That reading and writing undo one another: CurveWritten.)
-- Open: `Shown`.
use Prim.Native.Nat.{ℕ, suc, ◌+◌, ◌*◌, ◌%◌, ◌≤◌, ◌<◌}
use mathlib.Core.Path.{◌≡◌, refl, sym, ap, ◌∙◌, subst}
use mathlib.Core.List.{List}
use mathlib.Core.Bool.{Bool, true, false}
use mathlib.Core.Logic.{◌⊎◌, inl, inr}
use native.Mathlib.Omega.{arith}
use lib.Dec.{eqb}
use lib.ListN.{get_or, length}
use borrow.Author.Tests.{leb-true, le-leb, ltb-true, eqb-true, eq-eqb, ne_eqb}
use Rattle.algebra.proofs.Zmod.Prime.{Prime, OddPrime, prime_by_test}
use Rattle.rules.specs.Orders.Tests.{is_lucas}
use Rattle.rules.proofs.Orders.Lucas.{lucas_by_test}
use Rattle.rules.specs.Bytes.{word64, words}
use Rattle.rules.specs.Checks.{Check, taken, choose}
use Rattle.rules.specs.Tests.{is_square_free}
use Rattle.rules.specs.Records.{either, is_odd_prime, is_odd_number, is_witnessed, is_below, CurveRecord, curve, Form, unwitnessed, witnessed, is_marked, has_genus, version_of, curve_of, base_of, count_of, primes_of, form_of, unwitnessed_checks, witnessed_checks, curve_checks, read_curve}
use Rattle.rules.proofs.Calls.Tests.{both_true, true_both, either_true}
use Rattle.rules.proofs.Calls.Checks.{AllPass, all_passed, passed_all, pass_append, pass_both}
use Rattle.rules.proofs.Calls.Bytes.{length-words}
use Rattle.rules.proofs.Calls.Elements.{length_elements}

-- ---- the parts of a record by its version
pub record Unwitnessed (s : List ℕ) : Type 0 where
  pub version : version_of s ≡ 1
  pub long : length s ≡ 22 + 16 * get_or s 5 0
  pub prime : is_odd_prime (word64 s 6) ≡ true

pub record Witnessed (s : List ℕ) : Type 0 where
  pub version : version_of s ≡ 2
  pub some : 1 ≤ count_of s
  pub most : count_of s ≤ 15
  pub long : length s ≡ 31 + 16 * get_or s 5 0 + 8 * count_of s
  pub odd : is_odd_number (word64 s 6) ≡ true
  pub shown : is_witnessed (word64 s 6) (base_of s) (primes_of s) ≡ true

abbrev pub Formed : List ℕ → Type 0
Formed s = Unwitnessed s ⊎ Witnessed s

pub record CurveBytes (s : List ℕ) : Type 0 where
  pub six : 6 ≤ length s
  pub mark : is_marked s ≡ true
  pub genus : has_genus (get_or s 5 0) ≡ true
  pub formed : Formed s
  pub below : is_below (word64 s 6) (words s 14 (suc (get_or s 5 0 + get_or s 5 0))) ≡ true
  pub free : is_square_free (curve (curve_of s)) ≡ true

module _ (s : List ℕ) where
  abbrev form_checks : Bool → List Check
  form_checks b = choose b (unwitnessed_checks s) (witnessed_checks s)

  form_read : (b : Bool) → eqb (version_of s) 1 ≡ b → either b (eqb (version_of s) 2) ≡ true → AllPass (form_checks b) → Formed s
  form_read true e v h = inl (record { version = eqb-true _ _ e; long = eqb-true _ _ h.0; prime = h.1.0 })
  form_read false e v h = let k = both_true _ _ h.1.0 in
      inr (record { version = eqb-true _ _ v; some = leb-true _ _ k.0; most = leb-true _ _ k.1; long = eqb-true _ _ h.1.1.0; odd = h.1.1.1.0; shown = h.1.1.1.1.0 })

  form_taken : Formed s → (either (eqb (version_of s) 1) (eqb (version_of s) 2) ≡ true) × AllPass (form_checks (eqb (version_of s) 1))
  form_taken (inl h) = let e : eqb (version_of s) 1 ≡ true = eq-eqb _ _ h.version in
      (ap (λ b. either b (eqb (version_of s) 2)) e, subst (λ b. AllPass (form_checks b)) (sym e) (eq-eqb _ _ h.long, (h.prime, tt)))
  form_taken (inr h) = let e : eqb (version_of s) 1 ≡ false = ne_eqb (version_of s) 1 (λ z. omega (arith, h.version, z)) in (
    ap (λ b. either b (eqb (version_of s) 2)) e ∙ eq-eqb _ _ h.version,
    subst (λ b. AllPass (form_checks b)) (sym e)
        (le-leb (31 + 16 * get_or s 5 0) (length s) (omega (arith, h.long)), (true_both (le-leb _ _ h.some) (le-leb _ _ h.most), (eq-eqb _ _ h.long, (h.odd, (h.shown, tt))))),
  )

  pub curve_read : {c : CurveRecord} → read_curve s ≡ taken c → CurveBytes s × (curve_of s ≡ c)
  unfolding read_curve
  curve_read e =
      let t = all_passed (curve_of s) (curve_checks s) e in
      let h = t.0 in
      let r = pass_append (form_checks (eqb (version_of s) 1)) _ h.1.1.1.1 in (
        record {
          six = leb-true _ _ h.0;
          mark = h.1.0;
          genus = h.1.1.1.0;
          formed = form_read (eqb (version_of s) 1) refl h.1.1.0 r.0;
          below = r.1.0;
          free = r.1.1.0;
        },
        t.1,
      )

  pub curve_taken : CurveBytes s → read_curve s ≡ taken (curve_of s)
  unfolding read_curve
  curve_taken h = let f = form_taken h.formed in
      passed_all (curve_of s) (curve_checks s) (le-leb 6 (length s) h.six, (h.mark, (f.0, (h.genus, pass_both (form_checks (eqb (version_of s) 1)) _ f.1 (h.below, (h.free, tt))))))

-- ---- what shows that p is prime, by the form of the record
abbrev pub Shown : ℕ → Form → Type 0
Shown p unwitnessed = is_odd_prime p ≡ true
Shown p (witnessed a l) = (is_odd_number p ≡ true) × (is_witnessed p a l ≡ true) × (1 ≤ length l) × (length l ≤ 15)

pub record PrimeTo (p : ℕ) : Type 0 where
  pub is : Prime p
  pub odd : 3 ≤ p
  pub small : p ≤ 2305843009213693951

pub odd_prime : {p : ℕ} → is_odd_prime p ≡ true → OddPrime 2147483647 p
unfolding is_odd_prime
odd_prime {p} e =
    let t = both_true _ _ e in
    let r = both_true _ _ t.1 in
    record { is = prime_by_test p r.1; odd = leb-true 3 p t.0; small = leb-true p 2147483647 r.0 }

-- an odd number from 3 to 2^61 - 1
pub record OddTo (p : ℕ) : Type 0 where
  pub from : 3 ≤ p
  pub most : p ≤ 2305843009213693951
  pub odd : p % 2 ≡ 1

pub odd_number : {p : ℕ} → is_odd_number p ≡ true → OddTo p
unfolding is_odd_number
odd_number {p} e =
    let t = both_true _ _ e in
    let r = both_true _ _ t.1 in
    record { from = leb-true 3 p t.0; most = leb-true p 2305843009213693951 r.0; odd = eqb-true _ _ r.1 }

-- the parts of a witness
pub record IsWitness (p a : ℕ) (l : List ℕ) : Type 0 where
  pub from : 1 ≤ a
  pub below : a < p
  pub small : is_below 2147483648 l ≡ true
  pub is : is_lucas p a l ≡ true

pub is_witness : {p a : ℕ} {l : List ℕ} → is_witnessed p a l ≡ true → IsWitness p a l
unfolding is_witnessed
is_witness {p} {a} {l} e =
    let t = both_true _ _ e in
    let r = both_true _ _ t.0 in
    let u = both_true _ _ t.1 in
    record { from = leb-true 1 a r.0; below = ltb-true a p r.1; small = u.0; is = u.1 }

pub shown_prime : {p : ℕ} (form : Form) → Shown p form → PrimeTo p
shown_prime unwitnessed h = let o = odd_prime h in record { is = o.is; odd = o.odd; small = omega (arith, o.small) }
shown_prime {p} (witnessed a l) h =
    let o = odd_number h.0 in
    let w = is_witness h.1 in
    record { is = lucas_by_test p (omega (arith, o.from)) a l w.is; odd = o.from; small = o.most }

-- ---- what is so of a curve that was taken
pub record Accepts (c : CurveRecord) : Type 0 where
  pub least : 2 ≤ c.g
  pub greatest : c.g ≤ 3
  pub prime : PrimeTo c.p
  pub odd : length c.low ≡ suc (c.g + c.g)
  pub free : is_square_free (curve c) ≡ true

pub genus_is : (g : ℕ) → has_genus g ≡ true → (2 ≤ g) × (g ≤ 3)
genus_is g e = go (either_true _ _ e)
  where
    go : (eqb g 2 ≡ true) ⊎ (eqb g 3 ≡ true) → (2 ≤ g) × (g ≤ 3)
    go (inl h) = omega (arith, eqb-true g 2 h)
    go (inr h) = omega (arith, eqb-true g 3 h)

module _ (s : List ℕ) where
  pub form_unwitnessed : version_of s ≡ 1 → form_of s ≡ unwitnessed
  form_unwitnessed e = ap (λ b. choose b unwitnessed (witnessed (base_of s) (primes_of s))) (eq-eqb _ _ e)

  pub form_witnessed : version_of s ≡ 2 → form_of s ≡ witnessed (base_of s) (primes_of s)
  form_witnessed e = ap (λ b. choose b unwitnessed (witnessed (base_of s) (primes_of s))) (ne_eqb (version_of s) 1 (λ z. omega (arith, e, z)))

  pub shown_of : Formed s → Shown (word64 s 6) (form_of s)
  shown_of (inl h) = subst (Shown (word64 s 6)) (sym (form_unwitnessed h.version)) h.prime
  shown_of (inr h) = subst (Shown (word64 s 6)) (sym (form_witnessed h.version))
      (h.odd, h.shown, omega (arith, length-words s (count_of s) (31 + 16 * get_or s 5 0), h.some), omega (arith, length-words s (count_of s) (31 + 16 * get_or s 5 0), h.most))

  pub accepts_of : CurveBytes s → Accepts (curve_of s)
  accepts_of h = let g = genus_is (get_or s 5 0) h.genus in
      record {
        least = g.0;
        greatest = g.1;
        prime = shown_prime (form_of s) (shown_of h.formed);
        odd = length_elements (word64 s 6) (words s 14 (suc (get_or s 5 0 + get_or s 5 0))) ∙ length-words s (suc (get_or s 5 0 + get_or s 5 0)) 14;
        free = h.free;
      }

  pub accepts : {c : CurveRecord} → read_curve s ≡ taken c → Accepts c
  accepts e = let r = curve_read s e in subst Accepts r.1 (accepts_of r.0)
