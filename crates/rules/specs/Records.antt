-- Document 01, "The records" and, of "Numbers the tablet shows", the numbers 1 to 11 in their order; document 02, W-201, version 2 of the curve record and the number 18: what a curve record and a divisor
-- record are read as, a check a line, and what bytes they are written as. The first check that fails refuses (Checks).
use Rattle.std.specs.Prelude.{ℕ, suc, ◌+◌, ◌*◌, ◌%◌, List, [], ◌∷◌, ◌++◌, map, Bool, true, false, eqb, ltb, leb, get_or, length}
-- (`both` and `either` are the library's and and or)
pub use Rattle.std.specs.Prelude.{◌&&◌ as both, ◌||◌ as either}
use Rattle.algebra.proofs.Zmod.Zmod.{zmod, emb, num}
use Rattle.algebra.proofs.Zmod.Prime.{is_prime}
use Rattle.algebra.proofs.Zmod.PrimeField.{modulo}
use Rattle.rules.specs.Orders.Tests.{is_lucas}
use Rattle.rules.specs.Bytes.{word64, words, bytes64, all_bytes}
pub use Rattle.rules.specs.Checks.{Checked, refused, taken, choose, Check, first_failed, go_on}
use Rattle.rules.specs.Curve.{Curve}
use Rattle.rules.specs.Pair.{Pair}
use Rattle.rules.specs.Tests.{is_on_curve, is_square_free}

-- every number is below p
unfoldable pub is_below : ℕ → List ℕ → Bool
is_below p [] = true
is_below p (x ∷ l) = both (ltb x p) (is_below p l)

-- numbers as elements of Z/p, and back
unfoldable pub elements : (p : ℕ) → List ℕ → List (zmod p).El
elements p l = map (emb p) l

unfoldable pub numbers : (p : ℕ) → List (zmod p).El → List ℕ
numbers p l = map (num p) l

-- ---- p, in version 1 and in version 2
-- an odd prime, 3 ≤ p ≤ 2,147,483,647
unfoldable pub is_odd_prime : ℕ → Bool
unfolding is_prime
is_odd_prime p = both (leb 3 p) (both (leb p 2147483647) (is_prime p))

-- an odd number, 3 ≤ p ≤ 2^61 - 1
unfoldable pub is_odd_number : ℕ → Bool
is_odd_number p = both (leb 3 p) (both (leb p 2305843009213693951) (eqb (p % 2) 1))

-- its witness: a base a from 1 to p - 1 and primes below 2^31, rising, that p - 1 is made up of; a^(p-1) is 1, and no a^((p-1)/q) is (`is_lucas`)
unfoldable pub is_witnessed : ℕ → ℕ → List ℕ → Bool
unfolding is_below is_lucas
is_witnessed p a l = both (both (leb 1 a) (ltb a p)) (both (is_below 2147483648 l) (is_lucas p a l))

-- ---- the curve record: the mark HJC, a 16-bit version, g, p, then f_0 up to f_2g; in version 2 then a, k and k primes
pub record CurveRecord : Type 0 where
  pub p : ℕ
  pub g : ℕ
  pub low : List (zmod p).El

abbrev pub curve : CurveRecord → Curve
curve c = record { K = modulo c.p; g = c.g; low = c.low }

abbrev pub PairOf : CurveRecord → Type 0
PairOf c = Pair (modulo c.p)

-- the form that a curve's record has: version 1, or version 2 with a and the primes
pub data Form : Type 0 where
  unwitnessed : Form
  witnessed : ℕ → List ℕ → Form

-- the mark HJC and the version
abbrev pub mark : List ℕ
mark = 72 ∷ 74 ∷ 67 ∷ []

abbrev pub version : Form → ℕ
version unwitnessed = 1
version (witnessed a l) = 2

abbrev pub is_marked : List ℕ → Bool
is_marked s = both (eqb (get_or s 0 0) (get_or mark 0 0)) (both (eqb (get_or s 1 0) (get_or mark 1 0)) (eqb (get_or s 2 0) (get_or mark 2 0)))

abbrev pub has_version : ℕ → Bool
has_version v = either (eqb v 1) (eqb v 2)

abbrev pub has_genus : ℕ → Bool
has_genus g = either (eqb g 2) (eqb g 3)

-- what the bytes say
abbrev pub version_of : List ℕ → ℕ
version_of s = get_or s 3 0 * 256 + get_or s 4 0

abbrev pub curve_of : List ℕ → CurveRecord
curve_of s = record { p = word64 s 6; g = get_or s 5 0; low = elements (word64 s 6) (words s 14 (suc (get_or s 5 0 + get_or s 5 0))) }

abbrev pub base_of : List ℕ → ℕ
base_of s = word64 s (22 + 16 * get_or s 5 0)

abbrev pub count_of : List ℕ → ℕ
count_of s = get_or s (30 + 16 * get_or s 5 0) 0

abbrev pub primes_of : List ℕ → List ℕ
primes_of s = words s (31 + 16 * get_or s 5 0) (count_of s)

abbrev pub form_of : List ℕ → Form
form_of s = choose (eqb (version_of s) 1) unwitnessed (witnessed (base_of s) (primes_of s))

-- what is asked of the bytes in version 1, and in version 2
abbrev pub unwitnessed_checks : List ℕ → List Check
unwitnessed_checks s =
    let c : CurveRecord = curve_of s in
    (eqb (length s) (22 + 16 * c.g), 1, 0) ∷
    (is_odd_prime c.p, 5, 0) ∷
    []

abbrev pub witnessed_checks : List ℕ → List Check
witnessed_checks s =
    let c : CurveRecord = curve_of s in
    (leb (31 + 16 * c.g) (length s), 1, 0) ∷
    (both (leb 1 (count_of s)) (leb (count_of s) 15), 18, 0) ∷
    (eqb (length s) (31 + 16 * c.g + 8 * count_of s), 1, 0) ∷
    (is_odd_number c.p, 5, 0) ∷
    (is_witnessed c.p (base_of s) (primes_of s), 18, 0) ∷
    []

abbrev pub curve_checks : List ℕ → List Check
curve_checks s =
    let c : CurveRecord = curve_of s in
    let f : List ℕ = words s 14 (suc (c.g + c.g)) in
    (leb 6 (length s), 1, 0) ∷
    (is_marked s, 2, 0) ∷
    (has_version (version_of s), 3, 0) ∷
    (has_genus c.g, 4, 0) ∷
    (choose (eqb (version_of s) 1) (unwitnessed_checks s) (witnessed_checks s) ++ (
    (is_below c.p f, 6, 0) ∷
    (is_square_free (curve c), 7, 0) ∷
    []))

unfoldable pub read_curve : List ℕ → Checked CurveRecord
unfolding word64 words is_odd_prime is_odd_number is_witnessed is_below elements is_square_free
read_curve s = first_failed (curve_checks s) (curve_of s)

abbrev pub witness_bytes : Form → List ℕ
witness_bytes unwitnessed = []
witness_bytes (witnessed a l) = bytes64 a ++ (length l ∷ all_bytes l)

unfoldable pub curve_bytes : CurveRecord → Form → List ℕ
unfolding bytes64 all_bytes numbers
curve_bytes c form = mark ++ (0 ∷ version form ∷ c.g ∷ (bytes64 c.p ++ (all_bytes (numbers c.p c.low) ++ witness_bytes form)))

-- ---- the divisor record: one byte of weight w, then u_0 to u_(w-1), then v_0 to v_(w-1)
-- alone it is the whole of the bytes; in a batch as many must remain
abbrev pub fits : Bool → ℕ → ℕ → Bool
fits true end all = eqb all end
fits false end all = leb end all

-- the numbers that the record from byte a on holds, and the pair of them
abbrev pub us_at : List ℕ → ℕ → List ℕ
us_at s a = words s (a + 1) (get_or s a 0)

abbrev pub vs_at : List ℕ → ℕ → List ℕ
vs_at s a = words s (a + 1 + 8 * get_or s a 0) (get_or s a 0)

abbrev pub made_of : (c : CurveRecord) → List ℕ → List ℕ → PairOf c
made_of c us vs = record { u = elements c.p us; v = elements c.p vs }

-- the k-th divisor, its record from byte a on
abbrev pub divisor_checks : CurveRecord → ℕ → Bool → List ℕ → ℕ → List Check
divisor_checks c k whole s a =
    (ltb a (length s), 8, k) ∷
    (leb (get_or s a 0) c.g, 9, k) ∷
    (fits whole (a + 1 + 16 * get_or s a 0) (length s), 8, k) ∷
    (both (is_below c.p (us_at s a)) (is_below c.p (vs_at s a)), 10, k) ∷
    (is_on_curve (curve c) (made_of c (us_at s a) (vs_at s a)), 11, k) ∷
    []

unfoldable pub divisor_at : (c : CurveRecord) → ℕ → Bool → List ℕ → ℕ → Checked (PairOf c)
unfolding words is_below elements is_on_curve
divisor_at c k whole s a = first_failed (divisor_checks c k whole s a) (made_of c (us_at s a) (vs_at s a))

abbrev pub read_divisor : (c : CurveRecord) → ℕ → List ℕ → Checked (PairOf c)
read_divisor c k s = divisor_at c k true s 0

unfoldable pub divisor_bytes : (p : ℕ) → Pair (modulo p) → List ℕ
unfolding all_bytes numbers
divisor_bytes p a = length a.u ∷ (all_bytes (numbers p a.u) ++ all_bytes (numbers p a.v))
