-- The records of a file, so many as its count says, and the batch of the same bytes. Gives: what is read of the records is what the batch comes to, refusals told apart by the count
-- (`records_are_batch`); so is what is read of the curve, the count and the records (`parts_are_batch`).
-- Open: `as_file`, `count_is`.
use Prim.Native.Nat.{ℕ, zero, suc, ◌+◌, ◌*◌, ◌≤◌, ◌<◌}
use mathlib.Core.Path.{◌≡◌, refl, sym, ap, ◌∙◌}
use mathlib.Core.List.{List}
use mathlib.Core.Bool.{Bool, true, false}
use native.Mathlib.Omega.{arith}
use lib.Dec.{eqb, ltb, leb}
use lib.ListN.{get_or, length, drop}
use borrow.Author.Tests.{le-leb, leb-true, leb-false, eq-eqb, ne_eqb, lt-ltb, le-ltb}
use Rattle.rules.specs.Checks.{Checked, refused, taken, choose, first_failed, go_on}
use Rattle.rules.specs.Records.{either, CurveRecord, PairOf, read_curve, divisor_at}
use Rattle.rules.specs.Lists.{Batch, batch_from, most_records}
use Rattle.rules.proofs.Calls.Checks.{passed_all, all_passed}
use Rattle.rules.proofs.Calls.Steps.{at_end, too_many, stops, goes_on}
use Rattle.rules.proofs.Calls.Batches.{Reading, ends, full, goes, reading}
use Rattle.rules.proofs.Calls.Batches
use Rattle.rules.proofs.Calls.Refusals.{OfCurve, curve-refused, divisor_refused, went_on}
use Rattle.rules.specs.Calls.{counted, check_batch}
use Rattle.rules.specs.Pole.PoleFile.{word16, count_checks, or_cut, records_from, read_parts}

-- what a batch comes to, as a file whose count is n has it: a record behind the n-th, one cut short, too few or too many are 23
abbrev pub as_file : ℕ → Checked (Batch (Unit {0})) → Checked (Unit {0})
as_file n x = elim x [
  | refused m j ↦ choose (either (eqb m 8) (either (eqb m 14) (ltb n j))) (refused 23 0) (refused m j)
  | taken b ↦ choose (eqb b.count n) (taken tt) (refused 23 0)
]

abbrev pub count_is : ℕ → Checked (Batch (Unit {0}))
count_is k = taken (record { result = tt; count = k })

-- ---- by cases
pub other_count : (n k : ℕ) → (k ≡ n → ⊥) → as_file n (count_is k) ≡ refused 23 0
other_count n k h = rw (ne_eqb k n h) refl

pub same_count : (n k : ℕ) → k ≡ n → as_file n (count_is k) ≡ taken tt
same_count n k h = rw (eq-eqb k n h) refl

pub later : (n m j : ℕ) → n < j → as_file n (refused m j) ≡ refused 23 0
later n m j h = go (eqb m 8) (eqb m 14)
  where
    go : (b d : Bool) → ◌≡◌ {A = Checked (Unit {0})} (choose (either b (either d (ltb n j))) (refused 23 0) (refused m j)) (refused 23 0)
    go true d = refl
    go false true = refl
    go false false = rw (lt-ltb n j h) refl

-- one of the n records
kept : {A : Type 0} (n m j : ℕ) (go : A → Checked (Unit {0})) → 8 ≤ m → m ≤ 11 → j ≤ n → go_on (or_cut (refused m j)) go ≡ as_file n (refused m j)
kept n m j go l u h = cases (eqb m 8)
  where
    cases : (b : Bool) → go_on (choose b (refused 23 0) (refused m j)) go ≡ choose (either b (either (eqb m 14) (ltb n j))) (refused 23 0) (refused m j)
    cases true = refl
    cases false = rw (ne_eqb m 14 (λ e. omega arith), le-ltb n j h) refl

pub stays : (n m j : ℕ) → (m ≡ 8 → ⊥) → (m ≡ 14 → ⊥) → j ≤ n → as_file n (refused m j) ≡ refused m j
stays n m j h f l = rw (ne_eqb m 8 h, ne_eqb m 14 f, le-ltb n j l) refl

pub cut_short : (n m j : ℕ) → m ≡ 8 → as_file n (refused m j) ≡ refused 23 0
cut_short n m j e = rw (eq-eqb m 8 e) refl

pub over_full : (n m j : ℕ) → m ≡ 14 → as_file n (refused m j) ≡ refused 23 0
over_full n m j e = rw (ne_eqb m 8 (λ z. omega arith), eq-eqb m 14 e) refl

-- a curve's refusal stays
pub kept-curve : (n : ℕ) {m j : ℕ} → OfCurve m j → as_file n (refused m j) ≡ refused m j
kept-curve n {m} {j} h = stays n m j (λ e. omega (arith, h.apart (omega arith))) (λ e. omega (arith, h.apart (omega arith))) (omega (arith, h.place))

module _ (c : CurveRecord) (s : List ℕ) (n : ℕ) where
  abbrev run : ℕ → ℕ → ℕ → Checked (Batch (Unit {0}))
  run fuel a k = batch_from c (λ x d. x) s fuel a k tt

  -- more than n records were read
  beyond : {fuel a k : ℕ} {from : Unit {0}} {x : Checked (Batch (Unit {0}))} → Reading c (λ x d. x) s fuel a k from x → n < k → as_file n x ≡ refused 23 0
  beyond (ends {k = k} l) h = other_count n k (λ e. omega arith)
  beyond (full l) h = refl
  beyond (Batches.stops {a = a} {k = k} {n = m} {j = j} q) h = later n m j (omega (arith, (divisor_refused c (k + 1) false s a q).2))
  beyond (goes {k = k} q r) h = beyond r (omega arith)

  past_end : (k a : ℕ) → length s ≤ a → divisor_at c k false s a ≡ refused 8 k
  unfolding divisor_at
  past_end k a h = rw (le-ltb a (length s) h) refl

  -- n records, and bytes are left
  over : (fuel a k : ℕ) → a < length s → n ≡ k → as_file n (run fuel a k) ≡ refused 23 0
  over zero a k l e = ap (as_file n) (too_many c (λ x d. x) s a k tt l)
  over (suc fuel) a k l e = go (divisor_at c (k + 1) false s a) refl
    where
      go : (x : Checked (PairOf c)) → divisor_at c (k + 1) false s a ≡ x → as_file n (run (suc fuel) a k) ≡ refused 23 0
      go (refused m j) q = ap (as_file n) (stops c (λ x d. x) s a k tt l fuel q) ∙ later n m j (omega (arith, (divisor_refused c (k + 1) false s a q).2))
      go (taken d) q = ap (as_file n) (goes_on c (λ x d. x) s a k tt l fuel q)
          ∙ beyond (reading c (λ x d. x) s fuel (a + 1 + 16 * get_or s a 0) (k + 1) tt) (omega arith)

  as_batch : (left fuel a k : ℕ) → left ≤ fuel → n ≡ k + left → records_from c s left a k ≡ as_file n (run fuel a k)
  unfolding records_from
  as_batch zero fuel a k l e = go (leb (length s) a) refl
    where
      go : (t : Bool) → leb (length s) a ≡ t → choose t (taken tt) (refused 23 0) ≡ as_file n (run fuel a k)
      go true q = sym (ap (as_file n) (at_end c (λ x d. x) s a k tt fuel (leb-true _ _ q)) ∙ same_count n k (omega arith))
      go false q = sym (over fuel a k (leb-false _ _ q) (omega arith))
  as_batch (suc left) zero a k l e = absurd (omega arith)
  as_batch (suc left) (suc fuel) a k l e = go (leb (length s) a) refl (divisor_at c (k + 1) false s a) refl (as_batch left fuel (a + 1 + 16 * get_or s a 0) (k + 1) (omega arith) (omega arith))
    where
      rest : PairOf c → Checked (Unit {0})
      rest d = records_from c s left (a + 1 + 16 * get_or s a 0) (k + 1)

      go : (t : Bool) → leb (length s) a ≡ t → (x : Checked (PairOf c)) → divisor_at c (k + 1) false s a ≡ x
          → records_from c s left (a + 1 + 16 * get_or s a 0) (k + 1) ≡ as_file n (run fuel (a + 1 + 16 * get_or s a 0) (k + 1))
          → go_on (or_cut x) rest ≡ as_file n (run (suc fuel) a k)
      go true q x h more = ap (λ y. go_on (or_cut y) rest) (sym h ∙ past_end (k + 1) a (leb-true _ _ q))
          ∙ sym (ap (as_file n) (at_end c (λ x d. x) s a k tt (suc fuel) (leb-true _ _ q)) ∙ other_count n k (λ z. omega arith))
      go false q (refused m j) h more = let w = divisor_refused c (k + 1) false s a h in
          kept n m j rest w.0 w.1 (omega (arith, w.2)) ∙ sym (ap (as_file n) (stops c (λ x d. x) s a k tt (leb-false _ _ q) fuel h))
      go false q (taken d) h more = more ∙ sym (ap (as_file n) (goes_on c (λ x d. x) s a k tt (leb-false _ _ q) fuel h))

  pub records_are_batch : n ≤ 4096 → records_from c s n 0 0 ≡ as_file n (counted c s)
  records_are_batch h = as_batch n most_records 0 0 h (omega arith)

-- ---- the curve, the count and the records
module _ (s rest : List ℕ) where
  abbrev count_read : Checked ℕ
  count_read = first_failed (count_checks rest) (word16 rest 0)

  -- a count that isn't there, or over 4,096, is 23, after the curve's numbers
  pub no_count : {n k : ℕ} → count_read ≡ refused n k → read_parts s rest ≡ go_on (read_curve s) (λ c. refused n k)
  unfolding read_parts
  no_count {n} {k} e = ap (λ x. go_on (read_curve s) (λ c. go_on x (λ n. records_from c (drop 2 rest) n 0 0))) e

  pub parts_are_batch : 2 ≤ length rest → word16 rest 0 ≤ 4096 → read_parts s rest ≡ as_file (word16 rest 0) (check_batch s (drop 2 rest))
  unfolding read_parts check_batch
  parts_are_batch l u = go (read_curve s) refl
    where
      n : ℕ
      n = word16 rest 0

      there : count_read ≡ taken n
      there = passed_all n (count_checks rest) (le-leb 2 (length rest) l, (le-leb n most_records u, tt))

      go : (x : Checked CurveRecord) → read_curve s ≡ x → go_on x (λ c. go_on count_read (λ n. records_from c (drop 2 rest) n 0 0)) ≡ as_file n (go_on x (λ c. counted c (drop 2 rest)))
      go (refused m j) e = sym (kept-curve n (curve-refused s e))
      go (taken c) e = ap (λ x. go_on x (λ n. records_from c (drop 2 rest) n 0 0)) there ∙ records_are_batch c (drop 2 rest) n u

  -- parts that were taken: the curve was, the count is there and at most 4,096, and so many good records follow
  pub parts_taken : read_parts s rest ≡ taken tt → (c : CurveRecord) × (read_curve s ≡ taken c) × (2 ≤ length rest) × (word16 rest 0 ≤ 4096) × (records_from c (drop 2 rest) (word16 rest 0) 0 0 ≡ taken tt)
  unfolding read_parts
  parts_taken e =
      let r = went_on (read_curve s) _ e in
      let q = went_on count_read _ r.2 in
      let h = all_passed (word16 rest 0) (count_checks rest) q.1 in
      (r.0, r.1, leb-true _ _ h.0.0, leb-true _ _ h.0.1.0, ap (λ (n : ℕ). records_from r.0 (drop 2 rest) n 0 0) h.1 ∙ q.2)
