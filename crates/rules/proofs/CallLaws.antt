-- The calls' rules of specs/ and what they buy, in document 01's words; nothing here speaks of code. A call is a function from the bytes lent
-- to the whole answer and output (specs.Calls). `read_curve s ≡ taken c` says that s is a curve record, and c what it says;
-- `AllRecords c rs` that each of rs is a divisor record on c, and `pair_of c r` is the pair of one; `answered w ≡ 0` that a call
-- answered 0, and `front w` is then what it left at the front of its output. The proofs are in calls/. (When each number is given: crate `table`.)
use Prim.Native.Nat.{ℕ, suc, ◌+◌, ◌*◌, ◌%◌, ◌≤◌, ◌<◌}
use mathlib.Core.Path.{◌≡◌, refl, sym, ap, ◌∙◌, subst}
use mathlib.Core.List.{List, [], ◌∷◌, ◌++◌, map, foldl, flatten, Perm, Memᴰ}
use mathlib.Core.Bool.{true}
use mathlib.Core.Logic.{◌↔◌, ◌≢◌}
use lib.ListN.{length, take, drop}
use Rattle.algebra.proofs.Ring.Field.{Arith}
use Rattle.algebra.proofs.Zmod.Prime.{Prime}
use Rattle.algebra.proofs.Zmod.PrimeField.{modulo}
use Rattle.rules.specs.Bytes.{number, word32}
use Rattle.rules.specs.Pair.{Pair, Valid, neutral, opposite}
use Rattle.rules.specs.Sum.{double}
use Rattle.rules.specs.Multiple.{multiple}
use Rattle.rules.specs.Records.{Checked, refused, taken, CurveRecord, curve, PairOf, Form, form_of, read_curve, read_divisor, curve_bytes, divisor_bytes}
use Rattle.rules.specs.First.{Clear, FirstAt}
use Rattle.rules.specs.Lists.{Batch, batch, Same, is_equal, first_repeat}
use Rattle.rules.specs.Census.{passing, census, next, Below}
use Rattle.rules.specs.Calls.{done, Result, stop, put, deliver, check_divisor, write, rewrite_curve, rewrite_divisor, double_call, opposite_call, add_call, multiply_call, total_call, repeat_call, Running, fresh, resume, scan_call}
use Rattle.rules.proofs.Demand3.{Demand3}
use Rattle.rules.proofs.Cantor.Totals.{AllValid}
use Rattle.rules.proofs.Calls.Tests.{taken_inj}
use Rattle.rules.proofs.Calls.Bytes.{AreBytes}
use Rattle.rules.proofs.Calls.CurveRecords.{Shown, accepts, curve_read, shown_of}
use Rattle.rules.proofs.Calls.CurveWritten.{curve_written, curve_reread, form_reread}
use Rattle.rules.proofs.Calls.DivisorRecords.{divisor_valid, divisor_written, divisor_reread}
use Rattle.rules.proofs.Calls.Accepted.{curve_laws}
use Rattle.rules.proofs.Calls.Batches.{pair_of, AllRecords, MadeOf, records_valid, batch_records, batch_made, batch_is}
use Rattle.rules.proofs.Calls.Repeats.{SameAt}
use Rattle.rules.proofs.Calls.Written.{front, answered, bare}
use Rattle.rules.proofs.Calls.Done.{OneDone, MultiplyDone, AddDone, TotalDone, total_of}
use Rattle.rules.proofs.Calls.Totals.{subtotal, adds}
use Rattle.rules.proofs.Calls.OneScan.{ScanDone}
use Rattle.rules.proofs.Calls.Scans.{running_result, scans, AllDone, AllFor, records_of, of_pole}
use Rattle.rules.proofs.Calls.Delivered.{Kept, RestKept}
use Rattle.rules.proofs.Calls.Taken.{total-result}
use Rattle.rules.proofs.Calls.Reached.{TookCurve}
use Rattle.rules.proofs.Calls.Keys.{EmptyKey}
use Rattle.rules.specs.Calls.{check_order, split_call, next_call}
use Rattle.rules.proofs.Census.Rising.{Rising}
use Rattle.rules.proofs.Census.Census.{Least, Last}
use Rattle.rules.proofs.Calls.Next.{call_walk}
use Rattle.rules.proofs.Calls.Orders.{Ordered, OrderDone, NotOrder}
use Rattle.rules.proofs.Calls.Splits.{Unsplit, SplitDone}
use Rattle.rules.proofs.Calls.Rewrites
use Rattle.rules.proofs.Calls.Delivered
use Rattle.rules.proofs.Calls.Repeats
use Rattle.rules.proofs.Calls.Same as SameLaws
use Rattle.rules.proofs.Calls.Taken
use Rattle.rules.proofs.Calls.Keys
use Rattle.rules.proofs.Calls.Orders
use Rattle.rules.proofs.Calls.Splits
use Rattle.rules.proofs.Calls.Next
use Rattle.rules.proofs.Census.Census
use Rattle.rules.proofs.Calls.Done
use Rattle.rules.proofs.Calls.Sums
use Rattle.rules.proofs.Calls.Totals
use Rattle.rules.proofs.Calls.OneScan
use Rattle.rules.proofs.Calls.Scans

-- ---- the records
module _ (s : List ℕ) {c : CurveRecord} (ec : read_curve s ≡ taken c) where
  -- writing what was read gives the same bytes; reading what was written gives the same value
  pub curve_bytes_same : AreBytes s → curve_bytes c (form_of s) ≡ s
  curve_bytes_same bytes = curve_written s bytes ec

  pub curve_value_same : (form : Form) → Shown c.p form → (read_curve (curve_bytes c form) ≡ taken c) × (form_of (curve_bytes c form) ≡ form)
  curve_value_same form w = (curve_reread c (accepts s ec) form w, form_reread c (accepts s ec) form w)

  -- the form that it came in is one that shows p prime; what is taken is prime, whoever proposed the witness
  pub form_shows : Shown c.p (form_of s)
  form_shows = let r = curve_read s ec in subst (λ d. Shown d.p (form_of s)) r.1 (shown_of s r.0.formed)

  pub taken_prime : Prime c.p
  taken_prime = (accepts s ec).prime.is

  pub divisor_bytes_same : (k : ℕ) (a : List ℕ) {d : PairOf c} → AreBytes a → read_divisor c k a ≡ taken d → divisor_bytes c.p d ≡ a
  divisor_bytes_same k a bytes e = divisor_written c (accepts s ec) k a bytes e

  pub divisor_value_same : (k : ℕ) (d : PairOf c) → Valid (curve c) d → read_divisor c k (divisor_bytes c.p d) ≡ taken d
  divisor_value_same k d v = divisor_reread c (accepts s ec) d v k

  -- a curve that is taken is one of demand 3's, a divisor that is taken is valid on it
  pub taken_curve : Demand3 (curve c)
  taken_curve = curve_laws s ec

  pub taken_divisor : (k : ℕ) (a : List ℕ) {d : PairOf c} → read_divisor c k a ≡ taken d → Valid (curve c) d
  taken_divisor k a e = divisor_valid c k true a 0 e

  -- a batch that is taken is at most 4,096 records one after the other, all valid, and each goes in once, from first to last
  pub taken_batch : {A : Type 0} (step : A → PairOf c → A) (from : A) (records : List ℕ) {b : Batch A} → batch c step records from ≡ taken b
      → (m : MadeOf c records) × AllValid (curve c) (map (pair_of c) m.records)
      × (b ≡ record { result = foldl step from (map (pair_of c) m.records); count = length m.records })
  taken_batch step from records e = let m = batch_made c step records from e in
      (m, records_valid c m.records m.good, taken_inj (sym e ∙ batch_is c step records from m))

-- rewriting gives back the bytes
pub rewritten_curve : (s out : List ℕ) → AreBytes s → answered (rewrite_curve s out) ≡ 0 → front (rewrite_curve s out) ≡ s
rewritten_curve = Rewrites.rewrite_curve_same

pub rewritten_divisor : (s a out : List ℕ) → AreBytes a → answered (rewrite_divisor s a out) ≡ 0 → front (rewrite_divisor s a out) ≡ a
rewritten_divisor = Rewrites.rewrite_divisor_same

-- ---- a call that answered 0: its records were taken, and what it wrote is read back as the sum, the double, ..
pub add_back : (s a b out : List ℕ) → answered (add_call s a b out) ≡ 0 → TookCurve s (λ c. AddDone c a b out (add_call s a b out))
add_back s a b out e = let t = Done.add_took s a b out e in (t.0, t.1, Done.add_done s a b out t.1 e)

pub double-back : (s a out : List ℕ) → answered (double_call s a out) ≡ 0 → TookCurve s (λ c. OneDone (λ c x. double (curve c) x) c a out (double_call s a out))
double-back s a out e = let t = Done.double_took s a out e in (t.0, t.1, Done.double_done s a out t.1 e)

pub opposite-back : (s a out : List ℕ) → answered (opposite_call s a out) ≡ 0 → TookCurve s (λ c. OneDone (λ c x. opposite x) c a out (opposite_call s a out))
opposite-back s a out e = let t = Done.opposite_took s a out e in (t.0, t.1, Done.opposite_done s a out t.1 e)

pub multiply_back : (s a n out : List ℕ) → answered (multiply_call s a n out) ≡ 0
    → TookCurve s (λ c. MultiplyDone c a n out (multiply_call s a n out))
multiply_back s a n out e = let t = Done.multiply_took s a n out e in (t.0, t.1, Done.multiply_done s a out t.1 n e)

pub total-back : (s records out : List ℕ) → answered (total_call s records out) ≡ 0 → TookCurve s (λ c. TotalDone c records out (total_call s records out))
total-back s records out e = let t = Done.total_took s records out e in (t.0, t.1, Done.total-done s records out t.1 e)

-- so the check of what they wrote (`back 1`) answers 0
pub check_accepts : (s : List ℕ) {c : CurveRecord} → read_curve s ≡ taken c → (a : List ℕ) {d : PairOf c} → read_divisor c 1 a ≡ taken d → check_divisor s a ≡ done 0
check_accepts s ec = Taken.check_is s ec

-- ---- demand 3: sums
module _ (s : List ℕ) where
  -- whatever the bytes are, refused or done: twice a divisor is its sum with itself, and the record 00 adds nothing
  pub doubles : (a out : List ℕ) → add_call s a a out ≡ double_call s a out
  doubles = Sums.add_self s

  pub adds_nothing : (a out : List ℕ) → add_call s a (0 ∷ []) out ≡ rewrite_divisor s a out
  adds_nothing = Sums.add_neutral s

  pub commutes : (a b out : List ℕ) → answered (add_call s a b out) ≡ 0 → add_call s b a out ≡ add_call s a b out
  commutes = Sums.add_comm s

  pub associates : (a b d o1 o2 out : List ℕ) → answered (add_call s a b o1) ≡ 0 → answered (add_call s b d o2) ≡ 0
      → add_call s (front (add_call s a b o1)) d out ≡ add_call s a (front (add_call s b d o2)) out
  associates = Sums.add_assoc s

  pub cancels : (a o1 out : List ℕ) → answered (opposite_call s a o1) ≡ 0 → add_call s a (front (opposite_call s a o1)) out ≡ write out (0 ∷ [])
  cancels = Sums.add_opposite s

  -- multiples: n-fold, then m-fold, is mn-fold; m-fold plus n-fold is (m + n)-fold. The scalars have at most 32 bytes, and no step gives 19 (the first law
  -- needs that of the n-fold alone: where the mn-fold is neutral, both ways give 19)
  pub multiplies : (a m n k o1 out : List ℕ) → answered (multiply_call s a n o1) ≡ 0 → length m ≤ 32 → length k ≤ 32 → number k ≡ number m * number n
      → bare (multiply_call s (front (multiply_call s a n o1)) m out) ≡ bare (multiply_call s a k out)
  multiplies = Sums.multiply_mul s

  pub distributes : (a m n k o1 o2 out : List ℕ) → answered (multiply_call s a m o1) ≡ 0 → answered (multiply_call s a n o2) ≡ 0
      → length k ≤ 32 → number k ≡ number m + number n → (answered (multiply_call s a k out) ≡ 19 → ⊥)
      → add_call s (front (multiply_call s a m o1)) (front (multiply_call s a n o2)) out ≡ bare (multiply_call s a k out)
  distributes = Sums.multiply_add s

  -- no empty keys (W-207): 19 exactly where the divisor given or the multiple is neutral, the earlier checks passing, whatever the output; so for scalar 0
  pub refuses_empty : (a n out : List ℕ) → (answered (multiply_call s a n out) ≡ 19) ↔ EmptyKey s a n
  refuses_empty = Keys.empty_key s

-- ---- the census of a training curve (W-211): the list `census c` has the valid divisors, each exactly once, in the order of weight and then of record bytes, so that its length is their number
module _ (s : List ℕ) {c : CurveRecord} (ec : read_curve s ≡ taken c) where
  pub census_members : (x : PairOf c) → Memᴰ x (census c) ↔ Valid (curve c) x
  census_members = Census.census_valid c (Next.some s ec) (Next.most s ec)

  pub census_each_once : (x : PairOf c) → Valid (curve c) x → passing (is_equal c.p x) (census c) ≡ x ∷ []
  census_each_once = Census.census_once c (Next.some s ec) (Next.most s ec)

  pub census_in_order : Rising (Below c.p) (census c)
  census_in_order = Census.census_rising c (Next.some s ec) (Next.most s ec)

  pub census_number : (l : List (PairOf c)) → Rising ◌≢◌ l → ((x : PairOf c) → Memᴰ x l ↔ Valid (curve c) x) → length l ≡ length (census c)
  census_number = Census.census_number c (Next.some s ec) (Next.most s ec)

  -- the next one after a valid divisor is the least valid one above it; 24 says that none is above it
  pub next_is_least : (x : PairOf c) → Valid (curve c) x → (y : PairOf c) → (next c x ≡ taken y) ↔ Least c x y
  next_is_least = Census.next_least c (Next.some s ec) (Next.most s ec)

  pub next_is_none : (x : PairOf c) → Valid (curve c) x → (next c x ≡ refused 24 0) ↔ Last c x
  next_is_none = Census.next_none c (Next.some s ec) (Next.most s ec)

  -- the call: 25 right after the curve's checks, then the divisor's, then 24; else the record of the next one, or 13
  pub next_25 : 13 < c.p → (a out : List ℕ) → next_call s a out ≡ stop tt out 25 0
  next_25 = Next.next_large s ec

  module _ (small : c.p ≤ 13) where
    pub next_refused : (a out : List ℕ) {n k : ℕ} → read_divisor c 1 a ≡ refused n k → next_call s a out ≡ stop tt out n k
    next_refused = Next.next_no_divisor s ec small

    pub next_24 : (a out : List ℕ) {x : PairOf c} → read_divisor c 1 a ≡ taken x → Last c x → next_call s a out ≡ stop tt out 24 0
    next_24 = Next.next_last s ec small

    pub next_written : (a out : List ℕ) {x : PairOf c} → read_divisor c 1 a ≡ taken x → (y : PairOf c) → Least c x y → next_call s a out ≡ write out (divisor_bytes c.p y)
    next_written = Next.next_record s ec small

    -- from the neutral record on, each call given what the last one wrote, with room for any record: the records of the census, and then 24
    pub calls_are_census : (out : List ℕ) → 1 + 16 * c.g ≤ length out → (n : ℕ) → length (census c) ≤ n → call_walk s out n (0 ∷ []) ≡ map (divisor_bytes c.p) (census c)
    calls_are_census = Next.calls_census s ec small

    pub calls_end_in_24 : (out : List ℕ) (l : List (PairOf c)) (x : PairOf c) → census c ≡ l ++ (x ∷ []) → next_call s (divisor_bytes c.p x) out ≡ stop tt out 24 0
    calls_end_in_24 = Next.call_ends s ec small

-- ---- a key's order (W-214)
module _ (s a order primes : List ℕ) where
  -- of a curve and a divisor that were taken: where n is accepted, for every m the m-fold is neutral exactly when n divides m
  pub order_exactly : {c : CurveRecord} → read_curve s ≡ taken c → {x : PairOf c} → read_divisor c 1 a ≡ taken x
      → (check_order s a order primes).number ≡ 0 → (m : ℕ) → (multiple (curve c) m x ≡ neutral) ↔ (m % number order ≡ 0)
  order_exactly ec ea = Orders.order_exactly s a order primes ec ea

  -- and n is accepted where it has at most 32 bytes and is the order, with the list its primes, whole, at most 32 and each below 2^31
  pub order_answers : {c : CurveRecord} → read_curve s ≡ taken c → {x : PairOf c} → read_divisor c 1 a ≡ taken x → length order ≤ 32 → Ordered c x order primes → check_order s a order primes ≡ done 0
  order_answers ec ea = Orders.order_accepts s a order primes ec ea

  -- 0 exactly then, and 27 exactly where what is checked before passed, and that isn't so
  pub order_accepted : ((check_order s a order primes).number ≡ 0) ↔ OrderDone s a order primes
  order_accepted = Orders.order_done s a order primes

  pub order_refused : ((check_order s a order primes).number ≡ 27) ↔ NotOrder s a order primes
  order_refused = Orders.order_27 s a order primes

-- ---- splitting a divisor (W-213)
module _ (s a out : List ℕ) where
  -- 26 exactly where the weight is below 2 or no number below p is a root of u, what is checked before passing
  pub split_refused : (answered (split_call s a out) ≡ 26) ↔ Unsplit s a
  split_refused = Splits.split_26 s a out

  -- where it answers 0: 34 or 50 bytes, two records, of the part at the root that the ticket names and of the rest
  pub split_back : answered (split_call s a out) ≡ 0 → SplitDone s a (split_call s a out)
  split_back = Splits.split_done s a out

  -- and their sum is the divisor
  pub split_then_add : answered (split_call s a out) ≡ 0 → (o : List ℕ) → add_call s (take 17 (front (split_call s a out))) (drop 17 (front (split_call s a out))) o ≡ rewrite_divisor s a o
  split_then_add = Splits.split_add s a out

-- ---- demand 3: totals
module _ (s : List ℕ) {c : CurveRecord} (ec : read_curve s ≡ taken c) (rs : List (List ℕ)) (good : AllRecords c rs) where
  -- at most 4,096 good records; 14 where a batch goes on after them
  pub batch_of_records : {A : Type 0} (step : A → PairOf c → A) (from : A) → length rs ≤ 4096
      → batch c step (flatten rs) from ≡ taken (record { result = foldl step from (map (pair_of c) rs); count = length rs })
  batch_of_records step from = batch_records c step rs from good

  pub total_of_records : (out : List ℕ) → length rs ≤ 4096 → total_call s (flatten rs) out ≡ put 0 out (total-result c (total_of c rs) (length rs))
  total_of_records = Totals.total_records s ec rs good

  pub goes_on : (rest out : List ℕ) → length rs ≡ 4096 → 0 < length rest → total_call s (flatten rs ++ rest) out ≡ stop 0 out 14 0
  goes_on = Totals.total_over s ec rs good

  -- in any order (and of any number of them)
  pub any_order : (rs' : List (List ℕ)) → Perm rs rs' → (out : List ℕ) → total_call s (flatten rs) out ≡ total_call s (flatten rs') out
  any_order rs' p out = Totals.total_any_order s ec rs rs' good p out

  -- by any parts, each totalled by a call that wrote to o: the totals are summed by one more batch, or one after the other by sums
  module _ (o : List ℕ) (room : 49 ≤ length o) (parts : List (List (List ℕ))) (p : Perm rs (flatten parts)) (few : length rs ≤ 4096) where
    pub any_split : (out : List ℕ) → length parts ≤ 4096 → bare (total_call s (flatten (map (subtotal s o) parts)) out) ≡ bare (total_call s (flatten rs) out)
    any_split = Totals.total_any_split s ec o room rs parts good p few

    pub any_split_by_sums : adds s o (0 ∷ []) (map (subtotal s o) parts) ≡ subtotal s o rs
    any_split_by_sums = Totals.total_by_adds s ec o room rs parts good p few

-- ---- the pole's list
-- a scan that answers 0 adds the record's divisor to the total's and 1 to its count, whatever total it was lent
pub scan_adds : (s : List ℕ) {c : CurveRecord} → read_curve s ≡ taken c → (t : Running) (a : List ℕ) → (scan_call t s a).answer.number ≡ 0 → ScanDone c t a (scan_call t s a)
scan_adds s ec = OneScan.scan_done s ec

-- a scan's refusals in their order (W-209), each of which leaves the total: 15 and 14, whatever is scanned; then 8 at place 1, below 4 bytes; then 20 for another pole, whatever stands behind its number
module _ (s : List ℕ) {c : CurveRecord} (ec : read_curve s ≡ taken c) (t : Running) (a : List ℕ) where
  pub scan_into_unfit : {n k : ℕ} → resume c t ≡ refused n k → scan_call t s a ≡ stop t [] n k
  scan_into_unfit = OneScan.scan_unfit s ec t a

  pub scan_cut_short : {x : PairOf c} → resume c t ≡ taken x → length a < 4 → scan_call t s a ≡ stop t [] 8 1
  scan_cut_short = OneScan.scan_short s ec t a

  pub scan_of_another : {x : PairOf c} → resume c t ≡ taken x → 4 ≤ length a → (word32 a 0 ≡ t.pole → ⊥) → scan_call t s a ≡ stop t [] 20 0
  scan_of_another = OneScan.scan_other s ec t a

module _ (s : List ℕ) {c : CurveRecord} (ec : read_curve s ≡ taken c) (pole : ℕ) (l : List (List ℕ)) where
  -- from a fresh total every scan answers 0 exactly where each was for its pole, of a good record, and they are at most 4,096
  pub scans_answer : AllDone (fresh pole) s l ↔ (AllFor c pole l × (length l ≤ 4096))
  scans_answer = Scans.scans_done s ec pole l

  -- and then the running total equals the batch total of what was taken so far
  pub scans_are_total : AllDone (fresh pole) s l → (out : List ℕ) → total_call s (flatten (records_of l)) out ≡ put 0 out (running_result (scans (fresh pole) s l))
  scans_are_total = Scans.scans_batch s ec pole l

  -- from a mixed list: whatever else is scanned for other poles, the total is the batch total of the records for its own
  pub scans_of_one_pole : AllFor c pole (of_pole pole l) → length (of_pole pole l) ≤ 4096 → (out : List ℕ)
      → total_call s (flatten (records_of (of_pole pole l))) out ≡ put 0 out (running_result (scans (fresh pole) s l))
  scans_of_one_pole good few out = Scans.scans_batch s ec pole (of_pole pole l) ((Scans.scans_done s ec pole (of_pole pole l)).1 (good, few)) out
      ∙ ap (λ (t : Running). put 0 out (running_result t)) (sym (Scans.scans_mixed s ec l (fresh pole) pole refl))

module _ (s : List ℕ) {c : CurveRecord} (ec : read_curve s ≡ taken c) (rs : List (List ℕ)) where
  -- the first repeat among good records
  pub repeat_of_records : AllRecords c rs → length rs ≤ 4096 → repeat_call s (flatten rs) ≡ record { answer = done 0; out = []; own = first_repeat c.p (map (pair_of c) rs) }
  repeat_of_records = Repeats.repeat_records s ec rs

-- none, exactly where no two are the same; or least j, then least i < j
module _ (p : ℕ) (l : List (Pair (modulo p))) where
  pub repeat_none : (first_repeat p l ≡ record { first = 0; second = 0 }) ↔ Clear (SameAt l) (length l)
  repeat_none = Repeats.no_repeat_at p l

  pub repeat_first : (i j : ℕ) → (first_repeat p l ≡ record { first = suc i; second = suc j }) ↔ FirstAt (SameAt l) (length l) i j
  repeat_first = Repeats.repeat_at p l

-- the same meters: as an equivalence, and where a divisor is its own opposite
module _ (K : Arith) where
  pub same_equivalence : ((a : Pair K) → Same a a) × (((a b : Pair K) → Same a b → Same b a) × ((a b c : Pair K) → Same a b → Same b c → Same a c))
  same_equivalence = (SameLaws.same_refl K, (SameLaws.same_sym K, SameLaws.same_trans K))

  pub same_as_itself : (a b : Pair K) → opposite b ≡ b → Same a b ↔ (a ≡ b)
  same_as_itself = SameLaws.own_same K

-- ---- what each call leaves, of every call at once: its rule is `deliver` of what its checks and its result come to. Whatever it answers, behind the length that it answers the output is unchanged; on any other
-- number than 0 length and counts are 0 and output and total are unchanged
pub rest_unchanged : {N : Type 0} (none : N) (out : List ℕ) (x : Checked (Result N)) → RestKept none out (deliver none out x)
rest_unchanged = Delivered.rest_kept

pub refusal_changes_nothing : {N : Type 0} (none : N) (out : List ℕ) (x : Checked (Result N)) → Kept none out (deliver none out x)
refusal_changes_nothing = Delivered.refused_kept

-- ---- one answer: two programs that keep a call's words on the same bytes agree in the answer and in every byte of the output
-- (a Reply is an answer, an output and the call's own numbers, a running total among them: equal to the rule's, part by part)
pub one_answer : {A : Type 0} {rule x y : A} → x ≡ rule → y ≡ rule → x ≡ y
one_answer e h = e ∙ sym h
