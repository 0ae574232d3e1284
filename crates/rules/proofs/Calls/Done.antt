-- Calls that answered 0: all that they read was taken, the result stands at the front of the output, and read back it is taken (`OneDone`,
-- `MultiplyDone`, `AddDone`, `TotalDone`); whatever call it was, its curve was taken (`add_took` and its like).
use Prim.Native.Nat.{ℕ, ◌≤◌, ◌<◌}
use mathlib.Core.Path.{◌≡◌, sym, ap, ◌∙◌}
use mathlib.Core.List.{List, map}
use mathlib.Core.Bool.{Bool, true}
use native.Mathlib.Omega.{arith}
use lib.ListN.{length}
use borrow.Author.Tests.{leb-true}
use Rattle.rules.specs.Bytes.{number}
use Rattle.rules.specs.Pair.{Valid, neutral, opposite}
use Rattle.rules.specs.Sum.{sum, double}
use Rattle.rules.specs.Multiple.{multiple, total, doublings, additions}
use Rattle.rules.specs.Tests.{is_weight}
use Rattle.rules.specs.Checks.{Checked, refused, taken, choose, Check, first_failed, go_on}
use Rattle.rules.specs.Records.{CurveRecord, curve, PairOf, read_curve, read_divisor, divisor_bytes}
use Rattle.rules.specs.Lists.{batch}
use Rattle.rules.specs.Calls.{Result, Reply, stop, put, deliver, write, rewrite_curve, from_one, rewrite_divisor, double_call, opposite_call, add_call, multiply_checks, multiply_call, total_call}
use Rattle.rules.proofs.Demand3.{Demand3}
use Rattle.rules.proofs.Calls.CurveRecords.{Accepts, accepts}
use Rattle.rules.proofs.Calls.Accepted.{accepts_laws}
use Rattle.rules.proofs.Calls.DivisorRecords.{divisor_valid, divisor_reread}
use Rattle.rules.proofs.Calls.Batches.{MadeOf, pair_of, records_valid, batch_made, batch_is}
use Rattle.rules.proofs.Calls.Refusals.{Numbered, on_taken, curve_numbered, divisor_numbered}
use Rattle.rules.proofs.Calls.Checks.{all_passed, refused_as}
use Rattle.rules.proofs.Calls.Delivered.{put_done, delivered, came_on}
use Rattle.rules.proofs.Calls.Places.{batch_numbered}
use Rattle.rules.proofs.Calls.Written.{Written, front, answered, bare, front_is}
use Rattle.rules.proofs.Calls.Taken.{no_counts, multiple-result, total-result, one_is, add_is, multiply_is, multiply_written, total_is, total_written}

-- a valid divisor, written where there is room for it, is read back
pub read_back : (c : CurveRecord) → Accepts c → (d : PairOf c) → Valid (curve c) d → (out : List ℕ) {w : Written} → w ≡ write out (divisor_bytes c.p d) → answered w ≡ 0
    → (k : ℕ) → read_divisor c k (front w) ≡ taken d
read_back c ok d v out e zero k =
    ap (read_divisor c k) (ap front e ∙ front_is out (divisor_bytes c.p d) (ap answered (sym e) ∙ zero)) ∙ divisor_reread c ok d v k

-- ---- one divisor in, one out
pub record OneDone (f : (c : CurveRecord) → PairOf c → PairOf c) (c : CurveRecord) (a out : List ℕ) (w : Written) : Type 0 where
  pub x : PairOf c
  pub a_is : read_divisor c 1 a ≡ taken x
  pub is : w ≡ write out (divisor_bytes c.p (f c x))
  pub back : (k : ℕ) → read_divisor c k (front w) ≡ taken (f c x)

abbrev pub Closed : ((c : CurveRecord) → PairOf c → PairOf c) → Type 0
Closed f = (c : CurveRecord) → Demand3 (curve c) → (x : PairOf c) → Valid (curve c) x → Valid (curve c) (f c x)

-- a multiple, with its two counts: its scalar has at most 32 bytes, and neither the divisor nor the multiple is neutral
pub record MultiplyDone (c : CurveRecord) (a scalar out : List ℕ) (w : Reply (ℕ × ℕ)) : Type 0 where
  pub short : length scalar ≤ 32
  pub one : OneDone (λ c x. multiple (curve c) (number scalar) x) c a out (bare w)
  pub given : is_weight one.x ≡ true
  pub made : is_weight (multiple (curve c) (number scalar) one.x) ≡ true
  pub doubled : w.own.0 ≡ doublings (number scalar)
  pub added : w.own.1 ≡ additions (number scalar)

module _ (s a out : List ℕ) {c : CurveRecord} (ec : read_curve s ≡ taken c) where
  ok : Accepts c
  ok = accepts s ec

  one_done : (f : (c : CurveRecord) → PairOf c → PairOf c) → Closed f → answered (deliver tt out (from_one f s a)) ≡ 0 → OneDone f c a out (deliver tt out (from_one f s a))
  one_done f closed e =
      let r = came_on tt out (read_divisor c 1 a) _ (divisor_numbered c 1 true a 0) (ap (λ x. answered (deliver tt out x)) (sym (on_taken _ _ ec)) ∙ e) in
      finish r.0 r.1
    where
      finish : (x : PairOf c) → read_divisor c 1 a ≡ taken x → OneDone f c a out (deliver tt out (from_one f s a))
      finish x h = let is = one_is s ec a h out f in
          record { x = x; a_is = h; is = is; back = read_back c ok (f c x) (closed c (accepts_laws c ok) x (divisor_valid c 1 true a 0 h)) out is e }

  pub rewrite_done : answered (rewrite_divisor s a out) ≡ 0 → OneDone (λ c x. x) c a out (rewrite_divisor s a out)
  unfolding rewrite_divisor
  rewrite_done e = one_done (λ c x. x) (λ c h x v. v) e

  pub double_done : answered (double_call s a out) ≡ 0 → OneDone (λ c x. double (curve c) x) c a out (double_call s a out)
  unfolding double_call
  double_done e = one_done (λ c x. double (curve c) x) (λ c h x v. h.double_closed x v) e

  pub opposite_done : answered (opposite_call s a out) ≡ 0 → OneDone (λ c x. opposite x) c a out (opposite_call s a out)
  unfolding opposite_call
  opposite_done e = one_done (λ c x. opposite x) (λ c h x v. h.opposite_closed x v) e

  pub multiply_done : (scalar : List ℕ) → answered (multiply_call s a scalar out) ≡ 0 → MultiplyDone c a scalar out (multiply_call s a scalar out)
  unfolding multiply_call
  multiply_done scalar e =
      let r = came_on no_counts out (read_divisor c 1 a) _ (divisor_numbered c 1 true a 0) (ap (λ x. answered (deliver no_counts out x)) (sym (on_taken _ _ ec)) ∙ e) in
      let q = delivered no_counts out (checked r.0) (numbered r.0) r.2 in
      let t = (all_passed (multiple-result c (number scalar) r.0) (checks r.0) q.is).0 in
      finish r.0 r.1 (leb-true _ _ t.0) t.1.0 t.1.1.0
    where
      checks : PairOf c → List Check
      checks x = multiply_checks c scalar x (multiple (curve c) (number scalar) x)

      checked : PairOf c → Checked (Result (ℕ × ℕ))
      checked x = first_failed (checks x) (multiple-result c (number scalar) x)

      numbered : (x : PairOf c) → Numbered (checked x)
      numbered x n k e = refused_as (multiple-result c (number scalar) x) (λ n k. 0 < n) (checks x) (omega arith, (omega arith, (omega arith, tt))) e

      counts : (x : PairOf c) → read_divisor c 1 a ≡ taken x → length scalar ≤ 32 → is_weight x ≡ true → is_weight (multiple (curve c) (number scalar) x) ≡ true
          → (multiply_call s a scalar out).own ≡ (doublings (number scalar), additions (number scalar))
      counts x h l given made =
          let r : Result (ℕ × ℕ) = multiple-result c (number scalar) x in
          let is : multiply_call s a scalar out ≡ put no_counts out r = multiply_is s ec a h out scalar l given ∙ ap (λ (t : Bool). deliver no_counts out (choose t (taken r) (refused 19 0))) made in
          ap (λ (w : Reply (ℕ × ℕ)). w.own) (is ∙ put_done no_counts out r (ap (λ (w : Reply (ℕ × ℕ)). w.answer.number) (sym is) ∙ e))

      finish : (x : PairOf c) → read_divisor c 1 a ≡ taken x → length scalar ≤ 32 → is_weight x ≡ true → is_weight (multiple (curve c) (number scalar) x) ≡ true
          → MultiplyDone c a scalar out (multiply_call s a scalar out)
      finish x h l given made =
          let y : PairOf c = multiple (curve c) (number scalar) x in
          let is = multiply_written s ec a h out scalar l given ∙ ap (λ (t : Bool). choose t (write out (divisor_bytes c.p y)) (stop tt out 19 0)) made in
          let back = read_back c ok y ((accepts_laws c ok).multiple_closed (number scalar) x (divisor_valid c 1 true a 0 h)) out is e in
          let counted = counts x h l given made in
          record { short = l; one = record { x = x; a_is = h; is = is; back = back }; given = given; made = made; doubled = ap (λ n. n.0) counted; added = ap (λ n. n.1) counted }

-- ---- the sum of two
pub record AddDone (c : CurveRecord) (a b out : List ℕ) (w : Written) : Type 0 where
  pub x : PairOf c
  pub y : PairOf c
  pub a_is : read_divisor c 1 a ≡ taken x
  pub b_is : read_divisor c 2 b ≡ taken y
  pub is : w ≡ write out (divisor_bytes c.p (sum (curve c) x y))
  pub back : (k : ℕ) → read_divisor c k (front w) ≡ taken (sum (curve c) x y)

pub add_done : (s a b out : List ℕ) {c : CurveRecord} → read_curve s ≡ taken c → answered (add_call s a b out) ≡ 0 → AddDone c a b out (add_call s a b out)
unfolding add_call
add_done s a b out {c} ec e =
    let r = came_on tt out (read_divisor c 1 a) _ (divisor_numbered c 1 true a 0) (ap (λ x. answered (deliver tt out x)) (sym (on_taken _ _ ec)) ∙ e) in
    let q = came_on tt out (read_divisor c 2 b) _ (divisor_numbered c 2 true b 0) r.2 in
    finish r.0 q.0 r.1 q.1
  where
    finish : (x y : PairOf c) → read_divisor c 1 a ≡ taken x → read_divisor c 2 b ≡ taken y → AddDone c a b out (add_call s a b out)
    finish x y h h' =
        let ok = accepts s ec in
        let is = add_is s ec a h out b h' in
        let v = (accepts_laws c ok).sum_closed x y (divisor_valid c 1 true a 0 h) (divisor_valid c 2 true b 0 h') in
        record { x = x; y = y; a_is = h; b_is = h'; is = is; back = read_back c ok (sum (curve c) x y) v out is e }

-- ---- a batch
abbrev pub total_of : (c : CurveRecord) → List (List ℕ) → PairOf c
total_of c rs = total (curve c) (map (pair_of c) rs)

pub record TotalDone (c : CurveRecord) (records out : List ℕ) (w : Reply ℕ) : Type 0 where
  pub made : MadeOf c records
  pub is : w ≡ put 0 out (total-result c (total_of c made.records) (length made.records))
  pub back : (k : ℕ) → read_divisor c k (front w) ≡ taken (total_of c made.records)

pub total-done : (s records out : List ℕ) {c : CurveRecord} → read_curve s ≡ taken c → answered (total_call s records out) ≡ 0 → TotalDone c records out (total_call s records out)
unfolding total_call total
total-done s records out {c} ec e =
    let r = came_on {N = ℕ} 0 out (batch c (sum (curve c)) records neutral) _ (batch_numbered c (sum (curve c)) records neutral) (ap (λ x. answered {N = ℕ} (deliver {N = ℕ} 0 out x)) (sym (on_taken _ _ ec)) ∙ e) in
    finish (batch_made c (sum (curve c)) records neutral r.1)
  where
    finish : MadeOf c records → TotalDone c records out (total_call s records out)
    finish made =
        let ok = accepts s ec in
        let b = batch_is c (sum (curve c)) records neutral made in
        let v = (accepts_laws c ok).total_closed (map (pair_of c) made.records) (records_valid c made.records made.good) in
        record { made = made; is = total_is s ec records out b; back = read_back c ok (total_of c made.records) v out (total_written s ec records out b) e }

-- ---- where a call answered 0, its curve was taken: every call begins with it
curve_took : {N : Type 0} (none : N) (s out : List ℕ) (go : CurveRecord → Checked (Result N)) → answered (deliver none out (go_on (read_curve s) go)) ≡ 0 → (c : CurveRecord) × (read_curve s ≡ taken c)
curve_took none s out go e = let t = came_on none out (read_curve s) go (curve_numbered s) e in (t.0, t.1)

pub rewrite_curve_took : (s out : List ℕ) → answered (rewrite_curve s out) ≡ 0 → (c : CurveRecord) × (read_curve s ≡ taken c)
unfolding rewrite_curve
rewrite_curve_took s out e = curve_took tt s out _ e

pub rewrite_took : (s a out : List ℕ) → answered (rewrite_divisor s a out) ≡ 0 → (c : CurveRecord) × (read_curve s ≡ taken c)
unfolding rewrite_divisor
rewrite_took s a out e = curve_took tt s out _ e

pub double_took : (s a out : List ℕ) → answered (double_call s a out) ≡ 0 → (c : CurveRecord) × (read_curve s ≡ taken c)
unfolding double_call
double_took s a out e = curve_took tt s out _ e

pub opposite_took : (s a out : List ℕ) → answered (opposite_call s a out) ≡ 0 → (c : CurveRecord) × (read_curve s ≡ taken c)
unfolding opposite_call
opposite_took s a out e = curve_took tt s out _ e

pub add_took : (s a b out : List ℕ) → answered (add_call s a b out) ≡ 0 → (c : CurveRecord) × (read_curve s ≡ taken c)
unfolding add_call
add_took s a b out e = curve_took tt s out _ e

pub multiply_took : (s a scalar out : List ℕ) → answered (multiply_call s a scalar out) ≡ 0 → (c : CurveRecord) × (read_curve s ≡ taken c)
unfolding multiply_call
multiply_took s a scalar out e = curve_took no_counts s out _ e

pub total_took : (s records out : List ℕ) → answered (total_call s records out) ≡ 0 → (c : CurveRecord) × (read_curve s ≡ taken c)
unfolding total_call
total_took s records out e = curve_took {N = ℕ} 0 s out _ e
