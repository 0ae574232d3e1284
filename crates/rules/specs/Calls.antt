-- Document 01, "Numbers the tablet shows": each call as a function from the bytes lent to its whole answer and to every byte of the output as it
-- returns. A call's rule is what it comes to, its checks in their order and then a result; `deliver` makes the answer of it, the same for every call: 13
-- where the output is too short, and a refusal has length 0, none of the call's own numbers, and leaves the output as it was. Here are the numbers 12
-- to 15, 19, 20 and 24 to 27 (14 of a batch stands in Lists, 24 in Census, 26 in Split); 16 and 17 are the program's (text_rule), 21 to 23 the pole file's
-- (pole_rule). At the end, of "The pole's list", the running total and the scan.
use Rattle.std.specs.Prelude.{ℕ, ◌+◌, ◌/◌, ◌%◌, List, [], ◌∷◌, ◌++◌, Bool, not, eqb, ltb, leb, length, drop}
use Rattle.std.proofs.lemmas.List.Edits.{sets}
use Rattle.algebra.proofs.Zmod.Zmod.{zmod}
use Rattle.algebra.proofs.Zmod.PrimeField.{modulo}
use Rattle.rules.specs.Orders.Tests.{is_order}
use Rattle.rules.specs.Bytes.{number, word32, words32}
use Rattle.rules.specs.Pair.{neutral, opposite}
use Rattle.rules.specs.Sum.{sum, double}
use Rattle.rules.specs.Multiple.{multiple, doublings, additions}
use Rattle.rules.specs.Tests.{is_weight, is_on_curve}
use Rattle.rules.specs.Checks.{Checked, refused, taken, choose, Check, first_failed, go_on}
use Rattle.rules.specs.Records.{both, CurveRecord, curve, PairOf, made_of, is_below, elements, numbers, read_curve, read_divisor, form_of, curve_bytes, divisor_bytes}
use Rattle.rules.specs.Split.{part_at, rest_at, split_root}
use Rattle.rules.specs.Lists.{Batch, batch, most_records, Repeat, first_repeat}
use Rattle.rules.specs.Census.{next}

pub record Answer : Type 0 where
  pub number : ℕ
  pub place : ℕ
  pub length : ℕ

abbrev pub refusal : ℕ → ℕ → Answer
refusal n k = record { number = n; place = k; length = 0 }

abbrev pub done : ℕ → Answer
done n = record { number = 0; place = 0; length = n }

-- ---- what a call comes to: the bytes that it writes and numbers of its own; and what it answers, with the output as it returns
pub record Result (N : Type 0) : Type 0 where
  pub bytes : List ℕ
  pub own : N

pub record Reply (N : Type 0) : Type 0 where
  pub answer : Answer
  pub out : List ℕ
  pub own : N

-- `none` is what a refused call has for its own numbers
abbrev pub stop : {N : Type 0} → N → List ℕ → ℕ → ℕ → Reply N
stop none out n k = record { answer = refusal n k; out = out; own = none }

abbrev pub put : {N : Type 0} → N → List ℕ → Result N → Reply N
put none out r = choose (ltb (length out) (length r.bytes)) (stop none out 13 0) (record { answer = record { number = 0; place = 0; length = length r.bytes }; out = sets out 0 r.bytes; own = r.own })

abbrev pub deliver : {N : Type 0} → N → List ℕ → Checked (Result N) → Reply N
deliver none out x = elim x [ refused n k ↦ stop none out n k | taken r ↦ put none out r ]

-- a call with no numbers of its own
abbrev pub write : List ℕ → List ℕ → Reply (Unit {0})
write out bytes = put tt out (record { bytes = bytes; own = tt })

-- ---- the checks: nothing is written
unfoldable pub check_curve : List ℕ → Answer
unfolding read_curve
check_curve s = (deliver (tt {0}) [] (go_on (read_curve s) (λ c. taken (record { bytes = []; own = tt })))).answer

unfoldable pub check_divisor : List ℕ → List ℕ → Answer
unfolding read_curve
check_divisor s a = (deliver (tt {0}) [] (go_on (read_curve s) (λ c. go_on (read_divisor c 1 a) (λ x. taken (record { bytes = []; own = tt }))))).answer

-- ---- calls that write a record
unfoldable pub rewrite_curve : List ℕ → List ℕ → Reply (Unit {0})
unfolding read_curve curve_bytes
rewrite_curve s out = deliver tt out (go_on (read_curve s) (λ c. taken (record { bytes = curve_bytes c (form_of s); own = tt })))

-- one divisor in, one out
abbrev pub from_one : ((c : CurveRecord) → PairOf c → PairOf c) → List ℕ → List ℕ → Checked (Result (Unit {0}))
from_one f s a = go_on (read_curve s) (λ c. go_on (read_divisor c 1 a) (λ x. taken (record { bytes = divisor_bytes c.p (f c x); own = tt })))

unfoldable pub rewrite_divisor : List ℕ → List ℕ → List ℕ → Reply (Unit {0})
unfolding read_curve divisor_bytes
rewrite_divisor s a out = deliver tt out (from_one (λ c x. x) s a)

unfoldable pub double_call : List ℕ → List ℕ → List ℕ → Reply (Unit {0})
unfolding read_curve divisor_bytes double
double_call s a out = deliver tt out (from_one (λ c x. double (curve c) x) s a)

unfoldable pub opposite_call : List ℕ → List ℕ → List ℕ → Reply (Unit {0})
unfolding read_curve divisor_bytes opposite
opposite_call s a out = deliver tt out (from_one (λ c x. opposite x) s a)

unfoldable pub add_call : List ℕ → List ℕ → List ℕ → List ℕ → Reply (Unit {0})
unfolding read_curve divisor_bytes sum
add_call s a b out = deliver tt out (
    go_on (read_curve s) (λ c.
    go_on (read_divisor c 1 a) (λ x.
    go_on (read_divisor c 2 b) (λ y.
    taken (record { bytes = divisor_bytes c.p (sum (curve c) x y); own = tt })))))

-- ---- a multiple y of x, with its two counts, doublings and additions; 12 where the scalar has over 32 bytes, then 19 where x or y is neutral (W-207)
abbrev pub multiply_checks : (c : CurveRecord) → List ℕ → PairOf c → PairOf c → List Check
multiply_checks c scalar x y =
    (leb (length scalar) 32, 12, 0) ∷
    (is_weight x, 19, 0) ∷
    (is_weight y, 19, 0) ∷
    []

unfoldable pub multiply_call : List ℕ → List ℕ → List ℕ → List ℕ → Reply (ℕ × ℕ)
unfolding number read_curve divisor_bytes multiple doublings additions
multiply_call s a scalar out = deliver (0, 0) out (
    go_on (read_curve s) (λ c.
    go_on (read_divisor c 1 a) (λ x.
    let y : PairOf c = multiple (curve c) (number scalar) x in
    first_failed (multiply_checks c scalar x y)
    (record { bytes = divisor_bytes c.p y; own = (doublings (number scalar), additions (number scalar)) }))))

-- ---- W-214, a key's order: n, the number of the bytes `order`, and the primes that it is made of, 4 bytes each, at most 32 of them and each below 2^31, as the test of crate
-- `orders` has it. 12 where the order has over 32 bytes, then 27 for every other fault of it, of the list and of the multiples; nothing is written
abbrev pub listed : List ℕ → List ℕ
listed primes = words32 primes 0 (length primes / 4)

-- the m-fold is neutral
abbrev pub is_neutral_fold : (c : CurveRecord) → PairOf c → ℕ → Bool
is_neutral_fold c x m = not (is_weight (multiple (curve c) m x))

abbrev pub order_checks : (c : CurveRecord) → List ℕ → List ℕ → PairOf c → List Check
order_checks c order primes x =
    (leb (length order) 32, 12, 0) ∷
    (eqb (length primes % 4) 0, 27, 0) ∷
    (leb (length primes) 128, 27, 0) ∷
    (is_below 2147483648 (listed primes), 27, 0) ∷
    (is_order (is_neutral_fold c x) (number order) (listed primes), 27, 0) ∷
    []

unfoldable pub check_order : List ℕ → List ℕ → List ℕ → List ℕ → Answer
unfolding number words32 read_curve is_below multiple is_order
check_order s a order primes = (deliver (tt {0}) [] (
    go_on (read_curve s) (λ c.
    go_on (read_divisor c 1 a) (λ x.
    first_failed (order_checks c order primes x)
    (record { bytes = []; own = tt }))))).answer

-- ---- W-213, a divisor split at a root of its u: the part there, then the rest, their records one after the other; 26 where there is no such root
abbrev pub split_result : (c : CurveRecord) → PairOf c → (zmod c.p).El → Result (Unit {0})
split_result c x y = record { bytes = divisor_bytes c.p (part_at (modulo c.p) y x) ++ divisor_bytes c.p (rest_at (modulo c.p) y x); own = tt }

unfoldable pub split_call : List ℕ → List ℕ → List ℕ → Reply (Unit {0})
unfolding read_curve divisor_bytes part_at rest_at split_root
split_call s a out = deliver tt out (
    go_on (read_curve s) (λ c.
    go_on (read_divisor c 1 a) (λ x.
    go_on (split_root c.p x) (λ y. taken (split_result c x y)))))

-- ---- W-211, training curves: 25 where p is over 13, right after the curve's checks
abbrev pub training_checks : CurveRecord → List Check
training_checks c = (leb c.p 13, 25, 0) ∷ []

abbrev pub read_training : List ℕ → Checked CurveRecord
read_training s = go_on (read_curve s) (λ c. first_failed (training_checks c) c)

-- the next valid divisor; 24 where none follows (Census)
unfoldable pub next_call : List ℕ → List ℕ → List ℕ → Reply (Unit {0})
unfolding read_curve divisor_bytes next
next_call s a out = deliver tt out (
    go_on (read_training s) (λ c.
    go_on (read_divisor c 1 a) (λ x.
    go_on (next c x) (λ y.
    taken (record { bytes = divisor_bytes c.p y; own = tt })))))

-- ---- a batch: its total with the count of records, its first repeat
unfoldable pub total_call : List ℕ → List ℕ → List ℕ → Reply ℕ
unfolding read_curve divisor_bytes sum
total_call s records out = deliver 0 out (
    go_on (read_curve s) (λ c.
    go_on (batch c (sum (curve c)) records neutral) (λ b.
    taken (record { bytes = divisor_bytes c.p b.result; own = b.count }))))

unfoldable pub repeat_call : List ℕ → List ℕ → Reply Repeat
unfolding read_curve
repeat_call s records = deliver (record { first = 0; second = 0 }) [] (
    go_on (read_curve s) (λ c.
    go_on (batch c (λ l d. l ++ (d ∷ [])) records []) (λ b.
    taken (record { bytes = []; own = first_repeat c.p b.result }))))

-- a batch checked and counted: nothing is added up and nothing is written
abbrev pub counted : CurveRecord → List ℕ → Checked (Batch (Unit {0}))
counted c records = batch c (λ x d. x) records tt

unfoldable pub check_batch : List ℕ → List ℕ → Checked (Batch (Unit {0}))
unfolding read_curve
check_batch s records = go_on (read_curve s) (λ c. counted c records)

-- ---- the running total: a divisor by its numbers, a count and the pole's number (W-209)
pub record Running : Type 0 where
  pub u : List ℕ
  pub v : List ℕ
  pub count : ℕ
  pub pole : ℕ

abbrev pub fresh : ℕ → Running
fresh pole = record { u = []; v = []; count = 0; pole = pole }

-- its divisor on the curve; 15 where it has a number of p or more or isn't valid, or its count is over 4,096, then 14 where it is full
abbrev pub resume_checks : CurveRecord → Running → List Check
resume_checks c t =
    (leb (length t.u) c.g, 15, 0) ∷
    (eqb (length t.v) (length t.u), 15, 0) ∷
    (both (is_below c.p t.u) (is_below c.p t.v), 15, 0) ∷
    (is_on_curve (curve c) (made_of c t.u t.v), 15, 0) ∷
    (leb t.count most_records, 15, 0) ∷
    (ltb t.count most_records, 14, 0) ∷
    []

unfoldable pub resume : (c : CurveRecord) → Running → Checked (PairOf c)
unfolding is_below elements is_on_curve
resume c t = first_failed (resume_checks c t) (made_of c t.u t.v)

-- W-209: in a scan the pole's number stands in 4 bytes before the divisor record. 8 at place 1 where they aren't there, then 20 where the scan is for another pole
abbrev pub scan_checks : ℕ → List ℕ → List Check
scan_checks pole a =
    (leb 4 (length a), 8, 1) ∷
    (eqb (word32 a 0) pole, 20, 0) ∷
    []

abbrev pub scan_record : ℕ → List ℕ → Checked (List ℕ)
scan_record pole a = first_failed (scan_checks pole a) (drop 4 a)

-- one divisor scanned on a curve that was taken
abbrev pub scanned : CurveRecord → Running → List ℕ → Checked (Result Running)
scanned c t a =
    go_on (resume c t) (λ x.
    go_on (scan_record t.pole a) (λ r.
    go_on (read_divisor c 1 r) (λ y.
    let z : PairOf c = sum (curve c) x y in
    taken (record { bytes = []; own = record { u = numbers c.p z.u; v = numbers c.p z.v; count = t.count + 1; pole = t.pole } }))))

-- refused, the total is the one that was lent
unfoldable pub scan_on : CurveRecord → Running → List ℕ → Reply Running
unfolding numbers sum resume
scan_on c t a = deliver t [] (scanned c t a)

unfoldable pub scan_call : Running → List ℕ → List ℕ → Reply Running
unfolding read_curve numbers sum resume
scan_call t s a = deliver t [] (go_on (read_curve s) (λ c. scanned c t a))
