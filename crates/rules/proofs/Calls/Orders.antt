-- W-214, a key's order. Gives, of the check where the curve and the divisor are taken: 12 where the order has over 32 bytes (`order_long`), else 0 where n is the order and the list, whole, at most 32
-- and each below 2^31, has its primes (`order_accepts`), and 27 where that isn't so (`order_refuses`). So of every check: it answers 0 exactly then (`order_done`), and for every m the m-fold is neutral exactly when n divides
-- m (`order_exactly`); it answers 12 exactly where the curve and the divisor passed and the order has over 32 bytes (`order_12`), and 27 exactly where the order's length passed too and the test fails (`order_27`). (The place is in CallPlaces.)
-- Open: `NeutralFold`, `LongOrder`, `NotOrder`.
use Prim.Native.Nat.{ℕ, ◌%◌, ◌≤◌, ◌<◌}
use mathlib.Core.Path.{◌≡◌, refl, sym, ap, ap₂, ◌∙◌}
use mathlib.Core.List.{List, [], ◌∷◌}
use mathlib.Core.Bool.{Bool, true, false, not}
use mathlib.Core.Logic.{◌↔◌}
use native.Mathlib.Omega.{arith}
use lib.Dec.{leb, eqb}
use lib.ListN.{length}
use borrow.Author.Tests.{leb-true, le-leb, lt-leb, eqb-true, eq-eqb, not-true}
use Rattle.rules.specs.Orders.Tests.{is_order}
use Rattle.rules.proofs.Orders.Order.{Closed}
use Rattle.rules.proofs.Orders.Listed.{Order, order_test}
use Rattle.rules.specs.Bytes.{number}
use Rattle.rules.specs.Pair.{Valid, neutral}
use Rattle.rules.specs.Sum.{sum}
use Rattle.rules.specs.Multiple.{multiple}
use Rattle.rules.specs.Checks.{Checked, refused, taken, choose, Check, first_failed}
use Rattle.rules.specs.Records.{CurveRecord, curve, PairOf, both, is_below, read_curve, read_divisor}
use Rattle.rules.specs.Calls.{Answer, refusal, done, Result, deliver, listed, is_neutral_fold, order_checks, check_order}
use Rattle.rules.proofs.Demand3.{Demand3}
use Rattle.rules.proofs.Calls.Tests.{both_true, true_both}
use Rattle.rules.proofs.Calls.Checks.{all_passed, refused_as}
use Rattle.rules.proofs.Calls.Elements.{AllBelow, below_decides}
use Rattle.rules.proofs.Calls.Accepted.{curve_laws}
use Rattle.rules.proofs.Calls.DivisorRecords.{divisor_valid}
use Rattle.rules.proofs.Calls.Refusals.{Numbered, on_taken, curve_numbered, divisor_numbered}
use Rattle.rules.proofs.Calls.Delivered.{delivered, came_on}
use Rattle.rules.proofs.Calls.Written.{only}
use Rattle.rules.proofs.Calls.Keys.{weighs_test}
use Rattle.rules.proofs.Calls.Given.{◌and◌, Ask, ask, Given, always, joined}
use Rattle.rules.proofs.Calls.Decided.{le_decides}
use Rattle.rules.proofs.Calls.Reached.{TookBoth, through, both_as, both_reached, says_as, checks_answer}

abbrev pub NeutralFold : (c : CurveRecord) → PairOf c → ℕ → Type 0
NeutralFold c x m = multiple (curve c) m x ≡ neutral

-- ---- the order lemma, of the rule's own multiples
module _ (c : CurveRecord) (laws : Demand3 (curve c)) (x : PairOf c) (v : Valid (curve c) x) where
  closed : Closed (NeutralFold c x)
  unfolding multiple
  closed = record {
    at_zero = refl;
    sums = λ m n hm hn. laws.fold_add m n x v ∙ ap₂ (sum (curve c)) hm hn ∙ laws.neutral_left neutral (laws.multiple_closed 0 x v);
    rests = λ m n hm h. sym (laws.neutral_left (multiple (curve c) n x) (laws.multiple_closed n x v)) ∙ ap (λ t. sum (curve c) t (multiple (curve c) n x)) (sym hm) ∙ sym (laws.fold_add m n x v) ∙ h;
  }

  tests : (m : ℕ) → (is_neutral_fold c x m ≡ true) ↔ NeutralFold c x m
  tests m = let w = weighs_test (curve c) (multiple (curve c) m x) (laws.multiple_closed m x v) in (λ e. w.0 (not-true _ e), λ e. ap not (w.1 e))

  order_decides : (n : ℕ) (l : List ℕ) → (is_order (is_neutral_fold c x) n l ≡ true) ↔ Order (NeutralFold c x) n l
  order_decides = order_test (NeutralFold c x) closed (is_neutral_fold c x) tests

-- ---- the list
pub record Listed (primes : List ℕ) : Type 0 where
  pub whole : length primes % 4 ≡ 0
  pub few : length primes ≤ 128
  pub small : AllBelow 2147483648 (listed primes)

-- n is x's order, and the list has its primes
pub record Ordered (c : CurveRecord) (x : PairOf c) (order primes : List ℕ) : Type 0 where
  pub list : Listed primes
  pub is : Order (NeutralFold c x) (number order) (listed primes)

-- ---- what the checks come to
-- n and the list pass
pub record Tested (c : CurveRecord) (x : PairOf c) (order primes : List ℕ) : Type 0 where
  pub whole : length primes % 4 ≡ 0
  pub few : length primes ≤ 128
  pub small : is_below 2147483648 (listed primes) ≡ true
  pub is : is_order (is_neutral_fold c x) (number order) (listed primes) ≡ true

abbrev outcome : {R : Type 0} → R → (b w f l o : Bool) → Checked R
outcome r b w f l o = first_failed ((b, 12, 0) ∷ (w, 27, 0) ∷ (f, 27, 0) ∷ (l, 27, 0) ∷ (o, 27, 0) ∷ []) r

module _ {R : Type 0} (r : R) (c : CurveRecord) (order primes : List ℕ) (x : PairOf c) where
  came : (b w f l o : Bool) → leb (length order) 32 ≡ b → eqb (length primes % 4) 0 ≡ w → leb (length primes) 128 ≡ f → is_below 2147483648 (listed primes) ≡ l
      → is_order (is_neutral_fold c x) (number order) (listed primes) ≡ o → first_failed (order_checks c order primes x) r ≡ outcome r b w f l o
  came b w f l o eb ew ef el eo = λ i. outcome r (eb i) (ew i) (ef i) (el i) (eo i)

  pub checks_long : 32 < length order → first_failed (order_checks c order primes x) r ≡ refused 12 0
  checks_long h = came false _ _ _ _ (lt-leb (length order) 32 h) refl refl refl refl

  module _ (short : length order ≤ 32) where
    pub checks_pass : Tested c x order primes → first_failed (order_checks c order primes x) r ≡ taken r
    checks_pass t = came true true true true true (le-leb (length order) 32 short) (eq-eqb (length primes % 4) 0 t.whole) (le-leb (length primes) 128 t.few) t.small t.is

    pub checks_fail : (Tested c x order primes → ⊥) → first_failed (order_checks c order primes x) r ≡ refused 27 0
    checks_fail not_so = came true _ _ _ _ (le-leb (length order) 32 short) refl refl refl refl ∙ go _ _ _ _ refl refl refl refl
      where
        go : (w f l o : Bool) → eqb (length primes % 4) 0 ≡ w → leb (length primes) 128 ≡ f → is_below 2147483648 (listed primes) ≡ l
            → is_order (is_neutral_fold c x) (number order) (listed primes) ≡ o → outcome r true w f l o ≡ refused 27 0
        go false f l o ew ef el eo = refl
        go true false l o ew ef el eo = refl
        go true true false o ew ef el eo = refl
        go true true true false ew ef el eo = refl
        go true true true true ew ef el eo = absurd (not_so (record { whole = eqb-true _ _ ew; few = leb-true _ _ ef; small = el; is = eo }))

  checks_passed : {b : R} → first_failed (order_checks c order primes x) r ≡ taken b → (length order ≤ 32) × Tested c x order primes
  checks_passed e = let t = (all_passed r (order_checks c order primes x) e).0 in
      (leb-true _ _ t.0, record { whole = eqb-true _ _ t.1.0; few = leb-true _ _ t.1.1.0; small = t.1.1.1.0; is = t.1.1.1.1.0 })

-- ---- what the call answers
module _ (s a order primes : List ℕ) {c : CurveRecord} (ec : read_curve s ≡ taken c) {x : PairOf c} (ea : read_divisor c 1 a ≡ taken x) where
  decides : (is_order (is_neutral_fold c x) (number order) (listed primes) ≡ true) ↔ Order (NeutralFold c x) (number order) (listed primes)
  decides = order_decides c (curve_laws s ec) x (divisor_valid c 1 true a 0 ea) (number order) (listed primes)

  tested : Tested c x order primes ↔ Ordered c x order primes
  tested = (
    λ t. record { list = record { whole = t.whole; few = t.few; small = (below_decides 2147483648 (listed primes)).0 t.small }; is = decides.0 t.is },
    λ o. record { whole = o.list.whole; few = o.list.few; small = (below_decides 2147483648 (listed primes)).1 o.list.small; is = decides.1 o.is },
  )

  answers : {r : Checked (Result (Unit {0}))} → first_failed (order_checks c order primes x) (only []) ≡ r → check_order s a order primes ≡ (deliver tt [] r).answer
  unfolding check_order
  answers e = ap (λ t. (deliver tt [] t).answer) (on_taken _ _ ec ∙ on_taken _ _ ea ∙ e)

  pub order_long : 32 < length order → check_order s a order primes ≡ refusal 12 0
  order_long h = answers (checks_long (only []) c order primes x h)

  module _ (short : length order ≤ 32) where
    pub order_accepts : Ordered c x order primes → check_order s a order primes ≡ done 0
    order_accepts h = answers (checks_pass (only []) c order primes x short (tested.1 h))

    pub order_refuses : (Ordered c x order primes → ⊥) → check_order s a order primes ≡ refusal 27 0
    order_refuses not_so = answers (checks_fail (only []) c order primes x short (λ t. not_so (tested.0 t)))

-- ---- 0, and 27
pub record OrderDone (s a order primes : List ℕ) : Type 0 where
  pub c : CurveRecord
  pub s_is : read_curve s ≡ taken c
  pub x : PairOf c
  pub a_is : read_divisor c 1 a ≡ taken x
  pub short : length order ≤ 32
  pub ordered : Ordered c x order primes

-- over 32 bytes; and of at most 32, but n isn't the order, or the list hasn't its primes
abbrev pub LongOrder : List ℕ → List ℕ → List ℕ → Type 0
LongOrder s a order = TookBoth s a (λ c x. ¬ (length order ≤ 32))

abbrev pub NotOrder : List ℕ → List ℕ → List ℕ → List ℕ → Type 0
NotOrder s a order primes = TookBoth s a (λ c x. (length order ≤ 32) and ¬ Ordered c x order primes)

module _ (s a order primes : List ℕ) where
  -- the curve and the divisor were taken, and the checks answer 0
  record Reached : Type 0 where
    c : CurveRecord
    s_is : read_curve s ≡ taken c
    x : PairOf c
    a_is : read_divisor c 1 a ≡ taken x
    says : (deliver tt [] (first_failed (order_checks c order primes x) (only []))).answer.number ≡ 0

  reached : (check_order s a order primes).number ≡ 0 → Reached
  unfolding check_order
  reached e =
      let t = came_on tt [] (read_curve s) _ (curve_numbered s) e in
      let d = came_on tt [] (read_divisor t.0 1 a) _ (divisor_numbered t.0 1 true a 0) t.2 in
      record { c = t.0; s_is = t.1; x = d.0; a_is = d.1; says = d.2 }

  passed : (r : Reached) → (length order ≤ 32) × Tested r.c r.x order primes
  passed r = checks_passed (only []) r.c order primes r.x (delivered tt [] _ numbered r.says).is
    where
      numbered : Numbered (first_failed (order_checks r.c order primes r.x) (only []))
      numbered n k e = refused_as (only []) (λ n k. 0 < n) (order_checks r.c order primes r.x) (omega arith, (omega arith, (omega arith, (omega arith, (omega arith, tt))))) e

  done_as : (check_order s a order primes).number ≡ 0 → OrderDone s a order primes
  done_as e =
      let r = reached e in
      let t = passed r in
      let o = (tested s a order primes r.s_is r.a_is).0 t.1 in
      record { c = r.c; s_is = r.s_is; x = r.x; a_is = r.a_is; short = t.0; ordered = o }

  pub order_done : ((check_order s a order primes).number ≡ 0) ↔ OrderDone s a order primes
  order_done = (done_as, λ d. ap (λ (t : Answer). t.number) (order_accepts s a order primes d.s_is d.a_is d.short d.ordered))

  -- four tests under one number are one
  abbrev is_tested : (c : CurveRecord) → PairOf c → Bool
  is_tested c x = both (both (both (eqb (length primes % 4) 0) (leb (length primes) 128)) (is_below 2147483648 (listed primes))) (is_order (is_neutral_fold c x) (number order) (listed primes))

  abbrev two_checks : (c : CurveRecord) → PairOf c → List Check
  two_checks c x = (leb (length order) 32, 12, 0) ∷ (is_tested c x, 27, 0) ∷ []

  as_two : (c : CurveRecord) (x : PairOf c) → first_failed (order_checks c order primes x) (only []) ≡ first_failed (two_checks c x) (only [])
  as_two c x = go (leb (length order) 32) (eqb (length primes % 4) 0) (leb (length primes) 128) (is_below 2147483648 (listed primes)) (is_order (is_neutral_fold c x) (number order) (listed primes))
    where
      go : (b w f l o : Bool) → outcome (only []) b w f l o ≡ first_failed ((b, 12, 0) ∷ (both (both (both w f) l) o, 27, 0) ∷ []) (only [])
      go b w f l o = ap (λ x. choose b x (refused 12 0)) (joined (only []) w f 27 0 ((l, 27, 0) ∷ (o, 27, 0) ∷ []) ∙ joined (only []) (both w f) l 27 0 ((o, 27, 0) ∷ []) ∙ joined (only []) (both (both w f) l) o 27 0 [])

  four : (c : CurveRecord) (x : PairOf c) → (is_tested c x ≡ true) ↔ Tested c x order primes
  four c x = (
    λ e. let t = both_true _ _ e in let l = both_true _ _ t.0 in let w = both_true _ _ l.0 in record { whole = eqb-true _ _ w.0; few = leb-true _ _ w.1; small = l.1; is = t.1 },
    λ h. true_both (true_both (true_both (eq-eqb (length primes % 4) 0 h.whole) (le-leb (length primes) 128 h.few)) h.small) h.is,
  )

  abbrev order_asks : (c : CurveRecord) → PairOf c → List Ask
  order_asks c x = ask (length order ≤ 32) 12 ∷ ask (Ordered c x order primes) 27 ∷ []

  given : (n : ℕ) → 11 < n → (n ≡ 18 → ⊥) → (n ≡ 13 → ⊥) → ((check_order s a order primes).number ≡ n) ↔ TookBoth s a (λ c x. Given n (order_asks c x))
  unfolding check_order
  given n above not-18 not-13 = through (both_reached tt [] n above not-18 s a _) (both_as s a (λ c ec x ea.
      through (says_as tt [] n (as_two c x)) (checks_answer tt [] n (λ e. omega (arith, above, e)) not-13 (always 0) (two_checks c x) (order_asks c x) (only [])
      (le_decides _ _, refl, refl, λ l. (through (four c x) (tested s a order primes ec ea), refl, refl, λ o. tt)))))

  pub order_12 : ((check_order s a order primes).number ≡ 12) ↔ LongOrder s a order
  order_12 = given 12 (omega arith) (λ e. omega arith) (λ e. omega arith)

  pub order_27 : ((check_order s a order primes).number ≡ 27) ↔ NotOrder s a order primes
  order_27 = given 27 (omega arith) (λ e. omega arith) (λ e. omega arith)

-- the theorem, of the curve and the divisor that were taken
module _ (s a order primes : List ℕ) {c : CurveRecord} (ec : read_curve s ≡ taken c) {x : PairOf c} (ea : read_divisor c 1 a ≡ taken x) where
  pub order_exactly : (check_order s a order primes).number ≡ 0 → (m : ℕ) → (multiple (curve c) m x ≡ neutral) ↔ (m % number order ≡ 0)
  order_exactly e =
      let r : Reached s a order primes = record { c = c; s_is = ec; x = x; a_is = ea; says = ap (λ (t : Answer). t.number) (sym (answers s a order primes ec ea refl)) ∙ e } in
      ((tested s a order primes ec ea).0 (passed s a order primes r).1).is.exactly
