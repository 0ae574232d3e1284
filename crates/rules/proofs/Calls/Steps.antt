-- The batch rule, one record at a time, for any way `step` that a record goes in: at the end of the bytes, after too many records, at a refused
-- record, and at one that is taken.
use Prim.Native.Nat.{ℕ, zero, suc, ◌+◌, ◌*◌, ◌≤◌, ◌<◌}
use mathlib.Core.Path.{◌≡◌, refl, ap, ◌∙◌}
use mathlib.Core.List.{List}
use mathlib.Core.Bool.{false}
use borrow.Author.Tests.{le-leb, lt-leb}
use lib.ListN.{get_or, length}
use Rattle.rules.specs.Records.{Checked, refused, taken, CurveRecord, PairOf, divisor_at}
use Rattle.rules.specs.Lists.{Batch, batch_from}

module _ {A : Type 0} (c : CurveRecord) (step : A → PairOf c → A) (s : List ℕ) (a k : ℕ) (from : A) where
  pub at_end : (left : ℕ) → length s ≤ a → batch_from c step s left a k from ≡ taken (record { result = from; count = k })
  unfolding batch_from
  at_end zero h = rw (le-leb (length s) a h) refl
  at_end (suc left) h = rw (le-leb (length s) a h) refl

  pub too_many : a < length s → batch_from c step s 0 a k from ≡ refused 14 0
  unfolding batch_from
  too_many h = rw (lt-leb (length s) a h) refl

  module _ (more : a < length s) (left : ℕ) where
    next : Checked (PairOf c) → Checked (Batch A)
    next x = elim x [ refused n place ↦ refused n place | taken d ↦ batch_from c step s left (a + 1 + 16 * get_or s a 0) (k + 1) (step from d) ]

    opened : batch_from c step s (suc left) a k from ≡ next (divisor_at c (k + 1) false s a)
    unfolding batch_from next
    opened = rw (lt-leb (length s) a more) refl

    pub stops : {n place : ℕ} → divisor_at c (k + 1) false s a ≡ refused n place → batch_from c step s (suc left) a k from ≡ refused n place
    unfolding next
    stops e = opened ∙ ap next e

    pub goes_on : {d : PairOf c} → divisor_at c (k + 1) false s a ≡ taken d → batch_from c step s (suc left) a k from ≡ batch_from c step s left (a + 1 + 16 * get_or s a 0) (k + 1) (step from d)
    unfolding next
    goes_on e = opened ∙ ap next e
