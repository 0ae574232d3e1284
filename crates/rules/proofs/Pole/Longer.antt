-- Records of a file that were taken, with more bytes behind them: 23 (`records_longer`). And no refusal of the parts has the number 0 (`parts_numbered`).
use Prim.Native.Nat.{ℕ, zero, suc, ◌+◌, ◌*◌, ◌≤◌, ◌<◌}
use mathlib.Core.Path.{◌≡◌, refl, sym, ap, ap₂, ◌∙◌}
use mathlib.Core.Bool.{Bool, true, false}
use mathlib.Core.List.{List, [], ◌∷◌, ◌++◌, append_assoc}
use native.Mathlib.Omega.{arith}
use lib.Dec.{eqb, leb}
use lib.ListN.{get_or, length, take, drop, length-append, take-append-drop, get_or-append}
use lib.Seq.{length-take-le}
use borrow.Author.Tests.{leb-true, lt-leb}
use Rattle.rules.specs.Checks.{Checked, refused, taken, choose, first_failed, go_on}
use Rattle.rules.specs.Records.{CurveRecord, PairOf, read_curve, divisor_at}
use Rattle.rules.proofs.Calls.Tests.{refused_taken}
use Rattle.rules.proofs.Calls.Checks.{refused_as}
use Rattle.rules.proofs.Calls.DivisorRecords.{DivisorBytes, divisor_read, pair_at_row, record_out, alone_out, split_out, taken_among}
use Rattle.rules.proofs.Calls.Refusals.{Numbered, numbered_on, numbered_taken, went_on, curve_numbered, divisor_refused}
use Rattle.rules.specs.Pole.PoleFile.{word16, count_checks, or_cut, records_from, read_parts}

-- a record that is taken isn't cut
pub or_cut_taken : {A : Type 0} (x : Checked A) {a : A} → or_cut x ≡ taken a → x ≡ taken a
or_cut_taken {A} (refused n k) {a} e = go (eqb n 8) e
  where
    go : (b : Bool) → choose b (refused 23 0) (refused n k) ≡ taken a → refused n k ≡ taken a
    go true e = absurd (refused_taken e)
    go false e = absurd (refused_taken e)
or_cut_taken (taken b) e = e

module _ (c : CurveRecord) (s more : List ℕ) where
  -- a record among others, with more bytes behind
  module _ (a : ℕ) (h : DivisorBytes c false s a) where
    abbrev r : List ℕ
    r = record_out c s a h

    abbrev back : List ℕ
    back = drop (a + 1 + 16 * get_or s a 0) s ++ more

    split : s ++ more ≡ take a s ++ (r ++ back)
    split = ap (λ (l : List ℕ). l ++ more) (sym (take-append-drop a s) ∙ ap (◌++◌ (take a s)) (split_out c s a h))
        ∙ append_assoc (take a s) (r ++ drop (a + 1 + 16 * get_or s a 0) s) more ∙ ap (◌++◌ (take a s)) (append_assoc r (drop (a + 1 + 16 * get_or s a 0) s) more)

    still_taken : (k : ℕ) → divisor_at c k false (s ++ more) a ≡ taken (pair_at_row c r 0)
    still_taken k = ap₂ (divisor_at c k false) split (sym (length-take-le a s (omega (arith, h.inside)))) ∙ taken_among c (take a s) r back (alone_out c s a h) k

  longer : 0 < length more → (left a k : ℕ) → a ≤ length s → records_from c s left a k ≡ taken tt → records_from c (s ++ more) left a k ≡ refused 23 0
  unfolding records_from
  longer l zero a k h e = rw (lt-leb (length (s ++ more)) a (omega (arith, length-append s more))) refl
  longer l (suc left) a k h e =
      let q = went_on (or_cut (divisor_at c (k + 1) false s a)) (λ d. records_from c s left (a + 1 + 16 * get_or s a 0) (k + 1)) e in
      let b = (divisor_read c (k + 1) false s a (or_cut_taken _ q.1)).0 in
      ap (λ x. go_on (or_cut x) (λ d. records_from c (s ++ more) left (a + 1 + 16 * get_or (s ++ more) a 0) (k + 1))) (still_taken a b (k + 1))
      ∙ ap (λ (w : ℕ). records_from c (s ++ more) left (a + 1 + 16 * w) (k + 1)) (get_or-append s more 0 a b.inside)
      ∙ longer l left (a + 1 + 16 * get_or s a 0) (k + 1) (leb-true _ _ b.long) q.2

  pub records_longer : 0 < length more → (n : ℕ) → records_from c s n 0 0 ≡ taken tt → records_from c (s ++ more) n 0 0 ≡ refused 23 0
  records_longer l n e = longer l n 0 0 (omega arith) e

-- ---- no refusal has the number 0
module _ (c : CurveRecord) (s : List ℕ) where
  or_cut_numbered : (k a : ℕ) → Numbered (or_cut (divisor_at c k false s a))
  or_cut_numbered k a = go (divisor_at c k false s a) refl
    where
      cut : (b : Bool) (m j : ℕ) → 8 ≤ m → Numbered {A = PairOf c} (choose b (refused 23 0) (refused m j))
      cut true m j l n i e = let z : 23 ≡ n = cc in omega arith
      cut false m j l n i e = let z : m ≡ n = cc in omega arith

      go : (x : Checked (PairOf c)) → divisor_at c k false s a ≡ x → Numbered (or_cut x)
      go (refused m j) q = cut (eqb m 8) m j (divisor_refused c k false s a q).0
      go (taken d) q = numbered_taken d

  records_numbered : (left a k : ℕ) → Numbered (records_from c s left a k)
  unfolding records_from
  records_numbered zero a k = λ n j e. refused_as (tt {0}) (λ n k. 0 < n) ((leb (length s) a, 23, 0) ∷ []) (omega arith, tt) e
  records_numbered (suc left) a k = numbered_on (or_cut (divisor_at c (k + 1) false s a)) _ (or_cut_numbered (k + 1) a) (λ d e. records_numbered left (a + 1 + 16 * get_or s a 0) (k + 1))

pub parts_numbered : (s rest : List ℕ) → Numbered (read_parts s rest)
unfolding read_parts
parts_numbered s rest = numbered_on (read_curve s) _ (curve_numbered s) (λ c ec. numbered_on (first_failed (count_checks rest) (word16 rest 0)) _
    (λ n k e. refused_as (word16 rest 0) (λ n k. 0 < n) (count_checks rest) (omega arith, (omega arith, tt)) e)
    (λ n en. records_numbered c (drop 2 rest) n 0 0))
