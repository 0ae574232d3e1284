-- Batches: records one after the other. Gives: how a batch is read, record by record (`Reading`, `reading`); a batch made of good records is taken,
-- each record once and in order (`batch_records`), 14 where bytes are left after 4,096 of them (`batch_over`); and whatever batch is taken is
-- made so (`batch_made`, `batch_is`), of valid divisors (`records_valid`).
-- Open: `pair_of`, `IsRecord`, `AllRecords`.
use Prim.Native.Nat.{ℕ, zero, suc, ◌+◌, ◌*◌, ◌-◌, ◌≤◌, ◌<◌}
use mathlib.Core.Path.{◌≡◌, refl, sym, ap, ap₂, ◌∙◌, subst}
use mathlib.Core.List.{List, [], ◌∷◌, ◌++◌, map, foldl, flatten, append-nil, append_assoc, Mem, mem-cons_self, mem-cons_of_mem, not-mem-nil, eq-or-mem_of_mem-cons}
use mathlib.Core.Bool.{Bool, true, false, Bool-set}
use mathlib.Core.Logic.Or
use native.Mathlib.Omega.{arith}
use lib.Dec.{leb}
use lib.ListN.{get_or, length, drop, length-append, drop_of_length-le}
use borrow.Author.Tests.{leb-true, leb-false}
use Rattle.rules.specs.Pair.{Valid}
use Rattle.rules.specs.Records.{Checked, refused, taken, choose, CurveRecord, curve, PairOf, divisor_at, read_divisor}
use Rattle.rules.specs.Lists.{Batch, batch_from, batch, most_records}
use Rattle.rules.proofs.Cantor.Totals.{AllValid}
use Rattle.rules.proofs.Calls.Tests.{refused_taken, was_taken, is_taken}
use Rattle.rules.proofs.Calls.Steps.{at_end, too_many, goes_on}
use Rattle.rules.proofs.Calls.DivisorRecords.{pair_at_row, DivisorBytes, divisor_read, divisor_taken, divisor_valid, taken_among, next_place, record_out, alone_out, split_out}

module _ (c : CurveRecord) where
  -- the pair that bytes say, and bytes that are a record
  abbrev pub pair_of : List ℕ → PairOf c
  pair_of r = pair_at_row c r 0

  abbrev pub IsRecord : List ℕ → Type 0
  IsRecord r = was_taken (read_divisor c 1 r) ≡ true

  abbrev pub AllRecords : List (List ℕ) → Type 0
  AllRecords rs = (r : List ℕ) → Mem r rs → IsRecord r

  -- bytes that are at most 4,096 records, one after the other
  pub record MadeOf (s : List ℕ) : Type 0 where
    pub records : List (List ℕ)
    pub good : AllRecords records
    pub few : length records ≤ 4096
    pub bytes : flatten records ≡ s

  record_prop : (r : List ℕ) → IsProp (IsRecord r)
  record_prop r = Bool-set (was_taken (read_divisor c 1 r)) true

  -- at whatever place
  pub is_record : (k : ℕ) (r : List ℕ) {d : PairOf c} → read_divisor c k r ≡ taken d → IsRecord r
  is_record k r e = ap was_taken (divisor_taken c 1 true r 0 (divisor_read c k true r 0 e).0)

  -- one of a batch, taken out
  pub record_taken_out : (s : List ℕ) (a : ℕ) (h : DivisorBytes c false s a) → IsRecord (record_out c s a h)
  record_taken_out s a h = let x : List ℕ = record_out c s a h in is_record 1 x (divisor_taken c 1 true x 0 (alone_out c s a h))

  pub record_pair : (k : ℕ) (r : List ℕ) {d : PairOf c} → read_divisor c k r ≡ taken d → pair_of r ≡ d
  record_pair k r e = (divisor_read c k true r 0 e).1

  pub record_bytes : (r : List ℕ) → IsRecord r → DivisorBytes c true r 0
  record_bytes r h = (divisor_read c 1 true r 0 (is_taken (read_divisor c 1 r) h).1).0

  pub record_at : (k : ℕ) (r : List ℕ) → IsRecord r → read_divisor c k r ≡ taken (pair_of r)
  record_at k r h = divisor_taken c k true r 0 (record_bytes r h)

  pub record_valid : (r : List ℕ) → IsRecord r → Valid (curve c) (pair_of r)
  record_valid r h = divisor_valid c 1 true r 0 (record_at 1 r h)

  pub no_records : AllRecords []
  no_records r m = absurd (not-mem-nil m)

  pub more_records : {r : List ℕ} {rs : List (List ℕ)} → IsRecord r → AllRecords rs → AllRecords (r ∷ rs)
  more_records {r} {rs} h hs x m = Or.elim (record_prop x) (eq-or-mem_of_mem-cons m) (λ e. subst IsRecord (sym e) h) (hs x)

  pub records_valid : (rs : List (List ℕ)) → AllRecords rs → AllValid (curve c) (map pair_of rs)
  records_valid [] h = tt
  records_valid (r ∷ rs) h = (record_valid r (h r mem-cons_self), records_valid rs (λ x m. h x (mem-cons_of_mem r m)))

  module _ {A : Type 0} (step : A → PairOf c → A) where
    -- how a batch is read: from byte a on, k records having been read and `left` more allowed
    module _ (s : List ℕ) where
      pub data Reading : ℕ → ℕ → ℕ → A → Checked (Batch A) → Type 0 where
        ends : {left a k : ℕ} {from : A} → length s ≤ a → Reading left a k from (taken (record { result = from; count = k }))
        full : {a k : ℕ} {from : A} → a < length s → Reading 0 a k from (refused 14 0)
        stops : {left a k n j : ℕ} {from : A} → divisor_at c (k + 1) false s a ≡ refused n j → Reading (suc left) a k from (refused n j)
        goes : {left a k : ℕ} {from : A} {d : PairOf c} {x : Checked (Batch A)} → divisor_at c (k + 1) false s a ≡ taken d
            → Reading left (a + 1 + 16 * get_or s a 0) (k + 1) (step from d) x → Reading (suc left) a k from x

      pub reading : (left a k : ℕ) (from : A) → Reading left a k from (batch_from c step s left a k from)
      unfolding batch_from
      reading zero a k from = go (leb (length s) a) refl
        where
          go : (t : Bool) → leb (length s) a ≡ t → Reading 0 a k from (choose t (taken (record { result = from; count = k })) (refused 14 0))
          go true q = ends (leb-true (length s) a q)
          go false q = full (leb-false (length s) a q)
      reading (suc left) a k from = go (leb (length s) a) refl (divisor_at c (k + 1) false s a) refl (λ d. reading left (a + 1 + 16 * get_or s a 0) (k + 1) (step from d))
        where
          next : PairOf c → Checked (Batch A)
          next d = batch_from c step s left (a + 1 + 16 * get_or s a 0) (k + 1) (step from d)

          go : (t : Bool) → leb (length s) a ≡ t → (x : Checked (PairOf c)) → divisor_at c (k + 1) false s a ≡ x
              → ((d : PairOf c) → Reading left (a + 1 + 16 * get_or s a 0) (k + 1) (step from d) (next d))
              → Reading (suc left) a k from (choose t (taken (record { result = from; count = k })) (elim x [ refused n j ↦ refused n j | taken d ↦ next d ]))
          go true q x e rec = ends (leb-true (length s) a q)
          go false q (refused n j) e rec = stops e
          go false q (taken d) e rec = goes e (rec d)

    module _ (s : List ℕ) where
      -- a good record behind `front`
      batch_one : (front r back : List ℕ) (left a k : ℕ) (from : A) → IsRecord r → s ≡ front ++ (r ++ back) → a ≡ length front
          → batch_from c step s (suc left) a k from ≡ batch_from c step s left (a + length r) (k + 1) (step from (pair_of r))
      batch_one front r back left a k from h e q =
          let b = record_bytes r h in
          goes_on c step s a k from (omega (arith, q, b.inside, ap length e ∙ length-append front (r ++ back) ∙ ap (◌+◌ (length front)) (length-append r back))) left
          (ap₂ (divisor_at c (k + 1) false) e q ∙ taken_among c front r back b (k + 1))
          ∙ ap (λ (x : ℕ). batch_from c step s left x (k + 1) (step from (pair_of r)))
          (ap₂ (λ (z : List ℕ) (x : ℕ). x + 1 + 16 * get_or z x 0) e q ∙ next_place c front r back b ∙ ap (λ (x : ℕ). x + length r) (sym q))

      -- and many
      elsewhere : {l l' a a' k k' : ℕ} (from : A) → l ≡ l' → a ≡ a' → k ≡ k' → batch_from c step s l a k from ≡ batch_from c step s l' a' k' from
      elsewhere {l} {l'} {a} {a'} {k} {k'} from e q m = ap (λ (x : ℕ). batch_from c step s x a k from) e ∙ ap₂ (λ (x y : ℕ). batch_from c step s l' x y from) q m

      batch_go : (rs : List (List ℕ)) (front rest : List ℕ) (left more a k : ℕ) (from : A) → AllRecords rs → s ≡ front ++ (flatten rs ++ rest) → a ≡ length front
          → left ≡ length rs + more
          → batch_from c step s left a k from ≡ batch_from c step s more (a + length (flatten rs)) (k + length rs) (foldl step from (map pair_of rs))
      unfolding flatten
      batch_go [] front rest left more a k from h e q m = elsewhere from (omega arith) (omega arith) (omega arith)
      batch_go (r ∷ rs) front rest zero more a k from h e q m = absurd (omega arith)
      batch_go (r ∷ rs) front rest (suc left) more a k from h e q m =
          batch_one front r (flatten rs ++ rest) left a k from (h r mem-cons_self) (e ∙ ap (◌++◌ front) (append_assoc r (flatten rs) rest)) q
          ∙ batch_go rs (front ++ r) rest left more (a + length r) (k + 1) (step from (pair_of r)) (λ x n. h x (mem-cons_of_mem r n))
          (e ∙ ap (◌++◌ front) (append_assoc r (flatten rs) rest) ∙ sym (append_assoc front r (flatten rs ++ rest))) (omega (arith, length-append front r)) (omega arith)
          ∙ elsewhere (foldl step (step from (pair_of r)) (map pair_of rs)) refl (omega (arith, length-append r (flatten rs))) (omega arith)

    -- at most 4,096 good records
    pub batch_records : (rs : List (List ℕ)) (from : A) → AllRecords rs → length rs ≤ 4096
        → batch c step (flatten rs) from ≡ taken (record { result = foldl step from (map pair_of rs); count = length rs })
    batch_records rs from h l = batch_go (flatten rs) rs [] [] most_records (most_records - length rs) 0 0 from h (sym (append-nil (flatten rs))) refl (omega arith)
        ∙ at_end c step (flatten rs) (0 + length (flatten rs)) (0 + length rs) (foldl step from (map pair_of rs)) (most_records - length rs) (omega arith) ∙ ap counted (omega arith)
      where
        counted : ℕ → Checked (Batch A)
        counted n = taken (record { result = foldl step from (map pair_of rs); count = n })

    -- and bytes behind 4,096 of them
    pub batch_over : (rs : List (List ℕ)) (rest : List ℕ) (from : A) → AllRecords rs → length rs ≡ 4096 → 0 < length rest → batch c step (flatten rs ++ rest) from ≡ refused 14 0
    batch_over rs rest from h e l = batch_go (flatten rs ++ rest) rs [] rest most_records 0 0 0 from h refl refl (omega arith)
        ∙ too_many c step (flatten rs ++ rest) (0 + length (flatten rs)) (0 + length rs) (foldl step from (map pair_of rs)) (omega (arith, length-append (flatten rs) rest))

    -- ---- whatever batch is taken is made of at most 4,096 good records
    module _ (s : List ℕ) where
      Parts : ℕ → ℕ → Type 0
      Parts left a = (rs : List (List ℕ)) × AllRecords rs × (length rs ≤ left) × (flatten rs ≡ drop a s)

      parts_end : (left a : ℕ) → length s ≤ a → Parts left a
      unfolding Parts flatten
      parts_end left a l = ([], no_records, omega arith, sym (drop_of_length-le s l))

      parts_more : (left a k : ℕ) {d : PairOf c} → divisor_at c k false s a ≡ taken d → Parts left (a + 1 + 16 * get_or s a 0) → Parts (suc left) a
      unfolding Parts flatten
      parts_more left a k e r =
          let h = (divisor_read c k false s a e).0 in
          let x : List ℕ = record_out c s a h in
          (x ∷ r.0, more_records (record_taken_out s a h) r.1, omega (arith, r.2), ap (◌++◌ x) r.3 ∙ sym (split_out c s a h))

      parts : {left a k : ℕ} {from : A} {x : Checked (Batch A)} → Reading s left a k from x → {b : Batch A} → x ≡ taken b → Parts left a
      parts (ends {left = left} {a = a} l) e = parts_end left a l
      parts (full l) e = absurd (refused_taken e)
      parts (stops q) e = absurd (refused_taken e)
      parts (goes {left = left} {a = a} {k = k} q r) e = parts_more left a (k + 1) q (parts r e)

      pub batch_made : (from : A) {b : Batch A} → batch c step s from ≡ taken b → MadeOf s
      unfolding Parts
      batch_made from e = let r = parts (reading s most_records 0 0 from) e in record { records = r.0; good = r.1; few = r.2; bytes = r.3 }

      pub batch_is : (from : A) (m : MadeOf s) → batch c step s from ≡ taken (record { result = foldl step from (map pair_of m.records); count = length m.records })
      batch_is from m = ap (λ (z : List ℕ). batch c step z from) (sym m.bytes) ∙ batch_records m.records from m.good m.few
