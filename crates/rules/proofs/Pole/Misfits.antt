-- 23 of the records behind a file's count: given exactly where there are fewer than n good records and then one that is missing or cut short (`CutShort`), or n of them and at least one byte more (rules' `GoesOn`): `records_23`. Else a record's own number, 9 to 11, or none
-- (`records_number`).
use Prim.Native.Nat.{ℕ, zero, suc, ◌+◌, ◌*◌, ◌-◌, ◌≤◌, ◌<◌}
use mathlib.Core.Path.{◌≡◌, refl, sym, ap, ap₂, ◌∙◌, subst}
use mathlib.Core.List.{List, [], ◌∷◌, ◌++◌, flatten, append_assoc, mem-cons_self, mem-cons_of_mem}
use mathlib.Core.Bool.{Bool, true, false}
use mathlib.Core.Logic.{◌↔◌, ◌⊎◌, inl, inr}
use native.Mathlib.Omega.{arith}
use lib.Dec.{eqb, leb}
use lib.ListN.{get_or, length, drop, length-append, length-drop}
use lib.Seq.{get_or-drop, drop_at}
use borrow.Author.Tests.{leb-true, leb-false, lt-leb, eqb-true}
use Rattle.rules.specs.Checks.{Checked, refused, taken, choose, go_on}
use Rattle.rules.specs.Records.{CurveRecord, PairOf, divisor_at}
use Rattle.rules.proofs.Calls.Tests.{refused_taken}
use Rattle.rules.proofs.Calls.Refusals.{divisor_refused}
use Rattle.rules.proofs.Calls.Given.{◌and◌}
use Rattle.rules.proofs.Calls.DivisorRecords.{divisor_read, taken_among, next_place, record_out, split_out}
use Rattle.rules.proofs.Calls.Batches.{IsRecord, AllRecords, record_bytes, record_taken_out, no_records, more_records}
use Rattle.rules.proofs.Exactly.Divisors.{divisor_given}
use Rattle.rules.proofs.Exactly.Batches.{GoesOn, goes_none, goes_more}
use Rattle.rules.specs.Pole.PoleFile.{or_cut, records_from}

-- no record begins there, or one that ends behind the bytes
abbrev pub Cut : CurveRecord → List ℕ → Type 0
Cut c rest = (¬ (0 < length rest)) ⊎ ((0 < length rest) and (get_or rest 0 0 ≤ c.g) and ¬ (1 + 16 * get_or rest 0 0 ≤ length rest))

-- fewer than n good records, one after the other, and then one that is missing or cut short
pub record CutShort (c : CurveRecord) (n : ℕ) (s : List ℕ) : Type 0 where
  pub records : List (List ℕ)
  pub good : AllRecords c records
  pub count : length records < n
  pub rest : List ℕ
  pub cut : Cut c rest
  pub bytes : flatten records ++ rest ≡ s

module _ (c : CurveRecord) (s : List ℕ) where
  -- 8 of the record from byte a on, of the bytes from there
  cut_at : (k a : ℕ) → a ≤ length s → (divisor_at c k false s a ≡ refused 8 k) ↔ Cut c (drop a s)
  cut_at k a l = let g = divisor_given c k false s a 8 in (λ e. to (g.0 e), λ h. g.1 (back h))
    where
      first : get_or (drop a s) 0 0 ≡ get_or s a 0
      first = get_or-drop a s 0 0 ∙ ap (λ (i : ℕ). get_or s i 0) (omega arith)

      to : (¬ (a < length s)) ⊎ ((a < length s) and (get_or s a 0 ≤ c.g) and ¬ (a + 1 + 16 * get_or s a 0 ≤ length s)) → Cut c (drop a s)
      to (inl f) = inl (λ h. f (omega (arith, h, length-drop a s)))
      to (inr (i, (w, f))) = inr (omega (arith, length-drop a s), (omega (arith, first), λ h. f (omega (arith, h, first, length-drop a s))))

      back : Cut c (drop a s) → (¬ (a < length s)) ⊎ ((a < length s) and (get_or s a 0 ≤ c.g) and ¬ (a + 1 + 16 * get_or s a 0 ≤ length s))
      back (inl f) = inl (λ h. f (omega (arith, length-drop a s)))
      back (inr (i, (w, f))) = inr (omega (arith, length-drop a s, i), (omega (arith, first, w), λ h. f (omega (arith, first, length-drop a s))))

  -- ---- which number
  pub records_number : (left a k : ℕ) {n j : ℕ} → records_from c s left a k ≡ refused n j → (n ≡ 23) ⊎ (n ≤ 11)
  unfolding records_from
  records_number zero a k {n} {j} e = go (leb (length s) a) e
    where
      go : (t : Bool) → ◌≡◌ {A = Checked (Unit {0})} (choose t (taken tt) (refused 23 0)) (refused n j) → (n ≡ 23) ⊎ (n ≤ 11)
      go true e = absurd (refused_taken (sym e))
      go false e = let z : 23 ≡ n = cc in inl (sym z)
  records_number (suc left) a k {n} {j} e = go (divisor_at c (k + 1) false s a) refl (λ h. records_number left (a + 1 + 16 * get_or s a 0) (k + 1) h) e
    where
      next : PairOf c → Checked (Unit {0})
      next d = records_from c s left (a + 1 + 16 * get_or s a 0) (k + 1)

      cut : (t : Bool) (m i : ℕ) → m ≤ 11 → go_on (choose t (refused 23 0) (refused m i)) next ≡ refused n j → (n ≡ 23) ⊎ (n ≤ 11)
      cut true m i l e = let z : 23 ≡ n = cc in inl (sym z)
      cut false m i l e = let z : m ≡ n = cc in inr (omega (arith, z, l))

      go : (x : Checked (PairOf c)) → divisor_at c (k + 1) false s a ≡ x → (records_from c s left (a + 1 + 16 * get_or s a 0) (k + 1) ≡ refused n j → (n ≡ 23) ⊎ (n ≤ 11))
          → go_on (or_cut x) next ≡ refused n j → (n ≡ 23) ⊎ (n ≤ 11)
      go (refused m i) q rec e = cut (eqb m 8) m i (divisor_refused c (k + 1) false s a q).1 e
      go (taken d) q rec e = rec e

  -- ---- from the rule to the bytes
  cut_more : (a k n : ℕ) {d : PairOf c} → divisor_at c k false s a ≡ taken d → CutShort c n (drop (a + 1 + 16 * get_or s a 0) s) → CutShort c (suc n) (drop a s)
  unfolding flatten
  cut_more a k n e r =
      let h = (divisor_read c k false s a e).0 in
      let x : List ℕ = record_out c s a h in
      record {
        records = x ∷ r.records;
        good = more_records c (record_taken_out c s a h) r.good;
        count = omega (arith, r.count);
        rest = r.rest;
        cut = r.cut;
        bytes = append_assoc x (flatten r.records) r.rest ∙ ap (◌++◌ x) r.bytes ∙ sym (split_out c s a h);
      }

  cut_none : (a n : ℕ) → Cut c (drop a s) → CutShort c (suc n) (drop a s)
  unfolding flatten
  cut_none a n h = record { records = []; good = no_records c; count = omega arith; rest = drop a s; cut = h; bytes = refl }

  misfit : (left a k j : ℕ) → a ≤ length s → records_from c s left a k ≡ refused 23 j → CutShort c left (drop a s) ⊎ GoesOn c left (drop a s)
  unfolding records_from
  misfit zero a k j l e = go (leb (length s) a) refl e
    where
      go : (t : Bool) → leb (length s) a ≡ t → ◌≡◌ {A = Checked (Unit {0})} (choose t (taken tt) (refused 23 0)) (refused 23 j) → CutShort c 0 (drop a s) ⊎ GoesOn c 0 (drop a s)
      go true q e = absurd (refused_taken (sym e))
      go false q e = inr (goes_none c (drop a s) (omega (arith, length-drop a s, leb-false (length s) a q)))
  misfit (suc left) a k j l e = go (divisor_at c (k + 1) false s a) refl (misfit left (a + 1 + 16 * get_or s a 0) (k + 1) j) e
    where
      next : PairOf c → Checked (Unit {0})
      next d = records_from c s left (a + 1 + 16 * get_or s a 0) (k + 1)

      cut : (t : Bool) (m i : ℕ) → eqb m 8 ≡ t → divisor_at c (k + 1) false s a ≡ refused m i → go_on (choose t (refused 23 0) (refused m i)) next ≡ refused 23 j
          → CutShort c (suc left) (drop a s) ⊎ GoesOn c (suc left) (drop a s)
      cut true m i t q e = inl (cut_none a left ((cut_at (k + 1) a l).0 (q ∙ ap₂ refused (eqb-true m 8 t) (divisor_refused c (k + 1) false s a q).2)))
      cut false m i t q e = let z : m ≡ 23 = cc in absurd (omega (arith, z, (divisor_refused c (k + 1) false s a q).1))

      more : {d : PairOf c} → divisor_at c (k + 1) false s a ≡ taken d → CutShort c left (drop (a + 1 + 16 * get_or s a 0) s) ⊎ GoesOn c left (drop (a + 1 + 16 * get_or s a 0) s)
          → CutShort c (suc left) (drop a s) ⊎ GoesOn c (suc left) (drop a s)
      more q (inl r) = inl (cut_more a (k + 1) left q r)
      more q (inr r) = inr (goes_more c s a (k + 1) left q r)

      go : (x : Checked (PairOf c)) → divisor_at c (k + 1) false s a ≡ x
          → (a + 1 + 16 * get_or s a 0 ≤ length s → records_from c s left (a + 1 + 16 * get_or s a 0) (k + 1) ≡ refused 23 j
          → CutShort c left (drop (a + 1 + 16 * get_or s a 0) s) ⊎ GoesOn c left (drop (a + 1 + 16 * get_or s a 0) s))
          → go_on (or_cut x) next ≡ refused 23 j → CutShort c (suc left) (drop a s) ⊎ GoesOn c (suc left) (drop a s)
      go (refused m i) q rec e = cut (eqb m 8) m i refl q e
      go (taken d) q rec e = more q (rec (leb-true _ _ (divisor_read c (k + 1) false s a q).0.long) e)

  -- ---- and back: past good records
  elsewhere : {n m a b k j : ℕ} → n ≡ m → a ≡ b → k ≡ j → records_from c s n a k ≡ records_from c s m b j
  elsewhere {n} {m} {a} {b} {k} {j} e q z = ap (λ (i : ℕ). records_from c s i a k) e ∙ ap₂ (records_from c s m) q z

  past_one : (front r back : List ℕ) (left a k : ℕ) → IsRecord c r → s ≡ front ++ (r ++ back) → a ≡ length front → records_from c s (suc left) a k ≡ records_from c s left (a + length r) (k + 1)
  unfolding records_from
  past_one front r back left a k h e q =
      let b = record_bytes c r h in
      ap (λ x. go_on (or_cut x) (λ d. records_from c s left (a + 1 + 16 * get_or s a 0) (k + 1))) (ap₂ (divisor_at c (k + 1) false) e q ∙ taken_among c front r back b (k + 1))
      ∙ ap (λ (i : ℕ). records_from c s left i (k + 1)) (ap₂ (λ (z : List ℕ) (i : ℕ). i + 1 + 16 * get_or z i 0) e q ∙ next_place c front r back b ∙ ap (λ (i : ℕ). i + length r) (sym q))

  past : (rs : List (List ℕ)) (front rest : List ℕ) (n left a k : ℕ) → AllRecords c rs → s ≡ front ++ (flatten rs ++ rest) → a ≡ length front → n ≡ length rs + left
      → records_from c s n a k ≡ records_from c s left (a + length (flatten rs)) (k + length rs)
  unfolding flatten
  past [] front rest n left a k h e q m = elsewhere (omega arith) (omega arith) (omega arith)
  past (r ∷ rs) front rest zero left a k h e q m = absurd (omega arith)
  past (r ∷ rs) front rest (suc n) left a k h e q m =
      let split : s ≡ front ++ (r ++ (flatten rs ++ rest)) = e ∙ ap (◌++◌ front) (append_assoc r (flatten rs) rest) in
      past_one front r (flatten rs ++ rest) n a k (h r mem-cons_self) split q
      ∙ past rs (front ++ r) rest n left (a + length r) (k + 1) (λ x z. h x (mem-cons_of_mem r z)) (split ∙ sym (append_assoc front r (flatten rs ++ rest))) (omega (arith, q, length-append front r)) (omega arith)
      ∙ elsewhere refl (omega (arith, length-append r (flatten rs))) (omega arith)

  past_all : (rs : List (List ℕ)) (rest : List ℕ) (left n : ℕ) → AllRecords c rs → flatten rs ++ rest ≡ s → n ≡ length rs + left → records_from c s n 0 0 ≡ records_from c s left (length (flatten rs)) (length rs)
  past_all rs rest left n h e q = past rs [] rest n left 0 0 h (sym e) refl q ∙ elsewhere refl (omega arith) (omega arith)

  left_over : (a k : ℕ) → a < length s → records_from c s 0 a k ≡ refused 23 0
  unfolding records_from
  left_over a k l = rw (lt-leb (length s) a l) refl

  cut_here : (left a k : ℕ) → divisor_at c (k + 1) false s a ≡ refused 8 (k + 1) → records_from c s (suc left) a k ≡ refused 23 0
  unfolding records_from
  cut_here left a k e = ap (λ x. go_on (or_cut x) (λ d. records_from c s left (a + 1 + 16 * get_or s a 0) (k + 1))) e

  pub records_23 : (n : ℕ) → ((k : ℕ) × (records_from c s n 0 0 ≡ refused 23 k)) ↔ (CutShort c n s ⊎ GoesOn c n s)
  records_23 n = (λ t. misfit n 0 0 t.0 (omega arith) t.1, λ h. (0, back h))
    where
      behind : (rs : List (List ℕ)) (rest : List ℕ) → flatten rs ++ rest ≡ s → drop (length (flatten rs)) s ≡ rest
      behind rs rest e = ap (drop (length (flatten rs))) (sym e) ∙ drop_at (flatten rs) rest (length (flatten rs)) refl

      all_long : (rs : List (List ℕ)) (rest : List ℕ) → flatten rs ++ rest ≡ s → length s ≡ length (flatten rs) + length rest
      all_long rs rest e = ap length (sym e) ∙ length-append (flatten rs) rest

      back : CutShort c n s ⊎ GoesOn c n s → records_from c s n 0 0 ≡ refused 23 0
      back (inl h) = past_all h.records h.rest (suc (n - suc (length h.records))) n h.good h.bytes (omega (arith, h.count))
          ∙ cut_here (n - suc (length h.records)) (length (flatten h.records)) (length h.records)
          ((cut_at (length h.records + 1) (length (flatten h.records)) (omega (arith, all_long h.records h.rest h.bytes))).1 (subst (Cut c) (sym (behind h.records h.rest h.bytes)) h.cut))
      back (inr h) = past_all h.records h.rest 0 n h.good h.bytes (omega (arith, h.count))
          ∙ left_over (length (flatten h.records)) (length h.records) (omega (arith, h.more, all_long h.records h.rest h.bytes))
