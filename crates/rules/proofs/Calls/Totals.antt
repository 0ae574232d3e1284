-- Demand 3 of the calls' rules, of totals: a batch in any order (`total_any_order`), by any parts (`total_any_split`), and one after the other
-- by sums (`total_by_adds`); 14 where it has more than 4,096 good records (`total_too_many`).
-- Open: `subtotal`, `adds`.
use Prim.Native.Nat.{ℕ, ◌≤◌, ◌<◌}
use mathlib.Core.Path.{◌≡◌, refl, sym, ap, ap₂, ◌∙◌, subst}
use mathlib.Core.List.Perm
use mathlib.Core.List.{List, [], ◌∷◌, ◌++◌, map, foldl, flatten, Perm, Mem, mem-cons_self, mem-cons_of_mem, mem-append_left, mem-append_right}
use native.Mathlib.Omega.{arith}
use native.Mathlib.Decide.{dec_lt}
use lib.ListN.{length, length-map, take, drop, length-append, length-drop, take-append-drop}
use lib.Seq.{length-take-le}
use Rattle.rules.specs.Pair.{Valid, neutral}
use Rattle.rules.specs.Sum.{sum}
use Rattle.rules.specs.Multiple.{total}
use Rattle.rules.specs.Records.{taken, CurveRecord, curve, PairOf, read_curve, read_divisor, divisor_bytes}
use Rattle.rules.specs.Calls.{stop, put, deliver, write, add_call, total_call}
use Rattle.rules.proofs.Cantor.Pairs.{neutral_valid}
use Rattle.rules.proofs.Calls.CurveRecords.{Accepts, accepts}
use Rattle.rules.proofs.Calls.Accepted.{accepts_laws}
use Rattle.rules.proofs.Calls.DivisorRecords.{divisor_reread, length_divisor}
use Rattle.rules.proofs.Calls.Batches.{pair_of, IsRecord, AllRecords, is_record, record_pair, record_at, record_bytes, record_valid, records_valid, no_records, more_records, batch_records, batch_over}
use Rattle.rules.proofs.Calls.ListLaws.{flatten_append, map_flatten, perm_length}
use Rattle.rules.proofs.Calls.Refusals.{on_taken, on_refused}
use Rattle.rules.proofs.Calls.Written.{front, bare, front_room}
use Rattle.rules.proofs.Calls.Taken.{total-result, add_is, total_is, total_written}
use Rattle.rules.proofs.Calls.Done.{total_of}
use Rattle.rules.proofs.Calls.Sums.{neutral-bytes}

-- what the call that totals a part leaves at the front of an output o
abbrev pub subtotal : List ℕ → List ℕ → List (List ℕ) → List ℕ
subtotal s o rs = front (total_call s (flatten rs) o)

-- records added one after the other, from the neutral one, each sum read from the output before
abbrev pub adds : List ℕ → List ℕ → List ℕ → List (List ℕ) → List ℕ
adds s o acc ts = foldl (λ acc t. front (add_call s acc t o)) acc ts

module _ (s : List ℕ) {c : CurveRecord} (ec : read_curve s ≡ taken c) where
  ok : Accepts c
  ok = accepts s ec

  -- ---- good records
  module _ (rs : List (List ℕ)) (good : AllRecords c rs) where
    pub total_records : (out : List ℕ) → length rs ≤ 4096 → total_call s (flatten rs) out ≡ put 0 out (total-result c (total_of c rs) (length rs))
    unfolding total
    total_records out l = total_is s ec (flatten rs) out (batch_records c (sum (curve c)) rs neutral good l)

    -- bytes behind 4,096 good records
    pub total_over : (rest out : List ℕ) → length rs ≡ 4096 → 0 < length rest → total_call s (flatten rs ++ rest) out ≡ stop 0 out 14 0
    unfolding total_call
    total_over rest out e l = ap (deliver 0 out) (on_taken _ _ ec ∙ on_refused _ _ (batch_over c (sum (curve c)) rs rest neutral good e l))

  -- more than 4,096
  some_bytes : (rs : List (List ℕ)) → AllRecords c rs → 0 < length rs → 0 < length (flatten rs)
  unfolding flatten
  some_bytes [] h l = l
  some_bytes (r ∷ rs) h l = omega (arith, length-append r (flatten rs), (record_bytes c r (h r mem-cons_self)).inside)

  pub total_too_many : (rs : List (List ℕ)) → AllRecords c rs → (out : List ℕ) → 4096 < length rs → total_call s (flatten rs) out ≡ stop 0 out 14 0
  total_too_many rs good out l = ap (λ (z : List ℕ). total_call s z out) (ap flatten (sym split) ∙ flatten_append (take 4096 rs) (drop 4096 rs))
      ∙ total_over (take 4096 rs) (λ r m. good r (subst (Mem r) split (mem-append_left (drop 4096 rs) m))) (flatten (drop 4096 rs)) out (length-take-le 4096 rs (omega arith))
      (some_bytes (drop 4096 rs) (λ r m. good r (subst (Mem r) split (mem-append_right (take 4096 rs) m))) (omega (arith, length-drop 4096 rs)))
    where
      split : take 4096 rs ++ drop 4096 rs ≡ rs
      split = take-append-drop 4096 rs

  -- ---- in any order
  pub total_any_order : (rs rs' : List (List ℕ)) → AllRecords c rs → Perm rs rs' → (out : List ℕ) → total_call s (flatten rs) out ≡ total_call s (flatten rs') out
  total_any_order rs rs' good p out = go (dec_lt 4096 (length rs))
    where
      good' : AllRecords c rs'
      good' r m = good r ((Perm.mem_iff p).1 m)

      go : Dec (4096 < length rs) → total_call s (flatten rs) out ≡ total_call s (flatten rs') out
      go (yes l) = total_too_many rs good out l ∙ sym (total_too_many rs' good' out (omega (arith, perm_length p)))
      go (no l) = total_records rs good out (omega arith)
          ∙ ap₂ (λ (d : PairOf c) (n : ℕ). put 0 out (total-result c d n))
          ((accepts_laws c ok).any_order (map (pair_of c) rs) (map (pair_of c) rs') (records_valid c rs good) (Perm.map (pair_of c) p)) (perm_length p)
          ∙ sym (total_records rs' good' out (omega (arith, perm_length p)))

  -- ---- an output o with room for any record
  module _ (o : List ℕ) (room : 49 ≤ length o) where
    fits : (d : PairOf c) → Valid (curve c) d → front (write o (divisor_bytes c.p d)) ≡ divisor_bytes c.p d
    fits d v = front_room o (divisor_bytes c.p d) (omega (arith, length_divisor c ok d v, v.small, ok.greatest))

    total_valid : (rs : List (List ℕ)) → AllRecords c rs → Valid (curve c) (total_of c rs)
    total_valid rs good = (accepts_laws c ok).total_closed (map (pair_of c) rs) (records_valid c rs good)

    -- a part's total is a record
    pub subtotal_is : (rs : List (List ℕ)) → AllRecords c rs → length rs ≤ 4096 → subtotal s o rs ≡ divisor_bytes c.p (total_of c rs)
    unfolding total
    subtotal_is rs good l = ap front (total_written s ec (flatten rs) o (batch_records c (sum (curve c)) rs neutral good l)) ∙ fits (total_of c rs) (total_valid rs good)

    subtotal_read : (rs : List (List ℕ)) → AllRecords c rs → length rs ≤ 4096 → (k : ℕ) → read_divisor c k (subtotal s o rs) ≡ taken (total_of c rs)
    subtotal_read rs good l k = ap (read_divisor c k) (subtotal_is rs good l) ∙ divisor_reread c ok (total_of c rs) (total_valid rs good) k

    -- ---- one after the other by sums, however many
    adds_from : (ts : List (List ℕ)) (d : PairOf c) → Valid (curve c) d → AllRecords c ts
        → adds s o (divisor_bytes c.p d) ts ≡ divisor_bytes c.p (foldl (sum (curve c)) d (map (pair_of c) ts))
    adds_from [] d v h = refl
    adds_from (t ∷ ts) d v h = ap (λ (acc : List ℕ). adds s o acc ts)
        (ap front (add_is s ec (divisor_bytes c.p d) (divisor_reread c ok d v 1) o t (record_at c 2 t good)) ∙ fits (sum (curve c) d (pair_of c t)) more)
        ∙ adds_from ts (sum (curve c) d (pair_of c t)) more (λ r m. h r (mem-cons_of_mem t m))
      where
        good : IsRecord c t
        good = h t mem-cons_self

        more : Valid (curve c) (sum (curve c) d (pair_of c t))
        more = (accepts_laws c ok).sum_closed d (pair_of c t) v (record_valid c t good)

    pub adds_total : (ts : List (List ℕ)) → AllRecords c ts → adds s o (0 ∷ []) ts ≡ divisor_bytes c.p (total_of c ts)
    unfolding total
    adds_total ts h = ap (λ (acc : List ℕ). adds s o acc ts) (sym (neutral-bytes c.p)) ∙ adds_from ts neutral (neutral_valid (curve c)) h

    -- ---- by parts
    subtotals_good : (parts : List (List (List ℕ))) → AllRecords c (flatten parts) → length (flatten parts) ≤ 4096 → AllRecords c (map (subtotal s o) parts)
    unfolding flatten
    subtotals_good [] h l = no_records c
    subtotals_good (rs ∷ parts) h l = more_records c
        (is_record c 1 (subtotal s o rs) (subtotal_read rs (λ r m. h r (mem-append_left (flatten parts) m)) (omega (arith, length-append rs (flatten parts))) 1))
        (subtotals_good parts (λ r m. h r (mem-append_right rs m)) (omega (arith, length-append rs (flatten parts))))

    subtotals_pairs : (parts : List (List (List ℕ))) → AllRecords c (flatten parts) → length (flatten parts) ≤ 4096
        → map (pair_of c) (map (subtotal s o) parts) ≡ map (total (curve c)) (map (map (pair_of c)) parts)
    unfolding flatten
    subtotals_pairs [] h l = refl
    subtotals_pairs (rs ∷ parts) h l = ap₂ ◌∷◌
        (record_pair c 1 (subtotal s o rs) (subtotal_read rs (λ r m. h r (mem-append_left (flatten parts) m)) (omega (arith, length-append rs (flatten parts))) 1))
        (subtotals_pairs parts (λ r m. h r (mem-append_right rs m)) (omega (arith, length-append rs (flatten parts))))

    module _ (rs : List (List ℕ)) (parts : List (List (List ℕ))) (good : AllRecords c rs) (p : Perm rs (flatten parts)) (few : length rs ≤ 4096) where
      good_parts : AllRecords c (flatten parts)
      good_parts r m = good r ((Perm.mem_iff p).1 m)

      few_parts : length (flatten parts) ≤ 4096
      few_parts = omega (arith, perm_length p)

      same_total : total_of c (map (subtotal s o) parts) ≡ total_of c rs
      same_total = ap (total (curve c)) (subtotals_pairs parts good_parts few_parts)
          ∙ sym ((accepts_laws c ok).any_split (map (pair_of c) rs) (map (map (pair_of c)) parts) (records_valid c rs good)
          (subst (Perm (map (pair_of c) rs)) (map_flatten (pair_of c) parts) (Perm.map (pair_of c) p)))

      -- the parts' totals, summed by one more batch
      pub total_any_split : (out : List ℕ) → length parts ≤ 4096 → bare (total_call s (flatten (map (subtotal s o) parts)) out) ≡ bare (total_call s (flatten rs) out)
      unfolding total
      total_any_split out l = total_written s ec (flatten (map (subtotal s o) parts)) out
          (batch_records c (sum (curve c)) (map (subtotal s o) parts) neutral (subtotals_good parts good_parts few_parts) (omega (arith, length-map parts (subtotal s o))))
          ∙ ap (λ (d : PairOf c). write out (divisor_bytes c.p d)) same_total
          ∙ sym (total_written s ec (flatten rs) out (batch_records c (sum (curve c)) rs neutral good few))

      -- or one after the other by sums
      pub total_by_adds : adds s o (0 ∷ []) (map (subtotal s o) parts) ≡ subtotal s o rs
      total_by_adds = adds_total (map (subtotal s o) parts) (subtotals_good parts good_parts few_parts) ∙ ap (divisor_bytes c.p) same_total ∙ sym (subtotal_is rs good few)
