-- 14 of a batch: given exactly where the bytes are 4,096 good records and at least one byte more (`batch_14`); and a batch is taken exactly where they are at most 4,096 good records, one after the other (`batch_taken`).
use Prim.Native.Nat.{ℕ, suc, ◌+◌, ◌*◌, ◌<◌}
use mathlib.Core.Path.{◌≡◌, refl, sym, ap, ◌∙◌}
use mathlib.Core.List.{List, [], ◌∷◌, ◌++◌, map, foldl, flatten, append_assoc}
use mathlib.Core.Bool.{false}
use mathlib.Core.Logic.{◌↔◌}
use native.Mathlib.Omega.{arith}
use lib.ListN.{get_or, length, drop, length-drop}
use Rattle.rules.specs.Checks.{Checked, refused, taken}
use Rattle.rules.specs.Records.{CurveRecord, PairOf, divisor_at}
use Rattle.rules.specs.Lists.{Batch, batch, most_records}
use Rattle.rules.proofs.Calls.Tests.{refused_taken}
use Rattle.rules.proofs.Calls.Refusals.{divisor_refused}
use Rattle.rules.proofs.Calls.DivisorRecords.{divisor_read, record_out, split_out}
use Rattle.rules.proofs.Calls.Batches.{pair_of, AllRecords, MadeOf, record_taken_out, no_records, more_records, Reading, ends, full, stops, goes, reading, batch_over, batch_made, batch_is}

module _ (c : CurveRecord) where
  -- n good records, one after the other, and at least one byte more
  pub record GoesOn (n : ℕ) (s : List ℕ) : Type 0 where
    pub records : List (List ℕ)
    pub good : AllRecords c records
    pub count : length records ≡ n
    pub rest : List ℕ
    pub more : 0 < length rest
    pub bytes : flatten records ++ rest ≡ s

  -- bytes behind no record, and one record more in front
  pub goes_none : (s : List ℕ) → 0 < length s → GoesOn 0 s
  unfolding flatten
  goes_none s l = record { records = []; good = no_records c; count = refl; rest = s; more = l; bytes = refl }

  pub goes_more : (s : List ℕ) (a k n : ℕ) {d : PairOf c} → divisor_at c k false s a ≡ taken d → GoesOn n (drop (a + 1 + 16 * get_or s a 0) s) → GoesOn (suc n) (drop a s)
  unfolding flatten
  goes_more s a k n e r =
      let h = (divisor_read c k false s a e).0 in
      let x : List ℕ = record_out c s a h in
      record {
        records = x ∷ r.records;
        good = more_records c (record_taken_out c s a h) r.good;
        count = ap suc r.count;
        rest = r.rest;
        more = r.more;
        bytes = append_assoc x (flatten r.records) r.rest ∙ ap (◌++◌ x) r.bytes ∙ sym (split_out c s a h);
      }

  module _ {A : Type 0} (step : A → PairOf c → A) (s : List ℕ) where
    over : {left a k : ℕ} {from : A} {x : Checked (Batch A)} → Reading c step s left a k from x → x ≡ refused 14 0 → GoesOn left (drop a s)
    over (ends l) e = absurd (refused_taken (sym e))
    over (full {a = a} l) e = goes_none (drop a s) (omega (arith, length-drop a s, l))
    over (stops {a = a} {k = k} {n = n} q) e = let z : n ≡ 14 = cc in absurd (omega (arith, z, (divisor_refused c (k + 1) false s a q).1))
    over (goes {left = left} {a = a} {k = k} q r) e = goes_more s a (k + 1) left q (over r e)

    pub batch_14 : (from : A) → (batch c step s from ≡ refused 14 0) ↔ GoesOn 4096 s
    batch_14 from = (
      over (reading c step s most_records 0 0 from),
      λ g. ap (λ (z : List ℕ). batch c step z from) (sym g.bytes) ∙ batch_over c step g.records g.rest from g.good g.count g.more,
    )

    pub batch_taken : (from : A) → ((b : Batch A) × (batch c step s from ≡ taken b)) ↔ MadeOf c s
    batch_taken from = (λ t. batch_made c step s from t.1, λ m. (record { result = foldl step from (map (pair_of c) m.records); count = length m.records }, batch_is c step s from m))
