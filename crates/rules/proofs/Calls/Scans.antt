-- The running total of a pole: from a fresh one, records scanned one by one for that pole come to the batch total of what was taken so far (`scans_done`, `scans_total`, `scans_batch`); scans for other poles among them
-- change nothing (`scans_mixed`).
-- Open: `running_bytes`, `running_result`, `scans`, `AllDone`, `AllFor`, `records_of`, `of_pole`.
use Prim.Native.Nat.{ℕ, ◌+◌, ◌≤◌, ◌<◌}
use mathlib.Core.Path.{◌≡◌, refl, sym, ap, ◌∙◌, subst}
use mathlib.Core.List.{List, [], ◌∷◌, ◌++◌, map, foldl, flatten}
use mathlib.Core.Bool.{Bool, true, false}
use mathlib.Core.Logic.{◌↔◌}
use native.Mathlib.Omega.{arith}
use lib.Dec.{eqb}
use lib.ListN.{length, drop, length-map}
use borrow.Author.Tests.{eqb-false}
use Rattle.rules.specs.Bytes.{word32, all_bytes}
use Rattle.rules.specs.Pair.{Valid, neutral}
use Rattle.rules.specs.Sum.{sum}
use Rattle.rules.specs.Multiple.{total}
use Rattle.rules.specs.Records.{taken, choose, numbers, CurveRecord, curve, PairOf, read_curve, divisor_bytes}
use Rattle.rules.specs.Calls.{done, Result, Reply, put, total_call, Running, fresh, scan_call}
use Rattle.rules.proofs.Cantor.Pairs.{neutral_valid}
use Rattle.rules.proofs.Calls.Elements.{length_numbers}
use Rattle.rules.proofs.Calls.CurveRecords.{Accepts, accepts}
use Rattle.rules.proofs.Calls.Accepted.{accepts_laws}
use Rattle.rules.proofs.Calls.Batches.{pair_of, IsRecord, AllRecords, is_record, record_at, record_valid, no_records, more_records}
use Rattle.rules.proofs.Calls.Done.{total_of}
use Rattle.rules.proofs.Calls.Totals.{total_records}
use Rattle.rules.proofs.Calls.OneScan.{running_of, resume_read, resume_is, scan_is, scan_done, scan_kept, scan_pole}

-- a total's divisor as its record
abbrev pub running_bytes : Running → List ℕ
running_bytes t = length t.u ∷ (all_bytes t.u ++ all_bytes t.v)

abbrev pub running_result : Running → Result ℕ
running_result t = record { bytes = running_bytes t; own = t.count }

running_written : (c : CurveRecord) (d : PairOf c) (n pole : ℕ) → running_bytes (running_of c d n pole) ≡ divisor_bytes c.p d
unfolding divisor_bytes
running_written c d n pole = ap (λ (k : ℕ). k ∷ (all_bytes (numbers c.p d.u) ++ all_bytes (numbers c.p d.v))) (length_numbers c.p d.u)

-- records scanned one by one; every scan answers 0
abbrev pub scans : Running → List ℕ → List (List ℕ) → Running
scans t s rs = foldl (λ t r. (scan_call t s r).own) t rs

abbrev pub AllDone : Running → List ℕ → List (List ℕ) → Type 0
AllDone t s [] = Unit {0}
AllDone t s (r ∷ rs) = ((scan_call t s r).answer.number ≡ 0) × AllDone (scan_call t s r).own s rs

-- ---- many: scans for a pole, each of a good record, and those records
module _ (c : CurveRecord) where
  pub record IsScan (pole : ℕ) (a : List ℕ) : Type 0 where
    pub four : 4 ≤ length a
    pub pole_is : word32 a 0 ≡ pole
    pub good : IsRecord c (drop 4 a)

  abbrev pub AllFor : ℕ → List (List ℕ) → Type 0
  AllFor pole [] = Unit {0}
  AllFor pole (a ∷ l) = IsScan pole a × AllFor pole l

abbrev pub records_of : List (List ℕ) → List (List ℕ)
records_of l = map (drop 4) l

module _ (s : List ℕ) {c : CurveRecord} (ec : read_curve s ≡ taken c) (pole : ℕ) where
  ok : Accepts c
  ok = accepts s ec

  pub all_records : (l : List (List ℕ)) → AllFor c pole l → AllRecords c (records_of l)
  all_records [] h = no_records c
  all_records (a ∷ l) h = more_records c h.0.good (all_records l h.1)

  next_valid : (d : PairOf c) → Valid (curve c) d → (r : List ℕ) → IsRecord c r → Valid (curve c) (sum (curve c) d (pair_of c r))
  next_valid d v r h = (accepts_laws c ok).sum_closed d (pair_of c r) v (record_valid c r h)

  scan_next : (d : PairOf c) → Valid (curve c) d → (n : ℕ) → n < 4096 → (a : List ℕ) → IsScan c pole a
      → scan_call (running_of c d n pole) s a ≡ record { answer = done 0; out = []; own = running_of c (sum (curve c) d (pair_of c (drop 4 a))) (n + 1) pole }
  scan_next d v n l a h = scan_is s ec (running_of c d n pole) a (resume_is c ok d v n pole l) h.four h.pole_is (record_at c 1 (drop 4 a) h.good)

  abbrev From : List (List ℕ) → PairOf c → ℕ → Type 0
  From l d n = AllFor c pole l × (n + length l ≤ 4096) × (scans (running_of c d n pole) s l ≡ running_of c (foldl (sum (curve c)) d (map (pair_of c) (records_of l))) (n + length l) pole)

  scans_from : (l : List (List ℕ)) (d : PairOf c) → Valid (curve c) d → (n : ℕ) → n ≤ 4096 → AllDone (running_of c d n pole) s l → From l d n
  scans_from [] d v n u h = (tt, omega arith, ap (λ (k : ℕ). running_of c d k pole) (omega arith))
  scans_from (a ∷ l) d v n u h =
      let k = scan_done s ec (running_of c d n pole) a h.0 in
      let room : n < 4096 = (resume_read c (running_of c d n pole) k.t_is).0.room in
      let good : IsScan c pole a = record { four = k.four; pole_is = k.pole_is; good = is_record c 1 (drop 4 a) k.a_is } in
      let y : PairOf c = sum (curve c) d (pair_of c (drop 4 a)) in
      let e : (scan_call (running_of c d n pole) s a).own ≡ running_of c y (n + 1) pole = ap (λ (w : Reply Running). w.own) (scan_next d v n room a good) in
      let q = scans_from l y (next_valid d v (drop 4 a) good.good) (n + 1) (omega arith) (subst (λ (t : Running). AllDone t s l) e h.1) in (
        (good, q.0),
        omega (arith, q.1),
        ap (λ (t : Running). scans t s l) e ∙ q.2 ∙ ap (λ (k : ℕ). running_of c (foldl (sum (curve c)) y (map (pair_of c) (records_of l))) k pole) (omega arith),
      )

  done_from : (l : List (List ℕ)) (d : PairOf c) → Valid (curve c) d → (n : ℕ) → AllFor c pole l → n + length l ≤ 4096 → AllDone (running_of c d n pole) s l
  done_from [] d v n h u = tt
  done_from (a ∷ l) d v n h u =
      let e = scan_next d v n (omega arith) a h.0 in (
        ap (λ (w : Reply Running). w.answer.number) e,
        subst (λ (w : Reply Running). AllDone w.own s l) (sym e)
            (done_from l (sum (curve c) d (pair_of c (drop 4 a))) (next_valid d v (drop 4 a) h.0.good) (n + 1) h.1 (omega arith)),
      )

  fresh_is : fresh pole ≡ running_of c neutral 0 pole
  unfolding numbers
  fresh_is = refl

  from_fresh : (l : List (List ℕ)) → AllDone (fresh pole) s l → From l neutral 0
  from_fresh l h = scans_from l neutral (neutral_valid (curve c)) 0 (omega arith) (subst (λ (t : Running). AllDone t s l) fresh_is h)

  -- every scan answers 0 exactly where all are for the pole, of good records and at most 4,096
  pub scans_done : (l : List (List ℕ)) → AllDone (fresh pole) s l ↔ (AllFor c pole l × (length l ≤ 4096))
  scans_done l = (
    λ h. let q = from_fresh l h in (q.0, omega (arith, q.1)),
    λ h. subst (λ (t : Running). AllDone t s l) (sym fresh_is) (done_from l neutral (neutral_valid (curve c)) 0 h.0 (omega (arith, h.1))),
  )

  -- then the running total holds their total, their count and the pole
  pub scans_total : (l : List (List ℕ)) → AllDone (fresh pole) s l → scans (fresh pole) s l ≡ running_of c (total_of c (records_of l)) (length l) pole
  unfolding total
  scans_total l h = ap (λ (t : Running). scans t s l) fresh_is ∙ (from_fresh l h).2 ∙ ap (λ (k : ℕ). running_of c (total_of c (records_of l)) k pole) (omega arith)

  -- and so it is what the batch call says of the same records
  pub scans_batch : (l : List (List ℕ)) → AllDone (fresh pole) s l → (out : List ℕ)
      → total_call s (flatten (records_of l)) out ≡ put 0 out (running_result (scans (fresh pole) s l))
  scans_batch l h out =
      let q = (scans_done l).0 h in
      let e : length (records_of l) ≡ length l = length-map l (drop 4) in
      total_records s ec (records_of l) (all_records l q.0) out (omega (arith, e, q.1))
      ∙ ap (λ (n : ℕ). put 0 out (record { bytes = divisor_bytes c.p (total_of c (records_of l)); own = n })) e
      ∙ sym (ap (λ (t : Running). put 0 out (running_result t)) (scans_total l h)
      ∙ ap (λ (b : List ℕ). put 0 out (record { bytes = b; own = length l })) (running_written c (total_of c (records_of l)) (length l) pole))

-- ---- a mixed list: what is for the pole
abbrev pub of_pole : ℕ → List (List ℕ) → List (List ℕ)
of_pole pole [] = []
of_pole pole (a ∷ l) = choose (eqb (word32 a 0) pole) (a ∷ of_pole pole l) (of_pole pole l)

module _ (s : List ℕ) {c : CurveRecord} (ec : read_curve s ≡ taken c) where
  scan_leaves : (t : Running) (a : List ℕ) → (word32 a 0 ≡ t.pole → ⊥) → (scan_call t s a).own ≡ t
  scan_leaves t a h = scan_kept s t a (λ z. h (scan_done s ec t a z).pole_is)

  -- scans for other poles change nothing, whatever their bytes are
  pub scans_mixed : (l : List (List ℕ)) (t : Running) (pole : ℕ) → t.pole ≡ pole → scans t s l ≡ scans t s (of_pole pole l)
  scans_mixed [] t pole e = refl
  scans_mixed (a ∷ l) t pole e = go (eqb (word32 a 0) pole) refl (scans_mixed l (scan_call t s a).own pole (scan_pole s ec t a ∙ e))
    where
      go : (b : Bool) → eqb (word32 a 0) pole ≡ b → scans (scan_call t s a).own s l ≡ scans (scan_call t s a).own s (of_pole pole l)
          → scans t s (a ∷ l) ≡ scans t s (choose b (a ∷ of_pole pole l) (of_pole pole l))
      go true q rest = rest
      go false q rest = rest ∙ ap (λ (u : Running). scans u s (of_pole pole l)) (scan_leaves t a (λ z. eqb-false _ _ q (z ∙ e)))
