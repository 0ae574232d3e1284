-- "Place is k for 8 to 11 where the k-th divisor (from 1) is at fault, otherwise 0": of the writer (`write_place`) and of the reader (`read_place`), whose records stand behind its count.
use Prim.Native.Nat.{ℕ}
use mathlib.Core.Path.{◌≡◌, refl, sym, ◌∙◌, subst₂}
use mathlib.Core.Bool.{Bool, true, false}
use mathlib.Core.List.{List}
use native.Mathlib.Omega.{arith}
use lib.Dec.{eqb, ltb}
use lib.ListN.{drop}
use borrow.Author.Tests.{leb-true}
use Rattle.rules.specs.Bytes.{word32}
use Rattle.rules.specs.Checks.{Checked, refused, taken, choose, first_failed}
use Rattle.rules.specs.Records.{either, CurveRecord, read_curve}
use Rattle.rules.specs.Lists.{Batch, most_records}
use Rattle.rules.specs.Calls.{counted, check_batch}
use Rattle.rules.proofs.Calls.Checks.{all_passed, refused_as}
use Rattle.rules.proofs.Calls.Places.{At, None, Placed, elsewhere, placed_on, placed_taken, curve-place, Faulty, batch_place}
use Rattle.rules.proofs.Calls.Delivered.{delivered_place}
use Rattle.rules.proofs.Calls.Written.{only}
use Rattle.rules.proofs.Calls.CallPlaces.{On, Stands}
use Rattle.rules.specs.Pole.PoleFile.{word16, head_checks, curve_part, behind_curve, count_checks, records_from, read_parts, both_parts, read_behind, read_file, file_bytes, write_file}
use Rattle.rules.proofs.Pole.Counted.{as_file, records_are_batch}

-- the j-th of the records is at fault, on the curve of s
abbrev pub AtFault : List ℕ → List ℕ → ℕ → ℕ → Type 0
AtFault s records = On s (λ c. Faulty c records)

-- 23 has place 0
or_23 : (K : ℕ → ℕ → Type 0) (b : Bool) (x : Checked (Unit {0})) → Placed K x → Placed K (choose b (refused 23 0) x)
or_23 K true x p n j e =
    let a : 23 ≡ n = cc in
    let b : 0 ≡ j = cc in
    elsewhere K (λ l u. omega arith) (sym b)
or_23 K false x p n j e = p n j e

as_file_place : (K : ℕ → ℕ → Type 0) (m : ℕ) (x : Checked (Batch (Unit {0}))) → Placed K x → Placed K (as_file m x)
as_file_place K m (refused i k) p = or_23 K (either (eqb i 8) (either (eqb i 14) (ltb m k))) (refused i k) (λ n j e. subst₂ (At K) (let z : i ≡ n = cc in z) (let z : k ≡ j = cc in z) (p i k refl))
as_file_place K m (taken b) p = go (eqb b.count m)
  where
    go : (t : Bool) → Placed {A = Unit {0}} K (choose t (taken tt) (refused 23 0))
    go true = placed_taken K tt
    go false = or_23 K true (taken tt) (placed_taken K tt)

module _ (s records : List ℕ) where
  counted_place : (c : CurveRecord) → read_curve s ≡ taken c → Placed (AtFault s records) (counted c records)
  counted_place c e n j q = let p = batch_place c (λ x d. x) records tt n j q in (λ l u. (c, e, p.0 l u), p.1, p.2)

  pub batch_at_fault : Placed (AtFault s records) (check_batch s records)
  unfolding check_batch
  batch_at_fault = placed_on (AtFault s records) None (read_curve s) _ (curve-place s) (λ n j e h. absurd h) counted_place

  pub write_place : (pole : ℕ) (out : List ℕ) → Stands (AtFault s records) (write_file pole s records out)
  unfolding write_file
  write_place pole out = delivered_place tt out (AtFault s records) _ (placed_on (AtFault s records) (AtFault s records) (check_batch s records)
      (λ b. taken (only (file_bytes pole s b.count records))) batch_at_fault (λ n j e h. h) (λ b q. placed_taken (AtFault s records) _))

-- ---- the reader
module _ (s rest : List ℕ) where
  abbrev K : ℕ → ℕ → Type 0
  K = AtFault s (drop 2 rest)

  abbrev count_read : Checked ℕ
  count_read = first_failed (count_checks rest) (word16 rest 0)

  count_place : Placed K count_read
  count_place n j q = refused_as (word16 rest 0) (At K) (count_checks rest) (elsewhere K (λ l u. omega arith) refl, (elsewhere K (λ l u. omega arith) refl, tt)) q

  records_place : (c : CurveRecord) → read_curve s ≡ taken c → (n : ℕ) → count_read ≡ taken n → Placed K (records_from c (drop 2 rest) n 0 0)
  records_place c e m q n j z =
      let h = all_passed (word16 rest 0) (count_checks rest) q in
      as_file_place K m (counted c (drop 2 rest)) (counted_place s (drop 2 rest) c e) n j (sym (records_are_batch c (drop 2 rest) m (omega (arith, leb-true (word16 rest 0) most_records h.0.1.0, h.1))) ∙ z)

  pub parts_place : Placed K (read_parts s rest)
  unfolding read_parts
  parts_place = placed_on K None (read_curve s) _ (curve-place s) (λ n j e h. absurd h) (λ c e.
      placed_on K K count_read (λ n. records_from c (drop 2 rest) n 0 0) count_place (λ n j e h. h) (λ n q. records_place c e n q))

pub read_place : (file out : List ℕ) → Stands (AtFault (curve_part (drop 9 file)) (drop 2 (behind_curve (drop 9 file)))) (read_file file out)
unfolding read_file
read_place file out = delivered_place 0 out K _ (placed_on K K (first_failed (head_checks file) (word32 file 5)) (λ pole. read_behind pole (drop 9 file)) head_place (λ n j e h. h) (λ pole q.
    placed_on K K (read_parts (curve_part (drop 9 file)) (behind_curve (drop 9 file))) (λ x. taken (both_parts pole (curve_part (drop 9 file)) (drop 2 (behind_curve (drop 9 file)))))
    (parts_place (curve_part (drop 9 file)) (behind_curve (drop 9 file))) (λ n j e h. h) (λ x q. placed_taken K _)))
  where
    K : ℕ → ℕ → Type 0
    K = AtFault (curve_part (drop 9 file)) (drop 2 (behind_curve (drop 9 file)))

    head_place : Placed K (first_failed (head_checks file) (word32 file 5))
    head_place n j q = refused_as (word32 file 5) (At K) (head_checks file)
        (elsewhere K (λ l u. omega arith) refl, (elsewhere K (λ l u. omega arith) refl, (elsewhere K (λ l u. omega arith) refl, tt))) q
