-- The reader's own numbers, in mathematical words: 21 exactly where the mark isn't HJP (`read_21`), 22 exactly where the version isn't 1 (`read_22`), and 23 exactly where the file is shorter than 9 bytes, its count isn't there or is over 4,096, or its records are fewer or more
-- than that count (`read_23`), each time the earlier checks passing.
-- Open: all that is asked.
use Prim.Native.Nat.{ℕ, ◌≤◌, ◌<◌}
use mathlib.Core.Path.{◌≡◌, refl, sym, ap, ◌∙◌}
use mathlib.Core.List.{List, [], ◌∷◌}
use mathlib.Core.Logic.{◌↔◌, ◌⊎◌, inl, inr}
use native.Mathlib.Omega.{arith}
use lib.Dec.{leb}
use lib.ListN.{get_or, length, drop}
use Rattle.rules.specs.Bytes.{word32}
use Rattle.rules.specs.Checks.{Checked, refused, taken, Check, first_failed, go_on}
use Rattle.rules.specs.Records.{both, CurveRecord, version_of, read_curve}
use Rattle.rules.specs.Lists.{most_records}
use Rattle.rules.specs.Calls.{Result}
use Rattle.rules.proofs.Calls.Checks.{refused_as}
use Rattle.rules.proofs.Calls.Refusals.{on_on, curve-refused}
use Rattle.rules.proofs.Calls.Written.{answered}
use Rattle.rules.proofs.Calls.Given.{◌and◌, Ask, ask, Given, Decides, always, given-some, joined}
use Rattle.rules.proofs.Calls.Decided.{both_decides, eq_decides, le_decides}
use Rattle.rules.proofs.Calls.Reached.{TookCurve, through, second, right, took_as, Says, says_as, reached, refused_here, checks_staged, put_says}
use Rattle.rules.proofs.Exactly.Batches.{GoesOn}
use Rattle.rules.specs.Pole.PoleFile.{word16, head_checks, curve_part, behind_curve, count_checks, records_from, both_parts, read_parts, read_behind, read_file}
use Rattle.rules.proofs.Pole.Misfits.{CutShort, records_number, records_23}

-- ---- what is asked of the head, and of the count behind the curve
module _ (file : List ℕ) where
  abbrev pub PoleMarked : Type 0
  PoleMarked = (get_or file 0 0 ≡ 72) × ((get_or file 1 0 ≡ 74) × (get_or file 2 0 ≡ 80))

  abbrev head_asks : List Ask
  head_asks = ask (9 ≤ length file) 23 ∷ ask PoleMarked 21 ∷ ask (version_of file ≡ 1) 22 ∷ []

  head_decides : Decides (always 0) (head_checks file) head_asks
  head_decides = (le_decides _ _, refl, refl, λ l. (both_decides _ _ (eq_decides _ _) (both_decides _ _ (eq_decides _ _) (eq_decides _ _)), refl, refl, λ m. (eq_decides _ _, refl, refl, λ v. tt)))

-- the count is there, and at most 4,096
abbrev pub Counted : List ℕ → Type 0
Counted tail = (2 ≤ length tail) × (word16 tail 0 ≤ 4096)

abbrev count_asks : List ℕ → List Ask
count_asks tail = ask (Counted tail) 23 ∷ []

abbrev count_check : List ℕ → List Check
count_check tail = (both (leb 2 (length tail)) (leb (word16 tail 0) most_records), 23, 0) ∷ []

count_decides : (tail : List ℕ) → Decides (always 0) (count_check tail) (count_asks tail)
count_decides tail = (both_decides _ _ (le_decides _ _) (le_decides _ _), refl, refl, λ l. tt)

-- ---- behind the head: the curve, the count, the records
module _ (rest : List ℕ) where
  abbrev pub tail_of : List ℕ
  tail_of = behind_curve rest

  abbrev pub records_of : List ℕ
  records_of = drop 2 tail_of

  abbrev count_read : Checked ℕ
  count_read = first_failed (count_checks tail_of) (word16 tail_of 0)

  -- 23, or a number of the curve or of a record
  parts_number : {n k : ℕ} → read_parts (curve_part rest) tail_of ≡ refused n k → (n ≡ 23) ⊎ (n ≤ 18)
  unfolding read_parts
  parts_number {n} {k} e = of_curve (read_curve (curve_part rest)) refl e
    where
      of_records : (c : CurveRecord) (m : ℕ) → (n ≡ 23) ⊎ (n ≤ 11) → (n ≡ 23) ⊎ (n ≤ 18)
      of_records c m (inl z) = inl z
      of_records c m (inr l) = inr (omega (arith, l))

      of_count : (c : CurveRecord) (x : Checked ℕ) → count_read ≡ x → go_on x (λ n. records_from c records_of n 0 0) ≡ refused n k → (n ≡ 23) ⊎ (n ≤ 18)
      of_count c (refused m j) q e = let z : m ≡ n = cc in inl (sym z ∙ refused_as (word16 tail_of 0) (λ n k. n ≡ 23) (count_checks tail_of) (refl, (refl, tt)) q)
      of_count c (taken m) q e = of_records c m (records_number c records_of m 0 0 e)

      of_curve : (x : Checked CurveRecord) → read_curve (curve_part rest) ≡ x → go_on x (λ c. go_on count_read (λ n. records_from c records_of n 0 0)) ≡ refused n k → (n ≡ 23) ⊎ (n ≤ 18)
      of_curve (refused m j) q e = let z : m ≡ n = cc in inr (omega (arith, z, (curve-refused (curve_part rest) q).most))
      of_curve (taken c) q e = of_count c count_read refl e

  -- fewer or more bytes than the count says
  abbrev pub Misfit : CurveRecord → Type 0
  Misfit c = CutShort c (word16 tail_of 0) records_of ⊎ GoesOn c (word16 tail_of 0) records_of

  module _ (out : List ℕ) (pole : ℕ) where
    abbrev parts : Unit {0} → Checked (Result ℕ)
    parts x = taken (both_parts pole (curve_part rest) records_of)

    abbrev counted : CurveRecord → Checked (Unit {0})
    counted c = go_on count_read (λ n. records_from c records_of n 0 0)

    on_curve : Says 0 out 23 (read_behind pole rest) ↔ TookCurve (curve_part rest) (λ c. Says 0 out 23 (go_on (counted c) parts))
    unfolding read_parts
    on_curve = through (says_as 0 out 23 (on_on (read_curve (curve_part rest)) counted parts))
        (reached 0 out 23 (read_curve (curve_part rest)) (λ c. go_on (counted c) parts) (λ k e. omega (arith, (curve-refused (curve_part rest) e).most)))

    on_count : (c : CurveRecord) → Says 0 out 23 (go_on (counted c) parts) ↔ ((¬ Counted tail_of) ⊎ (Counted tail_of and Misfit c))
    on_count c = through (says_as 0 out 23 (on_on count_read (λ n. records_from c records_of n 0 0) parts ∙ ap (λ x. go_on x on_records) (joined (word16 tail_of 0) (leb 2 (length tail_of)) (leb (word16 tail_of 0) most_records) 23 0 [])))
        (through (checks_staged 0 out 23 (always 0) (count_check tail_of) (count_asks tail_of) (word16 tail_of 0) on_records (count_decides tail_of))
        (right (second (through (refused_here 0 out 23 (records_from c records_of (word16 tail_of 0) 0 0) parts (λ x q. put_says 0 out 23 (λ e. omega arith) (λ e. omega arith) (both_parts pole (curve_part rest) records_of)))
        (records_23 c records_of (word16 tail_of 0))))))
      where
        on_records : ℕ → Checked (Result ℕ)
        on_records n = go_on (records_from c records_of n 0 0) parts

    -- neither 21 nor 22 comes later than the head
    pub not_later : (n : ℕ) → 18 < n → n < 23 → Says 0 out n (read_behind pole rest) → ⊥
    not_later n l u e = go ((refused_here 0 out n (read_parts (curve_part rest) tail_of) parts (λ x q. put_says 0 out n (λ e. omega (arith, l, e)) (λ e. omega (arith, l, e)) (both_parts pole (curve_part rest) records_of))).0 e)
      where
        which : (n ≡ 23) ⊎ (n ≤ 18) → ⊥
        which (inl z) = omega (arith, z, u)
        which (inr z) = omega (arith, z, l)

        go : ((k : ℕ) × (read_parts (curve_part rest) tail_of ≡ refused n k)) → ⊥
        go (k, q) = which (parts_number q)

-- ---- the numbers
module _ (file out : List ℕ) where
  abbrev behind : ℕ → Checked (Result ℕ)
  behind pole = read_behind pole (drop 9 file)

  of_head : (n : ℕ) → 18 < n → n < 23 → (answered (read_file file out) ≡ n) ↔ Given n (head_asks file)
  unfolding read_file
  of_head n l u = through (refused_here 0 out n (first_failed (head_checks file) (word32 file 5)) behind (λ pole q. not_later (drop 9 file) out pole n l u))
      (given-some (word32 file 5) (always 0) n (head_checks file) (head_asks file) (head_decides file))

  pub read_21 : (answered (read_file file out) ≡ 21) ↔ ((9 ≤ length file) and ¬ PoleMarked file)
  read_21 = of_head 21 (omega arith) (omega arith)

  pub read_22 : (answered (read_file file out) ≡ 22) ↔ ((9 ≤ length file) and PoleMarked file and ¬ (version_of file ≡ 1))
  read_22 = of_head 22 (omega arith) (omega arith)

  pub read_23 : (answered (read_file file out) ≡ 23) ↔ ((¬ (9 ≤ length file)) ⊎ (((9 ≤ length file) and PoleMarked file and (version_of file ≡ 1))
      and TookCurve (curve_part (drop 9 file)) (λ c. (¬ Counted (tail_of (drop 9 file))) ⊎ (Counted (tail_of (drop 9 file)) and Misfit (drop 9 file) c))))
  unfolding read_file
  read_23 = through (checks_staged 0 out 23 (always 0) (head_checks file) (head_asks file) (word32 file 5) behind (head_decides file))
      (right (second (through (on_curve (drop 9 file) out (word32 file 5)) (took_as (curve_part (drop 9 file)) (λ c e. on_count (drop 9 file) out (word32 file 5) c)))))
