-- The pole file's theorems, of the rules `read_file` and `write_file` and of whatever keeps them. `answered w ≡ 0` says that a call answered 0, and `front w` is then what it left at the
-- front of its output. Reading and writing undo each other (`reads_what_was_written`, `writes_what_was_read`); a refusal changes nothing (`read_kept`, `write_kept`); a good file with bytes
-- behind it is 23 (`left_over`), so every cut of a good file is refused (`cut_refused`).
use Prim.Native.Nat.{ℕ, ◌≤◌, ◌<◌}
use mathlib.Core.Path.{◌≡◌, sym, ap, ap₂, ◌∙◌}
use mathlib.Core.Bool.{true}
use mathlib.Core.List.{List, ◌++◌, append_assoc}
use native.Mathlib.Omega.{arith}
use lib.ListN.{get_or, length, take, drop, length-append, length-drop, take-append-drop, get_or-append}
use lib.Seq.{drop-append-le}
use borrow.Author.Tests.{le-leb, eq-eqb}
use Rattle.rules.specs.Bytes.{word32}
use Rattle.rules.specs.Checks.{refused, taken, first_failed, go_on}
use Rattle.rules.specs.Records.{CurveRecord, version_of, read_curve}
use Rattle.rules.specs.Lists.{most_records}
use Rattle.rules.specs.Calls.{Result, put, stop, write, deliver, counted, check_batch}
use Rattle.rules.proofs.Calls.Tests.{taken_inj}
use Rattle.rules.proofs.Calls.Checks.{passed_all}
use Rattle.rules.proofs.Calls.Bytes.{AreBytes}
use Rattle.rules.proofs.Calls.Refusals.{Numbered, numbered_on, numbered_taken, on_taken, on_refused, curve_numbered}
use Rattle.rules.proofs.Calls.Places.{batch_numbered}
use Rattle.rules.proofs.Calls.Written.{front, front_is, only, answered, bare_put}
use Rattle.rules.proofs.Calls.Delivered.{Kept, refused_kept, delivered, came_on}
use Rattle.rules.specs.Pole.PoleFile.{word16, head_checks, is_pole_marked, curve_length, curve_part, behind_curve, count_checks, records_from, read_parts, both_parts, read_behind, read_file, file_bytes, write_file}
use Rattle.rules.proofs.Pole.Counted.{count_is}
use Rattle.rules.proofs.Pole.CurveParts.{curve_part_is, behind_is}
use Rattle.rules.proofs.Pole.Longer.{records_longer}
use Rattle.rules.proofs.Pole.Files.{file_read, Parts, parts_of, checked, file_made}

-- ---- a refusal changes nothing: length 0, the output as it was, and the pole 0
pub read_kept : (file out : List ℕ) → Kept 0 out (read_file file out)
unfolding read_file
read_kept file out = refused_kept 0 out (go_on (first_failed (head_checks file) (word32 file 5)) (λ pole. read_behind pole (drop 9 file)))

pub write_kept : (pole : ℕ) (s records out : List ℕ) → Kept tt out (write_file pole s records out)
unfolding write_file
write_kept pole s records out = refused_kept tt out (go_on (check_batch s records) (λ b. taken (only (file_bytes pole s b.count records))))

-- ---- a writer that answered 0: the curve and the batch were checked, and what stands at the front of its output is the file
module _ (pole : ℕ) (s records o : List ℕ) where
  batch_checked : Numbered (check_batch s records)
  unfolding check_batch
  batch_checked = numbered_on (read_curve s) (λ c. counted c records) (curve_numbered s) (λ c e. batch_numbered c (λ x d. x) records tt)

  pub record Wrote : Type 0 where
    pub count : ℕ
    pub checked : check_batch s records ≡ count_is count
    pub file : front (write_file pole s records o) ≡ file_bytes pole s count records

  pub wrote : answered (write_file pole s records o) ≡ 0 → Wrote
  unfolding write_file
  wrote z = let q = came_on tt o (check_batch s records) (λ b. taken (only (file_bytes pole s b.count records))) batch_checked z in
      record {
        count = q.0.count;
        checked = q.1;
        file = ap (λ x. front (deliver tt o x)) (on_taken (check_batch s records) (λ b. taken (only (file_bytes pole s b.count records))) q.1) ∙ front_is o (file_bytes pole s q.0.count records) q.2;
      }

  -- reading what was written gives pole, curve and records back
  pub reads_what_was_written : pole < 4294967296 → answered (write_file pole s records o) ≡ 0 → (out : List ℕ)
      → read_file (front (write_file pole s records o)) out ≡ put 0 out (both_parts pole s records)
  reads_what_was_written l z out = let w = wrote z in ap (λ (f : List ℕ). read_file f out) w.file ∙ file_read pole s records w.count l w.checked out

-- ---- the reader, by its parts
module _ (s rest : List ℕ) {c : CurveRecord} (ec : read_curve s ≡ taken c) (two : 2 ≤ length rest) (few : word16 rest 0 ≤ 4096) where
  pub parts_on : read_parts s rest ≡ records_from c (drop 2 rest) (word16 rest 0) 0 0
  unfolding read_parts
  parts_on = on_taken (read_curve s) (λ c. go_on (first_failed (count_checks rest) (word16 rest 0)) (λ n. records_from c (drop 2 rest) n 0 0)) ec
      ∙ on_taken (first_failed (count_checks rest) (word16 rest 0)) (λ n. records_from c (drop 2 rest) n 0 0)
      (passed_all (word16 rest 0) (count_checks rest) (le-leb 2 (length rest) two, (le-leb (word16 rest 0) most_records few, tt)))

module _ (file out : List ℕ) (long : 9 ≤ length file) (marked : is_pole_marked file ≡ true) (version : version_of file ≡ 1) where
  pub head_on : read_file file out ≡ deliver 0 out (read_behind (word32 file 5) (drop 9 file))
  unfolding read_file
  head_on = ap (deliver 0 out) (on_taken (first_failed (head_checks file) (word32 file 5)) (λ pole. read_behind pole (drop 9 file))
      (passed_all (word32 file 5) (head_checks file) (le-leb 9 (length file) long, (marked, (eq-eqb (version_of file) 1 version, tt)))))

-- what is put where there is room
put-own : {N : Type 0} (none : N) (out : List ℕ) (r : Result N) → answered (put none out r) ≡ 0 → (put none out r).own ≡ r.own
put-own none out r z = let d = delivered none out (taken r) (numbered_taken r) z in ap (λ w. w.own) d.reply ∙ ap (λ x. x.own) (sym (taken_inj d.is))

put_front : {N : Type 0} (none : N) (out : List ℕ) (r : Result N) → answered (put none out r) ≡ 0 → front (put none out r) ≡ r.bytes
put_front none out r z = ap front (bare_put none out r) ∙ front_is out r.bytes (sym (ap answered (bare_put none out r)) ∙ z)

-- ---- a reader that answered 0
module _ (file o : List ℕ) (z : answered (read_file file o) ≡ 0) where
  abbrev rest : List ℕ
  rest = drop 9 file

  abbrev s : List ℕ
  s = curve_part rest

  abbrev tail : List ℕ
  tail = behind_curve rest

  abbrev came : Result ℕ
  came = both_parts (word32 file 5) s (drop 2 tail)

  h : Parts file
  h = parts_of file o z

  -- what it answered and wrote: the pole, the curve record and the divisor records, of the file's own bytes
  pub read_as : (out : List ℕ) → read_file file out ≡ put 0 out came
  read_as out = head_on file out h.long h.marked h.version
      ∙ ap (deliver 0 out) (on_taken (read_parts s tail) (λ x. taken came) (parts_on s tail h.curve h.counts h.few ∙ h.records))

  pub read_pole : (read_file file o).own ≡ word32 file 5
  read_pole = ap (λ w. w.own) (read_as o) ∙ put-own 0 o came (sym (ap answered (read_as o)) ∙ z)

  pub read_front : front (read_file file o) ≡ s ++ drop 2 tail
  read_front = ap front (read_as o) ∙ put_front 0 o came (sym (ap answered (read_as o)) ∙ z)

  writes : (out : List ℕ) → write_file (word32 file 5) s (drop 2 tail) out ≡ write out (file_bytes (word32 file 5) s (word16 tail 0) (drop 2 tail))
  unfolding write_file
  writes out = ap (deliver tt out) (on_taken (check_batch s (drop 2 tail)) (λ b. taken (only (file_bytes (word32 file 5) s b.count (drop 2 tail)))) (checked file h))

  -- writing what was read gives the file back, byte for byte: of what the reader wrote, the curve record ends where it says
  pub writes_what_was_read : AreBytes file → (out : List ℕ)
      → write_file (read_file file o).own (curve_part (front (read_file file o))) (behind_curve (front (read_file file o))) out ≡ write out file
  writes_what_was_read bytes out =
      ap₂ (λ (p : ℕ) (l : List ℕ). write_file p (curve_part l) (behind_curve l) out) read_pole read_front
      ∙ ap₂ (λ (x y : List ℕ). write_file (word32 file 5) x y out) (curve_part_is s h.curve (drop 2 tail)) (behind_is s h.curve (drop 2 tail))
      ∙ writes out ∙ ap (write out) (file_made file h bytes)

  -- bytes behind a good file are 23
  module _ (more : List ℕ) (l : 0 < length more) (out : List ℕ) where
    same : (i : ℕ) → i < 9 → get_or (file ++ more) i 0 ≡ get_or file i 0
    same i u = get_or-append file more 0 i (omega (arith, h.long))

    still_marked : is_pole_marked (file ++ more) ≡ true
    still_marked = rw (same 0 (omega arith), same 1 (omega arith), same 2 (omega arith)) h.marked

    same_tail : (i : ℕ) → i < 2 → get_or (tail ++ more) i 0 ≡ get_or tail i 0
    same_tail i u = get_or-append tail more 0 i (omega (arith, h.counts))

    same_count : word16 (tail ++ more) 0 ≡ word16 tail 0
    same_count = omega (arith, same_tail 0 (omega arith), same_tail 1 (omega arith))

    behind_longer : drop 9 (file ++ more) ≡ s ++ (tail ++ more)
    behind_longer = drop-append-le 9 file more h.long ∙ ap (λ (x : List ℕ). x ++ more) (sym (take-append-drop (curve_length rest) rest)) ∙ append_assoc s tail more

    parts_longer : read_parts s (tail ++ more) ≡ refused 23 0
    parts_longer = parts_on s (tail ++ more) h.curve (omega (arith, h.counts, length-append tail more)) (omega (arith, h.few, same_count))
        ∙ ap₂ (λ (x : List ℕ) (n : ℕ). records_from h.c x n 0 0) (drop-append-le 2 tail more h.counts) same_count
        ∙ records_longer h.c (drop 2 tail) more l (word16 tail 0) h.records

    pub left_over : read_file (file ++ more) out ≡ stop 0 out 23 0
    left_over = head_on (file ++ more) out (omega (arith, h.long, length-append file more)) still_marked (omega (arith, h.version, same 3 (omega arith), same 4 (omega arith)))
        ∙ ap (λ (x : List ℕ). deliver 0 out (read_behind (word32 (file ++ more) 5) x)) behind_longer
        ∙ ap₂ (λ (x y : List ℕ). deliver 0 out (go_on (read_parts x y) (λ z. taken (both_parts (word32 (file ++ more) 5) x (drop 2 y))))) (curve_part_is s h.curve (tail ++ more)) (behind_is s h.curve (tail ++ more))
        ∙ ap (deliver 0 out) (on_refused (read_parts s (tail ++ more)) (λ z. taken (both_parts (word32 (file ++ more) 5) s (drop 2 (tail ++ more)))) parts_longer)

-- so every cut of a good file is refused
pub cut_refused : (file o : List ℕ) → answered (read_file file o) ≡ 0 → (n : ℕ) → n < length file → (out : List ℕ) → answered (read_file (take n file) out) ≡ 0 → ⊥
cut_refused file o z n l out y =
    let e = left_over (take n file) out y (drop n file) (omega (arith, length-drop n file)) o in
    let q : ◌≡◌ {A = ℕ} 0 23 = sym z ∙ ap (λ (f : List ℕ). answered (read_file f o)) (sym (take-append-drop n file)) ∙ ap answered e in
    omega arith
