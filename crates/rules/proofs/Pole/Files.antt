-- What a file is: exactly the head, a curve record, a count and a batch that were checked. Gives: such a file is read as its parts (`file_read`); a file that is read is so made (`parts_of`),
-- byte for byte (`file_made`).
use Prim.Native.Nat.{ℕ, suc, ◌+◌, ◌*◌, ◌/◌, ◌%◌, ◌≤◌, ◌<◌}
use mathlib.Core.Path.{◌≡◌, refl, sym, ap, ap₂, ◌∙◌}
use mathlib.Core.Bool.{Bool, true, false}
use mathlib.Core.List.{List, [], ◌∷◌, ◌++◌}
use native.Mathlib.Omega.{arith}
use lib.Dec.{eqb, ltb}
use lib.ListN.{get_or, length, drop, take-append-drop}
use lib.Seq.{get_or-drop}
use borrow.Author.Tests.{le-leb, leb-true, eqb-true}
use Rattle.rules.specs.Bytes.{word32}
use Rattle.rules.specs.Checks.{Checked, refused, taken, choose, first_failed, go_on}
use Rattle.rules.specs.Records.{either, CurveRecord, version_of, read_curve}
use Rattle.rules.specs.Lists.{Batch}
use Rattle.rules.specs.Calls.{put, deliver, counted, check_batch}
use Rattle.rules.proofs.Calls.Tests.{refused_taken, taken_inj, passed, both_true}
use Rattle.rules.proofs.Calls.Checks.{all_passed, passed_all, refused_as}
use Rattle.rules.proofs.Calls.Bytes.{AreBytes, one_off}
use Rattle.rules.proofs.Calls.Batches.{batch_made, batch_is}
use Rattle.rules.proofs.Calls.Refusals.{Numbered, numbered_on, numbered_taken, went_on, on_taken}
use Rattle.rules.proofs.Calls.Delivered.{delivered}
use Rattle.rules.specs.Pole.PoleFile.{word16, bytes16, bytes32, head_bytes, head_checks, is_pole_marked, curve_length, curve_part, behind_curve, records_from, read_parts, both_parts, read_behind, read_file, file_bytes}
use Rattle.rules.proofs.Pole.Counted.{as_file, count_is, same_count, parts_are_batch, parts_taken, records_are_batch}
use Rattle.rules.proofs.Pole.CurveParts.{curve_part_is, behind_is}
use Rattle.rules.proofs.Pole.Longer.{parts_numbered}

-- ---- numbers of two and four bytes
pub word16-bytes : (x : ℕ) (r : List ℕ) → x < 65536 → word16 (bytes16 x ++ r) 0 ≡ x
word16-bytes x r h = omega arith

pub word32-bytes : (x : ℕ) → x < 4294967296 → ((x / 16777216 % 256 * 256 + x / 65536 % 256) * 256 + x / 256 % 256) * 256 + x % 256 ≡ x
word32-bytes x h = digits x (x / 256) (x / 65536) (x / 16777216) (x % 256) (x / 256 % 256) (x / 65536 % 256) (x / 16777216 % 256) (omega arith) (omega arith) (omega arith) (omega arith)
  where
    digits : (q0 q1 q2 q3 r0 r1 r2 r3 : ℕ) → q1 * 256 + r0 ≡ q0 → q2 * 256 + r1 ≡ q1 → q3 * 256 + r2 ≡ q2 → r3 ≡ q3 → ((r3 * 256 + r2) * 256 + r1) * 256 + r0 ≡ q0
    digits q0 q1 q2 q3 r0 r1 r2 r3 e0 e1 e2 e3 = omega arith

-- ---- a batch that was counted has at most 4,096 records
pub counted-few : (c : CurveRecord) (records : List ℕ) {n : ℕ} → counted c records ≡ count_is n → n ≤ 4096
counted-few c records {n} e =
    let m = batch_made c (λ x d. x) records tt e in
    let q : Batch (Unit {0}) = record { result = tt; count = n } in
    let i = ap (λ (b : Batch (Unit {0})). b.count) (taken_inj (sym e ∙ batch_is c (λ x d. x) records tt m)) in
    omega (arith, m.few, i)

-- ---- reading what is made of a pole, a curve record and a batch
module _ (pole : ℕ) (s records : List ℕ) (n : ℕ) (small : pole < 4294967296) (h : check_batch s records ≡ count_is n) where
  abbrev file : List ℕ
  file = file_bytes pole s n records

  curve_taken : (c : CurveRecord) × (read_curve s ≡ taken c) × (counted c records ≡ count_is n)
  unfolding check_batch
  curve_taken = went_on (read_curve s) (λ c. counted c records) h

  few : n ≤ 4096
  few = counted-few curve_taken.0 records curve_taken.2

  head_is : first_failed (head_checks file) (word32 file 5) ≡ taken pole
  head_is = passed_all (word32 file 5) (head_checks file) (le-leb 9 (length file) (omega arith), (refl, (refl, tt))) ∙ ap taken (word32-bytes pole small)

  parts_are : read_parts s (bytes16 n ++ records) ≡ taken tt
  parts_are = parts_are_batch s (bytes16 n ++ records) (omega arith) (omega (arith, few, word16-bytes n records (omega (arith, few))))
      ∙ ap (λ (k : ℕ). as_file k (check_batch s records)) (word16-bytes n records (omega (arith, few))) ∙ ap (as_file n) h ∙ same_count n n refl

  behind : read_behind pole (s ++ (bytes16 n ++ records)) ≡ taken (both_parts pole s records)
  behind = let e = curve_taken.1 in
      ap₂ (λ (x y : List ℕ). go_on (read_parts x y) (λ z. taken (both_parts pole x (drop 2 y)))) (curve_part_is s e (bytes16 n ++ records)) (behind_is s e (bytes16 n ++ records))
      ∙ on_taken (read_parts s (bytes16 n ++ records)) (λ z. taken (both_parts pole s records)) parts_are

  pub file_read : (out : List ℕ) → read_file file out ≡ put 0 out (both_parts pole s records)
  unfolding read_file
  file_read out = ap (deliver 0 out) (on_taken _ (λ p. read_behind p (drop 9 file)) head_is ∙ behind)

-- ---- bytes of a number, and back
pub bytes16-word : (b0 b1 : ℕ) → b0 < 256 → b1 < 256 → bytes16 (b0 * 256 + b1) ≡ b0 ∷ b1 ∷ []
bytes16-word b0 b1 h0 h1 = ap₂ ◌∷◌ (omega arith) (ap₂ ◌∷◌ (omega arith) refl)

pub bytes32-word : (b0 b1 b2 b3 : ℕ) → b0 < 256 → b1 < 256 → b2 < 256 → b3 < 256 → bytes32 (((b0 * 256 + b1) * 256 + b2) * 256 + b3) ≡ b0 ∷ b1 ∷ b2 ∷ b3 ∷ []
bytes32-word b0 b1 b2 b3 h0 h1 h2 h3 = ap₂ ◌∷◌ (omega arith) (ap₂ ◌∷◌ (omega arith) (ap₂ ◌∷◌ (omega arith) (ap₂ ◌∷◌ (omega arith) refl)))

-- what a file takes is a batch of so many records
as_file_taken : (n : ℕ) (x : Checked (Batch (Unit {0}))) → as_file n x ≡ taken tt → x ≡ count_is n
as_file_taken n (refused m j) e = go (either (eqb m 8) (either (eqb m 14) (ltb n j))) e
  where
    go : (b : Bool) → ◌≡◌ {A = Checked (Unit {0})} (choose b (refused 23 0) (refused m j)) (taken tt) → refused m j ≡ count_is n
    go true e = absurd (refused_taken e)
    go false e = absurd (refused_taken e)
as_file_taken n (taken b) e = let t = passed (eqb b.count n) (taken tt) 23 0 e in ap count_is (eqb-true _ _ t.0)

-- ---- a file that is read
module _ (file : List ℕ) where
  abbrev rest : List ℕ
  rest = drop 9 file

  abbrev tail : List ℕ
  tail = behind_curve rest

  -- its parts
  pub record Parts : Type 0 where
    pub long : 9 ≤ length file
    pub marked : is_pole_marked file ≡ true
    pub version : version_of file ≡ 1
    pub c : CurveRecord
    pub curve : read_curve (curve_part rest) ≡ taken c
    pub counts : 2 ≤ length tail
    pub few : word16 tail 0 ≤ 4096
    pub records : records_from c (drop 2 tail) (word16 tail 0) 0 0 ≡ taken tt

  abbrev head : Checked ℕ
  head = first_failed (head_checks file) (word32 file 5)

  file_numbered : Numbered (go_on head (λ pole. read_behind pole rest))
  file_numbered = numbered_on head _ (λ n k e. refused_as (word32 file 5) (λ n k. 0 < n) (head_checks file) (omega arith, (omega arith, (omega arith, tt))) e)
      (λ pole e. numbered_on (read_parts (curve_part rest) tail) _ (parts_numbered (curve_part rest) tail) (λ x q. numbered_taken _))

  pub parts_of : (out : List ℕ) → (read_file file out).answer.number ≡ 0 → Parts
  unfolding read_file
  parts_of out z =
      let d = delivered 0 out (go_on head (λ pole. read_behind pole rest)) file_numbered z in
      let h = went_on head (λ pole. read_behind pole rest) d.is in
      let k = all_passed (word32 file 5) (head_checks file) h.1 in
      let q = went_on (read_parts (curve_part rest) tail) _ h.2 in
      let t = parts_taken (curve_part rest) tail q.1 in
      record { long = leb-true _ _ k.0.0; marked = k.0.1.0; version = eqb-true _ _ k.0.1.1.0; c = t.0; curve = t.1; counts = t.2; few = t.3; records = t.4 }

  module _ (h : Parts) where
    -- and what was counted
    pub checked : check_batch (curve_part rest) (drop 2 tail) ≡ count_is (word16 tail 0)
    unfolding check_batch
    checked = on_taken (read_curve (curve_part rest)) (λ c. counted c (drop 2 tail)) h.curve
        ∙ as_file_taken (word16 tail 0) (counted h.c (drop 2 tail)) (sym (records_are_batch h.c (drop 2 tail) (word16 tail 0) h.few) ∙ h.records)

    module _ (bytes : AreBytes file) where
      -- byte for byte
      nine : file ≡ get_or file 0 0 ∷ get_or file 1 0 ∷ get_or file 2 0 ∷ get_or file 3 0 ∷ get_or file 4 0 ∷ get_or file 5 0 ∷ get_or file 6 0 ∷ get_or file 7 0 ∷ get_or file 8 0 ∷ rest
      nine = off 0 1 refl (omega arith) ∙ ap (◌∷◌ (get_or file 0 0)) (off 1 2 refl (omega arith) ∙ ap (◌∷◌ (get_or file 1 0)) (off 2 3 refl (omega arith) ∙ ap (◌∷◌ (get_or file 2 0))
          (off 3 4 refl (omega arith) ∙ ap (◌∷◌ (get_or file 3 0)) (off 4 5 refl (omega arith) ∙ ap (◌∷◌ (get_or file 4 0)) (off 5 6 refl (omega arith) ∙ ap (◌∷◌ (get_or file 5 0))
          (off 6 7 refl (omega arith) ∙ ap (◌∷◌ (get_or file 6 0)) (off 7 8 refl (omega arith) ∙ ap (◌∷◌ (get_or file 7 0)) (off 8 9 refl (omega arith)))))))))
        where
          off : (a b : ℕ) → suc a ≡ b → a < 9 → drop a file ≡ get_or file a 0 ∷ drop b file
          off a b e l = one_off file a b e (omega (arith, h.long))

      head_made : file ≡ head_bytes (word32 file 5) ++ rest
      head_made =
          let m = both_true _ _ h.marked in
          let k = both_true _ _ m.1 in
          nine ∙ ap₂ ◌∷◌ (eqb-true _ _ m.0) (ap₂ ◌∷◌ (eqb-true _ _ k.0) (ap₂ ◌∷◌ (eqb-true _ _ k.1) (
          ap₂ ◌∷◌ (omega (arith, h.version, bytes 4)) (ap₂ ◌∷◌ (omega (arith, h.version, bytes 4))
          (ap (λ (l : List ℕ). l ++ rest) (sym (bytes32-word (get_or file 5 0) (get_or file 6 0) (get_or file 7 0) (get_or file 8 0) (bytes 5) (bytes 6) (bytes 7) (bytes 8))))))))

      tail_bytes : (i : ℕ) → get_or tail i 0 < 256
      tail_bytes i = rw (get_or-drop, get_or-drop) (bytes (9 + (curve_length rest + i)))

      tail_made : tail ≡ bytes16 (word16 tail 0) ++ drop 2 tail
      tail_made = one_off tail 0 1 refl (omega (arith, h.counts)) ∙ ap (◌∷◌ (get_or tail 0 0)) (one_off tail 1 2 refl (omega (arith, h.counts)))
          ∙ ap (λ (l : List ℕ). l ++ drop 2 tail) (sym (bytes16-word (get_or tail 0 0) (get_or tail 1 0) (tail_bytes 0) (tail_bytes 1)))

      pub file_made : file_bytes (word32 file 5) (curve_part rest) (word16 tail 0) (drop 2 tail) ≡ file
      file_made = ap (λ (y : List ℕ). head_bytes (word32 file 5) ++ (curve_part rest ++ y)) (sym tail_made)
          ∙ ap (◌++◌ (head_bytes (word32 file 5))) (take-append-drop (curve_length rest) rest) ∙ sym head_made
