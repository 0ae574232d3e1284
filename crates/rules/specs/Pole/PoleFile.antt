-- Document 02, W-209, the pole file: the mark HJP, a 16-bit version 1, the pole's number in 4 bytes, a curve record, a 16-bit count up to 4,096, then so many divisor records.
-- What it is read as, a check a line in the ticket's order, and what it is written as. The curve and the divisors are read as the rules below have it; here are the numbers 21 to 23.
use Prim.Native.Nat.{ℕ, zero, suc, ◌+◌, ◌*◌, ◌/◌, ◌%◌}
use Rattle.std.specs.Prelude.{List, [], ◌∷◌, ◌++◌, Bool, eqb, leb, length, take, drop}
use Rattle.std.proofs.Math.Bool.{false}
use Rattle.std.proofs.Math.ListN.{get_or}
use Rattle.rules.specs.Bytes.{word32}
use Rattle.rules.specs.Checks.{Checked, refused, taken, choose, Check, first_failed, go_on}
use Rattle.rules.specs.Records.{both, CurveRecord, version_of, count_of, read_curve, divisor_at}
use Rattle.rules.specs.Lists.{most_records}
use Rattle.rules.specs.Calls.{Result, Reply, deliver, check_batch}

-- ---- numbers of two and of four bytes
abbrev pub word16 : List ℕ → ℕ → ℕ
word16 s a = get_or s a 0 * 256 + get_or s (a + 1) 0

abbrev pub bytes16 : ℕ → List ℕ
bytes16 x = x / 256 % 256 ∷ x % 256 ∷ []

abbrev pub bytes32 : ℕ → List ℕ
bytes32 x = x / 16777216 % 256 ∷ x / 65536 % 256 ∷ x / 256 % 256 ∷ x % 256 ∷ []

-- ---- the head: mark, version and pole, nine bytes
abbrev pub pole_mark : List ℕ
pole_mark = 72 ∷ 74 ∷ 80 ∷ []

abbrev pub pole_version : ℕ
pole_version = 1

abbrev pub is_pole_marked : List ℕ → Bool
is_pole_marked s = both (eqb (get_or s 0 0) (get_or pole_mark 0 0)) (both (eqb (get_or s 1 0) (get_or pole_mark 1 0)) (eqb (get_or s 2 0) (get_or pole_mark 2 0)))

abbrev pub head_checks : List ℕ → List Check
head_checks file =
    (leb 9 (length file), 23, 0) ∷
    (is_pole_marked file, 21, 0) ∷
    (eqb (version_of file) pole_version, 22, 0) ∷
    []

abbrev pub head_bytes : ℕ → List ℕ
head_bytes pole = pole_mark ++ (bytes16 pole_version ++ bytes32 pole)

-- ---- the curve record that the bytes begin with: it ends where its g says and, in version 2, its k; one cut short is all that is left
unfoldable pub curve_length : List ℕ → ℕ
curve_length s = choose (eqb (version_of s) 1) (22 + 16 * get_or s 5 0) (31 + 16 * get_or s 5 0 + 8 * count_of s)

abbrev pub curve_part : List ℕ → List ℕ
curve_part s = take (curve_length s) s

abbrev pub behind_curve : List ℕ → List ℕ
behind_curve s = drop (curve_length s) s

-- ---- the count
abbrev pub count_checks : List ℕ → List Check
count_checks s =
    (leb 2 (length s), 23, 0) ∷
    (leb (word16 s 0) most_records, 23, 0) ∷
    []

-- ---- the records: one that is missing or cut short, 8 in a batch, is 23 here
abbrev pub or_cut : {A : Type 0} → Checked A → Checked A
or_cut x = elim x [ refused n k ↦ choose (eqb n 8) (refused 23 0) (refused n k) | taken a ↦ taken a ]

-- `left` records from byte a on, k stand before it; then 23 for bytes left over
module _ (c : CurveRecord) (s : List ℕ) where
  unfoldable pub records_from : ℕ → ℕ → ℕ → Checked (Unit {0})
  unfolding divisor_at
  records_from zero a k = first_failed ((leb (length s) a, 23, 0) ∷ []) tt
  records_from (suc left) a k = go_on (or_cut (divisor_at c (k + 1) false s a)) (λ d. records_from left (a + 1 + 16 * get_or s a 0) (k + 1))

-- ---- the reader: the curve, the count, the records; it answers the pole, and writes the curve record and then the divisor records
unfoldable pub read_parts : List ℕ → List ℕ → Checked (Unit {0})
unfolding read_curve records_from
read_parts s rest =
    go_on (read_curve s) (λ c.
    go_on (first_failed (count_checks rest) (word16 rest 0)) (λ n.
    records_from c (drop 2 rest) n 0 0))

abbrev pub both_parts : ℕ → List ℕ → List ℕ → Result ℕ
both_parts pole s records = record { bytes = s ++ records; own = pole }

abbrev pub read_behind : ℕ → List ℕ → Checked (Result ℕ)
read_behind pole s = go_on (read_parts (curve_part s) (behind_curve s)) (λ x. taken (both_parts pole (curve_part s) (drop 2 (behind_curve s))))

unfoldable pub read_file : List ℕ → List ℕ → Reply ℕ
unfolding curve_length read_parts
read_file file out = deliver 0 out (
    go_on (first_failed (head_checks file) (word32 file 5)) (λ pole.
    read_behind pole (drop 9 file)))

-- ---- the writer: the curve and the batch checked as every call does
abbrev pub file_bytes : ℕ → List ℕ → ℕ → List ℕ → List ℕ
file_bytes pole s count records = head_bytes pole ++ (s ++ (bytes16 count ++ records))

unfoldable pub write_file : ℕ → List ℕ → List ℕ → List ℕ → Reply (Unit {0})
unfolding check_batch
write_file pole s records out = deliver tt out (go_on (check_batch s records) (λ b. taken (record { bytes = file_bytes pole s b.count records; own = tt })))
