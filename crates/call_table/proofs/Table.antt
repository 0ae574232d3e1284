-- Document 01, "Numbers the tablet shows", and document 02's numbers: the table "Given exactly when", row by row, as one theorem in mathematical words. `A and B and ¬ C` reads: A and B are so, which are asked before, and C isn't so.
-- A number that many calls can give is said of what gives it, whichever call reads it: a curve record s (`read_curve`), a divisor record from byte a of s on (`divisor_at`: the k-th, alone where `whole` is true, else in a batch), a running total (`resume`), a batch.
-- That a call answers it exactly there, what it reads before being taken, is `in_order`, of every call at once: a call's rule is `deliver` of one reading after another. A number that one call gives is said of that call: `TookCurve s P` says that the curve was
-- taken, as c, and P of it; `TookBoth s a P` that then the divisor record was, as x, and P of both. What is asked is written out in rules/proofs: Exactly/ (curves, divisors), Calls/Decided (`Marked`, `Witness`, `Whole`), Calls/Orders (`Ordered`), Calls/SplitRoots
-- (`NoSplit`), Census/Census (`Last`), Calls/Batches and Exactly/Batches (`MadeOf`, `GoesOn`), Pole/Misfits (`CutShort`), and in text_lines/proofs/Rule/FileNumbers (`Readable`, `Short`).
use Prim.Native.Nat.{ℕ, ◌≤◌, ◌<◌}
use mathlib.Core.Path.{◌≡◌, sym, ap, subst}
use mathlib.Core.List.{List}
use mathlib.Core.Bool.{Bool}
use mathlib.Core.Logic.{◌↔◌, ◌⊎◌}
use lib.ListN.{length, drop}
use Rattle.rules.specs.Bytes.{number, word32}
use Rattle.rules.specs.Curve.{SquareFree}
use Rattle.rules.specs.Pair.{neutral}
use Rattle.rules.specs.Multiple.{multiple}
use Rattle.rules.specs.Checks.{Checked, refused, taken, go_on}
use Rattle.rules.specs.Records.{CurveRecord, curve, PairOf, made_of, version_of, curve_of, read_curve, us_at, vs_at, divisor_at, read_divisor}
use Rattle.rules.specs.Lists.{Batch, batch}
use Rattle.rules.specs.Calls.{Result, deliver, multiply_call, check_order, split_call, next_call, Running, resume, scan_call}
use Rattle.rules.proofs.Calls.Written.{answered}
use Rattle.rules.proofs.Calls.Tests.{taken_inj}
use Rattle.rules.proofs.Calls.Refusals.{numbered_taken}
use Rattle.rules.proofs.Calls.Delivered.{put_room, put_short, delivered}
use Rattle.rules.proofs.Calls.Given.{◌and◌}
use Rattle.rules.proofs.Calls.Decided.{Marked, Whole}
use Rattle.rules.proofs.Calls.Reached.{TookCurve, TookBoth, staged}
use Rattle.rules.proofs.Calls.Batches.{MadeOf}
use Rattle.rules.proofs.Calls.Keys.{long_scalar, empty_key}
use Rattle.rules.proofs.Calls.Orders.{Ordered, order_12, order_27}
use Rattle.rules.proofs.Calls.SplitRoots.{NoSplit}
use Rattle.rules.proofs.Calls.Splits.{split_26}
use Rattle.rules.proofs.Calls.Next.{next_given_24, next_given_25}
use Rattle.rules.proofs.Census.Census.{Last}
use Rattle.rules.proofs.Exactly.Curves.{Six, Versioned, Genus, ToCount, Count, Long, Odd, Witnessed, Below, curve_given, curve_taken}
use Rattle.rules.proofs.Exactly.Divisors.{Some, Weight, Length, Residues, OnCurve, divisor_given, divisor_taken, running_given, running_taken}
use Rattle.rules.proofs.Exactly.Batches.{GoesOn, batch_14, batch_taken}
use Rattle.rules.proofs.Exactly.Scans.{scan_8, scan_20}
use Rattle.text_lines.specs.Lines.{refused_line}
use Rattle.text_lines.specs.Rule.Text.{File, text, census_text}
use Rattle.text_lines.proofs.Rule.FileNumbers.{Readable, Short, text_16, text_17, census_16, census_17}
use Rattle.rules.specs.Pole.PoleFile.{word16, curve_part, read_file}
use Rattle.rules.proofs.Pole.Misfits.{CutShort}
use Rattle.rules.proofs.Pole.FileNumbers.{PoleMarked, Counted, tail_of, read_21, read_22, read_23}

pub record Table : Type 1 where
  -- ---- every call: what it reads first is refused with n, or it is taken and what follows answers n
  pub in_order : {N A : Type 0} (none : N) (out : List ℕ) (n : ℕ) (x : Checked A) (go : A → Checked (Result N))
      → (answered (deliver none out (go_on x go)) ≡ n) ↔ (((k : ℕ) × (x ≡ refused n k)) ⊎ ((a : A) × (x ≡ taken a) × (answered (deliver none out (go a)) ≡ n)))
  -- ---- 0: done; its checks passed, and there is room for the result
  pub zero : {N : Type 0} (none : N) (out : List ℕ) (r : Result N) → (answered (deliver none out (taken r)) ≡ 0) ↔ (length r.bytes ≤ length out)
  pub zero_curve : (s : List ℕ) → (read_curve s ≡ taken (curve_of s))
      ↔ (Six s and Marked s and Versioned s and Genus s and ToCount s and Count s and Long s and Odd s and Witnessed s and Below s and SquareFree (curve (curve_of s)))
  pub zero_divisor : (c : CurveRecord) (k : ℕ) (whole : Bool) (s : List ℕ) (a : ℕ) → (divisor_at c k whole s a ≡ taken (made_of c (us_at s a) (vs_at s a)))
      ↔ (Some s a and Weight c s a and Length whole s a and Residues c s a and OnCurve c s a)
  pub zero_batch : {A : Type 0} (c : CurveRecord) (step : A → PairOf c → A) (s : List ℕ) (from : A) → ((b : Batch A) × (batch c step s from ≡ taken b)) ↔ MadeOf c s
  pub zero_running : (c : CurveRecord) (t : Running) → (resume c t ≡ taken (made_of c t.u t.v)) ↔ (Whole c t and (t.count < 4096))
  -- ---- 1: curve record shorter than 6 bytes, or not 54 or 70 as its g says; in version 2 one that ends before its k, or isn't 63 + 8k or 79 + 8k
  pub one : (s : List ℕ) → (read_curve s ≡ refused 1 0)
      ↔ ((¬ Six s) ⊎ (Six s and Marked s and Versioned s and Genus s and ((¬ ToCount s) ⊎ (ToCount s and Count s and ¬ Long s))))
  -- ---- 2: mark isn't HJC
  pub two : (s : List ℕ) → (read_curve s ≡ refused 2 0) ↔ (Six s and ¬ Marked s)
  -- ---- 3: version isn't 1 (or 2)
  pub three : (s : List ℕ) → (read_curve s ≡ refused 3 0) ↔ (Six s and Marked s and ¬ Versioned s)
  -- ---- 4: g isn't 2 or 3
  pub four : (s : List ℕ) → (read_curve s ≡ refused 4 0) ↔ (Six s and Marked s and Versioned s and ¬ Genus s)
  -- ---- 5: p out of range or no odd prime; in version 2 even, below 3 or above 2^61 - 1
  pub five : (s : List ℕ) → (read_curve s ≡ refused 5 0) ↔ (Six s and Marked s and Versioned s and Genus s and ToCount s and Count s and Long s and ¬ Odd s)
  -- ---- 6: some f_i ≥ p
  pub six : (s : List ℕ) → (read_curve s ≡ refused 6 0) ↔ (Six s and Marked s and Versioned s and Genus s and ToCount s and Count s and Long s and Odd s and Witnessed s and ¬ Below s)
  -- ---- 7: f and its derivative share a factor of degree 1 or more
  pub seven : (s : List ℕ) → (read_curve s ≡ refused 7 0)
      ↔ (Six s and Marked s and Versioned s and Genus s and ToCount s and Count s and Long s and Odd s and Witnessed s and Below s and ¬ SquareFree (curve (curve_of s)))
  -- ---- 8: divisor record empty, or not 1 + 16w bytes (in a batch: fewer bytes remain); a scan shorter than 4 bytes, or with such a record behind its pole
  pub eight : (c : CurveRecord) (k : ℕ) (whole : Bool) (s : List ℕ) (a : ℕ) → (divisor_at c k whole s a ≡ refused 8 k) ↔ ((¬ Some s a) ⊎ (Some s a and Weight c s a and ¬ Length whole s a))
  pub eight_scan : (t : Running) (s a : List ℕ) → (answered (scan_call t s a) ≡ 8)
      ↔ TookCurve s (λ c. Whole c t and (t.count < 4096) and ((¬ (4 ≤ length a)) ⊎ ((4 ≤ length a) and (word32 a 0 ≡ t.pole) and (read_divisor c 1 (drop 4 a) ≡ refused 8 1))))
  -- ---- 9: w > g
  pub nine : (c : CurveRecord) (k : ℕ) (whole : Bool) (s : List ℕ) (a : ℕ) → (divisor_at c k whole s a ≡ refused 9 k) ↔ (Some s a and ¬ Weight c s a)
  -- ---- 10: some u_i or v_i ≥ p
  pub ten : (c : CurveRecord) (k : ℕ) (whole : Bool) (s : List ℕ) (a : ℕ) → (divisor_at c k whole s a ≡ refused 10 k) ↔ (Some s a and Weight c s a and Length whole s a and ¬ Residues c s a)
  -- ---- 11: u doesn't divide f - v²
  pub eleven : (c : CurveRecord) (k : ℕ) (whole : Bool) (s : List ℕ) (a : ℕ) → (divisor_at c k whole s a ≡ refused 11 k)
      ↔ (Some s a and Weight c s a and Length whole s a and Residues c s a and ¬ OnCurve c s a)
  -- ---- 12: scalar over 32 bytes, or the order that is checked
  pub twelve : (s a scalar out : List ℕ) → (answered (multiply_call s a scalar out) ≡ 12) ↔ TookBoth s a (λ c x. ¬ (length scalar ≤ 32))
  pub twelve_order : (s a order primes : List ℕ) → ((check_order s a order primes).number ≡ 12) ↔ TookBoth s a (λ c x. ¬ (length order ≤ 32))
  -- ---- 13: output shorter than the result, of any call whose checks passed
  pub thirteen : {N : Type 0} (none : N) (out : List ℕ) (r : Result N) → (answered (deliver none out (taken r)) ≡ 13) ↔ (length out < length r.bytes)
  -- ---- 14: a batch goes on after 4,096 good records, or a running total already holds 4,096
  pub fourteen_batch : {A : Type 0} (c : CurveRecord) (step : A → PairOf c → A) (s : List ℕ) (from : A) → (batch c step s from ≡ refused 14 0) ↔ GoesOn c 4096 s
  pub fourteen : (c : CurveRecord) (t : Running) → (resume c t ≡ refused 14 0) ↔ (Whole c t and ¬ (t.count < 4096))
  -- ---- 15: a running total's own divisor has a number of p or more or isn't valid on the curve given, or its count is over 4,096
  pub fifteen : (c : CurveRecord) (t : Running) → (resume c t ≡ refused 15 0) ↔ (¬ Whole c t)
  -- ---- 16: a file over 65,536 bytes; the pole's list reads the curve's file and then the batch's, the census the curve's alone
  pub sixteen : (curve-file batch-file : File) → (text curve-file batch-file ≡ refused_line 16 0)
      ↔ (Readable curve-file and ((¬ Short curve-file) ⊎ (Short curve-file and Readable batch-file and ¬ Short batch-file)))
  pub sixteen_census : (curve-file : File) → (census_text curve-file ≡ refused_line 16 0) ↔ (Readable curve-file and ¬ Short curve-file)
  -- ---- 17: a file can't be opened or read
  pub seventeen : (curve-file batch-file : File) → (text curve-file batch-file ≡ refused_line 17 0) ↔ ((¬ Readable curve-file) ⊎ (Readable curve-file and Short curve-file and ¬ Readable batch-file))
  pub seventeen_census : (curve-file : File) → (census_text curve-file ≡ refused_line 17 0) ↔ (¬ Readable curve-file)
  -- ---- 18: k outside 1 to 15, or the witness fails
  pub eighteen : (s : List ℕ) → (read_curve s ≡ refused 18 0)
      ↔ (Six s and Marked s and Versioned s and Genus s and ToCount s and ((¬ Count s) ⊎ (Count s and Long s and Odd s and ¬ Witnessed s)))
  -- ---- 19: the divisor given or the multiple is neutral
  pub nineteen : (s a scalar out : List ℕ) → (answered (multiply_call s a scalar out) ≡ 19) ↔ TookBoth s a (λ c x. (length scalar ≤ 32) and ((x ≡ neutral) ⊎ (multiple (curve c) (number scalar) x ≡ neutral)))
  -- ---- 20: a scan for another pole
  pub twenty : (t : Running) (s a : List ℕ) → (answered (scan_call t s a) ≡ 20) ↔ TookCurve s (λ c. Whole c t and (t.count < 4096) and (4 ≤ length a) and ¬ (word32 a 0 ≡ t.pole))
  -- ---- 21: a pole file's mark isn't HJP; 22: its version isn't 1
  pub twenty_one : (file out : List ℕ) → (answered (read_file file out) ≡ 21) ↔ ((9 ≤ length file) and ¬ PoleMarked file)
  pub twenty_two : (file out : List ℕ) → (answered (read_file file out) ≡ 22) ↔ ((9 ≤ length file) and PoleMarked file and ¬ (version_of file ≡ 1))
  -- ---- 23: it is below 9 bytes; or, behind the curve record, its count isn't there or is over 4,096, a record is missing or cut short, or bytes are left over
  pub twenty_three : (file out : List ℕ) → (answered (read_file file out) ≡ 23) ↔ ((¬ (9 ≤ length file)) ⊎ (((9 ≤ length file) and PoleMarked file and (version_of file ≡ 1))
      and TookCurve (curve_part (drop 9 file)) (λ c. let tail : List ℕ = tail_of (drop 9 file) in
      (¬ Counted tail) ⊎ (Counted tail and (CutShort c (word16 tail 0) (drop 2 tail) ⊎ GoesOn c (word16 tail 0) (drop 2 tail))))))
  -- ---- 24: no valid divisor comes after the one given; 25: p is over 13
  pub twenty_four : (s a out : List ℕ) → (answered (next_call s a out) ≡ 24) ↔ TookCurve s (λ c. (c.p ≤ 13) and ((x : PairOf c) × (read_divisor c 1 a ≡ taken x) × Last c x))
  pub twenty_five : (s a out : List ℕ) → (answered (next_call s a out) ≡ 25) ↔ TookCurve s (λ c. ¬ (c.p ≤ 13))
  -- ---- 26: the weight is below 2, or u has no root modulo p
  pub twenty_six : (s a out : List ℕ) → (answered (split_call s a out) ≡ 26) ↔ TookBoth s a (λ c x. NoSplit c.p x)
  -- ---- 27: n isn't the divisor's order, or the list hasn't its primes
  pub twenty_seven : (s a order primes : List ℕ) → ((check_order s a order primes).number ≡ 27) ↔ TookBoth s a (λ c x. (length order ≤ 32) and ¬ Ordered c x order primes)

-- 0 where there is room
room-given : {N : Type 0} (none : N) (out : List ℕ) (r : Result N) → (answered (deliver none out (taken r)) ≡ 0) ↔ (length r.bytes ≤ length out)
room-given {N} none out r = (
  λ e. let k = delivered none out (taken r) (numbered_taken r) e in subst (λ (x : Result N). length x.bytes ≤ length out) (sym (taken_inj k.is)) k.room,
  λ l. ap answered (put_room none out r l),
)

pub table : Table
table = record {
  in_order = λ none out n x go. staged none out n x go;
  zero = room-given;
  zero_curve = curve_taken;
  zero_divisor = divisor_taken;
  zero_batch = λ c step s from. batch_taken c step s from;
  zero_running = running_taken;
  one = λ s. curve_given s 1;
  two = λ s. curve_given s 2;
  three = λ s. curve_given s 3;
  four = λ s. curve_given s 4;
  five = λ s. curve_given s 5;
  six = λ s. curve_given s 6;
  seven = λ s. curve_given s 7;
  eight = λ c k whole s a. divisor_given c k whole s a 8;
  eight_scan = scan_8;
  nine = λ c k whole s a. divisor_given c k whole s a 9;
  ten = λ c k whole s a. divisor_given c k whole s a 10;
  eleven = λ c k whole s a. divisor_given c k whole s a 11;
  twelve = long_scalar;
  twelve_order = order_12;
  thirteen = put_short;
  fourteen_batch = λ c step s from. batch_14 c step s from;
  fourteen = λ c t. running_given c t 14;
  fifteen = λ c t. running_given c t 15;
  sixteen = text_16;
  sixteen_census = census_16;
  seventeen = text_17;
  seventeen_census = census_17;
  eighteen = λ s. curve_given s 18;
  nineteen = empty_key;
  twenty = scan_20;
  twenty_one = read_21;
  twenty_two = read_22;
  twenty_three = read_23;
  twenty_four = next_given_24;
  twenty_five = next_given_25;
  twenty_six = split_26;
  twenty_seven = order_27;
}
