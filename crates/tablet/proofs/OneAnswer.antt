-- One answer, a line an export: what its contract says of an answer r and an output o leaves nothing open. Two programs that keep an export's words on the same bytes answer the same, and leave the same output, byte for byte;
-- so the two multiply calls, which keep one rule's words, whichever their engines. (Of a scan: `one_flat_scan` of scan_flat, which leaves no number of the total open either.)
-- Open: `One`, `OneWritten`.
use Prim.Native.Nat.{ℕ}
use mathlib.Core.Path.{◌≡◌, ap}
use mathlib.Core.List.{List}
use Rattle.rules.specs.Calls.{check_curve, check_divisor, rewrite_curve, rewrite_divisor, add_call, double_call, opposite_call, multiply_call, total_call, repeat_call}
use Rattle.rules.specs.Calls.{check_order, split_call, next_call, fresh}
use Rattle.rules.proofs.CallLaws.{one_answer}
use Rattle.rules.specs.Pole.PoleFile.{read_file, write_file}
use Rattle.tablet_answers.specs.declared.YubiAnswer.{YubiAnswer}
use Rattle.tablet_answers.specs.declared.YubiMultiple.{YubiMultiple}
use Rattle.tablet_answers.specs.declared.YubiTotal.{YubiTotal}
use Rattle.tablet_answers.specs.declared.YubiRepeat.{YubiRepeat}
use Rattle.tablet_answers.specs.declared.YubiPole.{YubiPole}
use Rattle.tablet_answers.specs.Flat.{flat, flat_multiple, flat_total, flat_repeat, flat_pole}
use Rattle.scan_flat.specs.declared.YubiRunning.{YubiRunning}
use Rattle.scan_flat.specs.declared.YubiScanned.{YubiScanned}
use Rattle.scan_flat.specs.Flats.{flat_running, scanned_as, FlatScanIs}
use Rattle.scan_flat.proofs.OneAnswer.{one_flat_scan}

-- at most one answer keeps these words; at most one answer and one output
abbrev pub One : {R : Type 0} → (R → Type 0) → Type 0
One {R} W = (x y : R) → W x → W y → x ≡ y

abbrev pub OneWritten : {R : Type 0} → (R → List ℕ → Type 0) → Type 0
OneWritten {R} W = (x y : R) (o w : List ℕ) → W x o → W y w → (x ≡ y) × (o ≡ w)

one : {R : Type 0} (rule : R) → One (λ (r : R). r ≡ rule)
one rule x y h k = one_answer h k

one_written : {R : Type 0} (rule : R) (out : List ℕ) → OneWritten (λ (r : R) (o : List ℕ). (r ≡ rule) × (o ≡ out))
one_written rule out x y o w h k = (one_answer h.0 k.0, one_answer h.1 k.1)

pub record Exports : Type 0 where
  pub yubi_check_curve : (s : List ℕ) → One (λ (r : YubiAnswer). r ≡ flat (check_curve s))
  pub yubi_check_divisor : (s a : List ℕ) → One (λ (r : YubiAnswer). r ≡ flat (check_divisor s a))
  pub yubi_rewrite_curve : (s out : List ℕ) → OneWritten (λ (r : YubiAnswer) (o : List ℕ). (r ≡ flat (rewrite_curve s out).answer) × (o ≡ (rewrite_curve s out).out))
  pub yubi_rewrite_divisor : (s a out : List ℕ) → OneWritten (λ (r : YubiAnswer) (o : List ℕ). (r ≡ flat (rewrite_divisor s a out).answer) × (o ≡ (rewrite_divisor s a out).out))
  pub yubi_add : (s a b out : List ℕ) → OneWritten (λ (r : YubiAnswer) (o : List ℕ). (r ≡ flat (add_call s a b out).answer) × (o ≡ (add_call s a b out).out))
  pub yubi_double : (s a out : List ℕ) → OneWritten (λ (r : YubiAnswer) (o : List ℕ). (r ≡ flat (double_call s a out).answer) × (o ≡ (double_call s a out).out))
  pub yubi_opposite : (s a out : List ℕ) → OneWritten (λ (r : YubiAnswer) (o : List ℕ). (r ≡ flat (opposite_call s a out).answer) × (o ≡ (opposite_call s a out).out))
  pub yubi_split : (s a out : List ℕ) → OneWritten (λ (r : YubiAnswer) (o : List ℕ). (r ≡ flat (split_call s a out).answer) × (o ≡ (split_call s a out).out))
  -- and yubi_multiply_inversion_free
  pub yubi_multiply : (s a scalar out : List ℕ) → OneWritten (λ (r : YubiMultiple) (o : List ℕ). (r ≡ flat_multiple (multiply_call s a scalar out)) × (o ≡ (multiply_call s a scalar out).out))
  pub yubi_check_order : (s a order primes : List ℕ) → One (λ (r : YubiAnswer). r ≡ flat (check_order s a order primes))
  pub yubi_next_divisor : (s a out : List ℕ) → OneWritten (λ (r : YubiAnswer) (o : List ℕ). (r ≡ flat (next_call s a out).answer) × (o ≡ (next_call s a out).out))
  pub yubi_total_batch : (s records out : List ℕ) → OneWritten (λ (r : YubiTotal) (o : List ℕ). (r ≡ flat_total (total_call s records out)) × (o ≡ (total_call s records out).out))
  pub yubi_first_repeat : (s records : List ℕ) → One (λ (r : YubiRepeat). r ≡ flat_repeat (repeat_call s records))
  pub yubi_fresh_total : (pole : ℕ) → One (λ (r : YubiRunning). r ≡ flat_running (fresh pole))
  pub yubi_scan : (t : YubiRunning) (s a : List ℕ) → One (FlatScanIs t s a)
  -- the answer, and the total as it is left
  pub yubi_scan_lent : (t : YubiRunning) (s a : List ℕ) (x y : YubiAnswer) (t1 t2 : YubiRunning)
      → FlatScanIs t s a (scanned_as x.number x.place x.length t1) → FlatScanIs t s a (scanned_as y.number y.place y.length t2) → (x ≡ y) × (t1 ≡ t2)
  pub yubi_write_pole_file : (pole : ℕ) (s records out : List ℕ)
      → OneWritten (λ (r : YubiAnswer) (o : List ℕ). (r ≡ flat (write_file pole s records out).answer) × (o ≡ (write_file pole s records out).out))
  pub yubi_read_pole_file : (file out : List ℕ) → OneWritten (λ (r : YubiPole) (o : List ℕ). (r ≡ flat_pole (read_file file out)) × (o ≡ (read_file file out).out))

pub exports : Exports
exports = record {
  yubi_check_curve = λ s. one (flat (check_curve s));
  yubi_check_divisor = λ s a. one (flat (check_divisor s a));
  yubi_rewrite_curve = λ s out. one_written (flat (rewrite_curve s out).answer) (rewrite_curve s out).out;
  yubi_rewrite_divisor = λ s a out. one_written (flat (rewrite_divisor s a out).answer) (rewrite_divisor s a out).out;
  yubi_add = λ s a b out. one_written (flat (add_call s a b out).answer) (add_call s a b out).out;
  yubi_double = λ s a out. one_written (flat (double_call s a out).answer) (double_call s a out).out;
  yubi_opposite = λ s a out. one_written (flat (opposite_call s a out).answer) (opposite_call s a out).out;
  yubi_split = λ s a out. one_written (flat (split_call s a out).answer) (split_call s a out).out;
  yubi_multiply = λ s a scalar out. one_written (flat_multiple (multiply_call s a scalar out)) (multiply_call s a scalar out).out;
  yubi_check_order = λ s a order primes. one (flat (check_order s a order primes));
  yubi_next_divisor = λ s a out. one_written (flat (next_call s a out).answer) (next_call s a out).out;
  yubi_total_batch = λ s records out. one_written (flat_total (total_call s records out)) (total_call s records out).out;
  yubi_first_repeat = λ s records. one (flat_repeat (repeat_call s records));
  yubi_fresh_total = λ pole. one (flat_running (fresh pole));
  yubi_scan = λ t s a x y h k. one_flat_scan t s a x y h k;
  yubi_scan_lent = λ t s a x y t1 t2 h k. parts (one_flat_scan t s a _ _ h k);
  yubi_write_pole_file = λ pole s records out. one_written (flat (write_file pole s records out).answer) (write_file pole s records out).out;
  yubi_read_pole_file = λ file out. one_written (flat_pole (read_file file out)) (read_file file out).out;
}
  where
    parts : {x y : YubiAnswer} {t1 t2 : YubiRunning} → scanned_as x.number x.place x.length t1 ≡ scanned_as y.number y.place y.length t2 → (x ≡ y) × (t1 ≡ t2)
    parts e = (ap (λ (r : YubiScanned). record { number = r.number; place = r.place; length = r.length }) e, ap (λ (r : YubiScanned). r.total) e)
