-- Document 01, "The pole's list": from a fresh total, after each scan, the lent total equals the batch total of what was taken so far under that same curve
-- record. Said of any scans `xs`, and whatever follows them, each of which keeps the words of `lent::scan` on the total that the one before it left,
-- whatever it reported. (Of the flat total that C lends: scan_flat.)
use Prim.Native.Nat.{ℕ}
use mathlib.Core.Path.{◌≡◌, ap}
use mathlib.Core.List.{List, ◌++◌, map, flatten}
use Rattle.rules.specs.Records.{CurveRecord, taken, read_curve}
use Rattle.rules.specs.Calls.{Running as RuleRunning, Reply, fresh, put, total_call}
use Rattle.rules.proofs.Calls.Scans.{running_result, records_of}
use Rattle.field.specs.Residues.{raw}
use Rattle.divisor.specs.Divisors.{us, vs}
use Rattle.scan_total.specs.declared.Running.{Running}
use Rattle.scan_total.specs.Totals.{Fresh}
use Rattle.scan_record.specs.Scans.{running_of}
use Rattle.scan_record.specs.lent.Lent.{Report, answer_of, ScanIs}
use Rattle.rules.proofs.Calls.Sequences.{Scan, AllScans, last_total, took, sequence_total}

fresh_is : (pole : ℕ) (t : Running) → Fresh pole t → running_of t ≡ fresh pole
fresh_is pole t f = λ i. record { u = map raw (us (f.neutral i)); v = map raw (vs (f.neutral i)); count = f.none i; pole = f.given i }

module _ (s : List ℕ) {c : CurveRecord} (ec : read_curve s ≡ taken c) where
  abbrev pub LentScan : Running → List ℕ → Report → Running → Type 0
  LentScan t a r after = ScanIs t s a r after

  pub lent_is_batch_total : (pole : ℕ) (t : Running) → Fresh pole t → (xs later : List (Scan Running Report)) → AllScans LentScan t (xs ++ later)
      → (out : List ℕ) → total_call s (flatten (records_of (took (λ (r : Report). (answer_of r).number) xs))) out ≡ put 0 out (running_result (running_of (last_total t xs)))
  lent_is_batch_total pole t f =
      sequence_total (λ (r : Report). (answer_of r).number) LentScan s running_of (λ t. Unit {0})
      (λ t a r after f h. record { fine = tt; answers = ap (λ (w : Reply RuleRunning). w.answer.number) h.is; leaves = ap (λ (w : Reply RuleRunning). w.own) h.is })
      ec t tt pole (fresh_is pole t f)
