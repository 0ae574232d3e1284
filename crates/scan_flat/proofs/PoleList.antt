-- Document 01, "The pole's list", of the flat total that C lends: from a fresh one of a pole, after each scan, it equals the batch total of what was taken so far under that same curve record, scans for other poles among the refused. Said of any scans `xs`, and whatever
-- follows them, each of which keeps the words of a scan on the total that the one before it left, whatever it reported.
use mathlib.Core.Path.{◌≡◌, refl, ap}
use mathlib.Core.List.{List, ◌++◌, flatten}
use Prim.Native.Nat.{ℕ}
use Rattle.rules.specs.Records.{CurveRecord, taken, read_curve}
use Rattle.rules.specs.Calls.{Answer, fresh, put, total_call}
use Rattle.rules.proofs.Calls.Scans.{running_result, records_of}
use Rattle.rules.proofs.Calls.Sequences.{Scan, AllScans, last_total, took, sequence_total}
use Rattle.scan_flat.specs.declared.YubiRunning.{YubiRunning}
use Rattle.scan_flat.specs.declared.YubiScanned.{YubiScanned}
use Rattle.scan_flat.specs.Flats.{flat_running, unflat, Flattened, scanned_as, FlatScanIs}
use Rattle.scan_flat.proofs.FlatScans as flat

module _ (s : List ℕ) {c : CurveRecord} (ec : read_curve s ≡ taken c) where
  abbrev pub FlatScan : YubiRunning → List ℕ → Answer → YubiRunning → Type 0
  FlatScan t a r after = FlatScanIs t s a (scanned_as r.number r.place r.length after)

  pub flat_is_batch_total : (pole : ℕ) (xs later : List (Scan YubiRunning Answer)) → AllScans FlatScan (flat_running (fresh pole)) (xs ++ later)
      → (out : List ℕ) → total_call s (flatten (records_of (took (λ (r : Answer). r.number) xs))) out ≡ put 0 out (running_result (unflat (last_total (flat_running (fresh pole)) xs)))
  flat_is_batch_total pole =
      sequence_total (λ (r : Answer). r.number) FlatScan s unflat Flattened
      (λ t a r after f h. record { fine = flat.fine s ec t a (scanned_as r.number r.place r.length after) f h; answers = ap (λ (x : YubiScanned). x.number) (flat.scan_is s ec t a (scanned_as r.number r.place r.length after) f h); leaves = flat.leaves s ec t a (scanned_as r.number r.place r.length after) f h })
      ec (flat_running (fresh pole)) refl pole refl
