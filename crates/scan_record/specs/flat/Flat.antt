-- A scan into a flat total, before it is laid out for C: the total after, or what refuses.
use Rattle.std.specs.Prelude.{ℕ, Result, Ok, Err, List}
use Rattle.refusals.specs.declared.Refused.{Refused}
use Rattle.refusals.specs.Refusal.{number_of}
use Rattle.scan_flat.specs.declared.YubiRunning.{YubiRunning}
use Rattle.scan_flat.specs.declared.YubiScanned.{YubiScanned}
use Rattle.scan_flat.specs.Flats.{scanned_as, FlatScanIs}

-- laid out, where t was the total before
abbrev pub laid_out : YubiRunning → Result YubiRunning Refused → YubiScanned
laid_out t (Ok x) = scanned_as 0 0 0 x
laid_out t (Err r) = scanned_as (number_of r.by) r.place 0 t

abbrev pub TotalAfter : YubiRunning → List ℕ → List ℕ → Result YubiRunning Refused → Type 0
TotalAfter t s a r = FlatScanIs t s a (laid_out t r)
