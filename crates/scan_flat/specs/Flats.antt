-- The running total as C holds it. Document 01, "Numbers the tablet shows", 15, and "The pole's list": a flat total is taken where it is one that
-- a total can be flattened to: a weight of 0 to 3, and 0 for each coefficient at the weight or above. Any other is 15, like any divisor that
-- isn't valid.
use Rattle.std.specs.Prelude.{ℕ, ◌≡◌, List, [], ◌∷◌, map, get_or, length, take}
use Rattle.rules.specs.Records.{CurveRecord, taken, refused, read_curve}
use Rattle.rules.specs.Calls.{Running as RuleRunning, Reply, scan_on}
use Rattle.field.specs.Residues.{raw}
use Rattle.divisor.specs.declared.Divisor.{Divisor}
use Rattle.divisor.specs.Divisors.{us, vs}
use Rattle.scan_flat.specs.declared.YubiRunning.{YubiRunning}
use Rattle.scan_flat.specs.declared.YubiScanned.{YubiScanned}

-- the total, with 0 for what is unused
abbrev pub flat_running : RuleRunning → YubiRunning
flat_running t = record { weight = length t.u; u0 = get_or t.u 0 0; u1 = get_or t.u 1 0; u2 = get_or t.u 2 0; v0 = get_or t.v 0 0; v1 = get_or t.v 1 0; v2 = get_or t.v 2 0; count = t.count; pole = t.pole }

abbrev pub first_u : YubiRunning → List ℕ
first_u t = take t.weight (t.u0 ∷ t.u1 ∷ t.u2 ∷ [])

abbrev pub first_v : YubiRunning → List ℕ
first_v t = take t.weight (t.v0 ∷ t.v1 ∷ t.v2 ∷ [])

-- the coefficients below the weight
abbrev pub unflat : YubiRunning → RuleRunning
unflat t = record { u = first_u t; v = first_v t; count = t.count; pole = t.pole }

-- a total that can have been flattened
abbrev pub Flattened : YubiRunning → Type 0
Flattened t = flat_running (unflat t) ≡ t

-- the code's divisor has these coefficients
pub record Cut (t : YubiRunning) (d : Divisor) : Type 0 where
  pub u : map raw (us d) ≡ first_u t
  pub v : map raw (vs d) ≡ first_v t

-- number, place and length of a scan, beside the total that it left
abbrev pub scanned_as : ℕ → ℕ → ℕ → YubiRunning → YubiScanned
scanned_as n k l t = record { number = n; place = k; length = l; total = t }

abbrev pub flat_scanned : Reply RuleRunning → YubiScanned
flat_scanned x = scanned_as x.answer.number x.answer.place x.answer.length (flat_running x.own)

-- the curve first, then the total's form, then the scan
pub record FlatScanIs (t : YubiRunning) (s a : List ℕ) (r : YubiScanned) : Type 0 where
  pub no_curve : (n k : ℕ) → read_curve s ≡ refused n k → r ≡ scanned_as n k 0 t
  pub not_flat : (c : CurveRecord) → read_curve s ≡ taken c → (Flattened t → ⊥) → r ≡ scanned_as 15 0 0 t
  pub scans : (c : CurveRecord) → read_curve s ≡ taken c → Flattened t → r ≡ flat_scanned (scan_on c (unflat t) a)
