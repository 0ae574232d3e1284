-- The words of a scan into a flat total leave nothing open: two programs that keep them agree in the answer and in every number of the total (`one_flat_scan`). Whether a total can have been flattened is decided
-- (`is_flattened`).
use Prim.Native.Nat.{ℕ}
use mathlib.Core.Path.{◌≡◌, refl, sym, ap, ◌∙◌}
use mathlib.Core.List.{List}
use mathlib.Core.HLevel.{Discrete, ×_discrete}
use native.Mathlib.Decide.{ℕ_discrete}
use Rattle.rules.specs.Records.{Checked, CurveRecord, taken, refused, read_curve}
use Rattle.scan_flat.specs.declared.YubiRunning.{YubiRunning}
use Rattle.scan_flat.specs.declared.YubiScanned.{YubiScanned}
use Rattle.scan_flat.specs.Flats.{flat_running, unflat, Flattened, FlatScanIs}

-- its numbers in a row
abbrev Nine : Type 0
Nine = ℕ × (ℕ × (ℕ × (ℕ × (ℕ × (ℕ × (ℕ × (ℕ × ℕ)))))))

abbrev to_nine : YubiRunning → Nine
to_nine t = (t.weight, (t.u0, (t.u1, (t.u2, (t.v0, (t.v1, (t.v2, (t.count, t.pole))))))))

abbrev of_nine : Nine → YubiRunning
of_nine e = record { weight = e.0; u0 = e.1.0; u1 = e.1.1.0; u2 = e.1.1.1.0; v0 = e.1.1.1.1.0; v1 = e.1.1.1.1.1.0; v2 = e.1.1.1.1.1.1.0; count = e.1.1.1.1.1.1.1.0; pole = e.1.1.1.1.1.1.1.1 }

nines : Discrete Nine
nines = ×_discrete ℕ_discrete (×_discrete ℕ_discrete (×_discrete ℕ_discrete (×_discrete ℕ_discrete (×_discrete ℕ_discrete (×_discrete ℕ_discrete (×_discrete ℕ_discrete (×_discrete ℕ_discrete ℕ_discrete)))))))

pub is_flattened : (t : YubiRunning) → Dec (Flattened t)
is_flattened t = go (nines (to_nine (flat_running (unflat t))) (to_nine t))
  where
    go : Dec (to_nine (flat_running (unflat t)) ≡ to_nine t) → Dec (Flattened t)
    go (yes e) = yes (ap of_nine e)
    go (no n) = no (λ e. n (ap to_nine e))

module _ (t : YubiRunning) (s a : List ℕ) (x y : YubiScanned) (h : FlatScanIs t s a x) (k : FlatScanIs t s a y) where
  -- two programs that keep the words agree in the answer and in every number of the total
  pub one_flat_scan : x ≡ y
  one_flat_scan = go (read_curve s) refl (is_flattened t)
    where
      go : (b : Checked CurveRecord) → read_curve s ≡ b → Dec (Flattened t) → x ≡ y
      go (refused n m) e f = h.no_curve n m e ∙ sym (k.no_curve n m e)
      go (taken c) e (yes f) = h.scans c e f ∙ sym (k.scans c e f)
      go (taken c) e (no f) = h.not_flat c e f ∙ sym (k.not_flat c e f)
