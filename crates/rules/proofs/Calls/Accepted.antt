-- A curve whose record was taken is one that demand 3's theorem speaks of.
use Prim.Native.Nat.{ℕ}
use mathlib.Core.Path.{◌≡◌}
use mathlib.Core.List.{List}
use Rattle.rules.specs.Records.{taken, CurveRecord, curve, read_curve}
use Rattle.rules.proofs.Demand3.{Demand3, demand3, square_free_test}
use Rattle.rules.proofs.Calls.CurveRecords.{Accepts, accepts}

pub accepts_laws : (c : CurveRecord) → Accepts c → Demand3 (curve c)
accepts_laws c h =
    let o = h.prime in
    demand3 c.p o.is o.odd c.g c.low h.odd ((square_free_test c.p o.is c.g c.low).0 h.free)

pub curve_laws : (s : List ℕ) {c : CurveRecord} → read_curve s ≡ taken c → Demand3 (curve c)
curve_laws s {c} e = accepts_laws c (accepts s e)
