-- The words of a scan into a flat total: of one that can have been flattened they are the rule's, and leave such a one again; refused, the total keeps every number.
use Prim.Native.Nat.{ℕ, zero, suc, ◌≤◌}
use mathlib.Core.Path.{◌≡◌, refl, sym, ap, ◌∙◌, subst}
use mathlib.Core.Bool.{true}
use mathlib.Core.List.{List, [], ◌∷◌}
use native.Mathlib.Decide.{ℕ_discrete}
use native.Mathlib.Omega.{arith}
use lib.ListN.{length, get_or, take, drop}
use Rattle.rules.specs.Records.{Checked, CurveRecord, taken, refused, curve, read_curve}
use Rattle.rules.specs.Calls.{Running, Reply, scan_call}
use Rattle.rules.specs.Sum.{sum}
use Rattle.rules.proofs.Calls.Elements.{length_numbers}
use Rattle.rules.proofs.Calls.CurveRecords.{accepts}
use Rattle.rules.proofs.Calls.DivisorRecords.{divisor_valid}
use Rattle.rules.proofs.Calls.Accepted.{accepts_laws}
use Rattle.rules.proofs.Calls.OneScan.{resume_valid, scan_on_is, scan_done, scan_kept}
use Rattle.scan_flat.specs.declared.YubiRunning.{YubiRunning}
use Rattle.scan_flat.specs.declared.YubiScanned.{YubiScanned}
use Rattle.scan_flat.specs.Flats.{flat_running, unflat, Flattened, flat_scanned, FlatScanIs}
use Rattle.scan_flat.proofs.OneAnswer.{is_flattened}

-- ---- flattened and back
cut : (l : List ℕ) → length l ≤ 3 → take (length l) (get_or l 0 0 ∷ get_or l 1 0 ∷ get_or l 2 0 ∷ []) ≡ l
cut [] h = refl
cut (a ∷ []) h = refl
cut (a ∷ b ∷ []) h = refl
cut (a ∷ b ∷ c ∷ []) h = refl
cut (a ∷ b ∷ c ∷ d ∷ l) h = absurd (omega arith)

-- u and v of one length, at most 3
pub record Small (t : Running) : Type 0 where
  pub same : length t.v ≡ length t.u
  pub few : length t.u ≤ 3

pub unflat-flat : (t : Running) → Small t → unflat (flat_running t) ≡ t
unflat-flat t h = λ i. record { u = cut t.u h.few i; v = v_is i; count = t.count; pole = t.pole }
  where
    v_is : take (length t.u) (get_or t.v 0 0 ∷ get_or t.v 1 0 ∷ get_or t.v 2 0 ∷ []) ≡ t.v
    v_is = ap (λ (n : ℕ). take n (get_or t.v 0 0 ∷ get_or t.v 1 0 ∷ get_or t.v 2 0 ∷ [])) (sym h.same) ∙ cut t.v (omega (arith, h.same, h.few))

small_take : (w : ℕ) (a b c x y z : ℕ) → (length (take w (x ∷ y ∷ z ∷ [])) ≡ length (take w (a ∷ b ∷ c ∷ []))) × (length (take w (a ∷ b ∷ c ∷ [])) ≤ 3)
small_take zero a b c x y z = (refl, omega arith)
small_take (suc zero) a b c x y z = (refl, omega arith)
small_take (suc (suc zero)) a b c x y z = (refl, omega arith)
small_take (suc (suc (suc w))) a b c x y z = more w
  where
    more : (w : ℕ) → (length (take (suc (suc (suc w))) (x ∷ y ∷ z ∷ [])) ≡ length (take (suc (suc (suc w))) (a ∷ b ∷ c ∷ []))) × (length (take (suc (suc (suc w))) (a ∷ b ∷ c ∷ [])) ≤ 3)
    more zero = (refl, omega arith)
    more (suc w) = (refl, omega arith)

small-unflat : (t : YubiRunning) → Small (unflat t)
small-unflat t = let h = small_take t.weight t.u0 t.u1 t.u2 t.v0 t.v1 t.v2 in record { same = h.0; few = h.1 }

-- ---- a scan leaves a small total small
module _ (s : List ℕ) {c : CurveRecord} (ec : read_curve s ≡ taken c) where
  small_after : (t : Running) (a : List ℕ) → Small t → Small (scan_call t s a).own
  small_after t a h = go (ℕ_discrete (scan_call t s a).answer.number 0)
    where
      go : Dec ((scan_call t s a).answer.number ≡ 0) → Small (scan_call t s a).own
      go (no n) = subst Small (sym (scan_kept s t a n)) h
      go (yes e) =
          let d = scan_done s ec t a e in
          let v = (accepts_laws c (accepts s ec)).sum_closed d.x d.y (resume_valid c t d.t_is) (divisor_valid c 1 true (drop 4 a) 0 d.a_is) in
          subst (λ (w : Reply Running). Small w.own) (sym d.is) (record {
            same = length_numbers c.p (sum (curve c) d.x d.y).v ∙ v.fits ∙ sym (length_numbers c.p (sum (curve c) d.x d.y).u);
            few = omega (arith, length_numbers c.p (sum (curve c) d.x d.y).u, v.small, (accepts s ec).greatest);
          })

  module _ (t : YubiRunning) (a : List ℕ) (r : YubiScanned) (f : Flattened t) (h : FlatScanIs t s a r) where
    pub scan_is : r ≡ flat_scanned (scan_call (unflat t) s a)
    scan_is = h.scans c ec f ∙ ap flat_scanned (sym (scan_on_is s ec (unflat t) a))

    pub leaves : unflat r.total ≡ (scan_call (unflat t) s a).own
    leaves = ap (λ (x : YubiScanned). unflat x.total) scan_is ∙ unflat-flat (scan_call (unflat t) s a).own (small_after (unflat t) a (small-unflat t))

    pub fine : Flattened r.total
    fine = ap flat_running leaves ∙ sym (ap (λ (x : YubiScanned). x.total) scan_is)

-- ---- refused
module _ (t : YubiRunning) (s a : List ℕ) (r : YubiScanned) (h : FlatScanIs t s a r) where
  pub flat_kept : (r.number ≡ 0 → ⊥) → r.total ≡ t
  flat_kept n = go (read_curve s) refl (is_flattened t)
    where
      total_of : {x : YubiScanned} → r ≡ x → r.total ≡ x.total
      total_of e = ap (λ (x : YubiScanned). x.total) e

      go : (b : Checked CurveRecord) → read_curve s ≡ b → Dec (Flattened t) → r.total ≡ t
      go (refused m k) e f = total_of (h.no_curve m k e)
      go (taken c) e (no f) = total_of (h.not_flat c e f)
      go (taken c) e (yes f) =
          let is = scan_is s e t a r f h in
          total_of is ∙ ap flat_running (scan_kept s (unflat t) a (λ z. n (ap (λ (x : YubiScanned). x.number) is ∙ z))) ∙ f
