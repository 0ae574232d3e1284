-- W-209, the pole's number in a scan: 8 exactly where fewer than 4 bytes are scanned or the record behind them is 8 (`scan_8`), and 20 exactly where the scan is for another pole (`scan_20`), the curve and the running total being taken.
-- Open: `Resumed`.
use Prim.Native.Nat.{ℕ, ◌+◌, ◌≤◌, ◌<◌}
use mathlib.Core.Path.{◌≡◌, refl, sym, ap, ◌∙◌}
use mathlib.Core.List.{List, [], ◌∷◌}
use mathlib.Core.Bool.{true}
use mathlib.Core.Logic.{◌↔◌, ◌⊎◌, inl, inr}
use native.Mathlib.Omega.{arith}
use lib.Dec.{eqb}
use lib.ListN.{length, drop}
use Rattle.rules.specs.Bytes.{word32}
use Rattle.rules.specs.Sum.{sum}
use Rattle.rules.specs.Checks.{Checked, refused, taken, choose, go_on}
use Rattle.rules.specs.Records.{CurveRecord, curve, PairOf, made_of, read_curve, read_divisor}
use Rattle.rules.specs.Calls.{Result, Running, resume, scan_checks, scan_record, scan_call}
use Rattle.rules.proofs.Calls.Refusals.{curve-refused, divisor_refused, resume_refused}
use Rattle.rules.proofs.Calls.Written.{answered}
use Rattle.rules.proofs.Calls.Given.{◌and◌, Ask, ask, Given, given-some}
use Rattle.rules.proofs.Calls.Decided.{eq_decides, le_decides, Whole}
use Rattle.rules.proofs.Calls.Reached.{TookCurve, through, took_as, Says, staged, reached, refused_here, divisor_reached, put_says}
use Rattle.rules.proofs.Calls.OneScan.{running_of, resume_read, scan_read, scan_taken}
use Rattle.rules.proofs.Exactly.Divisors.{running_taken}

-- ---- the 4 bytes of the pole: 8 at place 1, then 20 at place 0
module _ (pole : ℕ) (a : List ℕ) where
  abbrev scan_asks : List Ask
  scan_asks = ask (4 ≤ length a) 8 ∷ ask (word32 a 0 ≡ pole) 20 ∷ []

  abbrev scan_place : ℕ → ℕ
  scan_place n = choose (eqb n 8) 1 0

  scan_given : (n : ℕ) → ((k : ℕ) × (scan_record pole a ≡ refused n k)) ↔ Given n scan_asks
  scan_given n = given-some (drop 4 a) scan_place n (scan_checks pole a) scan_asks (le_decides _ _, refl, refl, λ l. (eq_decides _ _, refl, refl, λ e. tt))

module _ (c : CurveRecord) (t : Running) where
  -- the running total is taken
  abbrev pub Resumed : Type 0 → Type 0
  Resumed Q = Whole c t and (t.count < 4096) and Q

  resumed : {P : PairOf c → Type 0} {Q : Type 0} → ((x : PairOf c) → P x ↔ Q) → ((x : PairOf c) × (resume c t ≡ taken x) × P x) ↔ Resumed Q
  resumed h = (
    λ r. let w = (running_taken c t).0 (r.1 ∙ ap taken (sym (resume_read c t r.1).1)) in (w.0, (w.1, (h r.0).0 r.2)),
    λ w. (made_of c t.u t.v, (running_taken c t).1 (w.0, w.1.0), (h (made_of c t.u t.v)).1 w.1.1),
  )

module _ (t : Running) (s a : List ℕ) where
  -- what follows the 4 bytes
  abbrev added : (c : CurveRecord) → PairOf c → PairOf c → Result Running
  added c x y = record { bytes = []; own = running_of c (sum (curve c) x y) (t.count + 1) t.pole }

  abbrev behind : (c : CurveRecord) → PairOf c → List ℕ → Checked (Result Running)
  behind c x r = go_on (read_divisor c 1 r) (λ y. taken (added c x y))

  abbrev with_pole : (c : CurveRecord) → PairOf c → Checked (Result Running)
  with_pole c x = go_on (scan_record t.pole a) (behind c x)

  -- a number that neither the curve nor the running total is refused with
  from_total : (n : ℕ) → 7 < n → (n ≡ 18 → ⊥) → (n ≡ 14 → ⊥) → (n ≡ 15 → ⊥) → {Q : CurveRecord → Type 0} → ((c : CurveRecord) (x : PairOf c) → Says t [] n (with_pole c x) ↔ Q c)
      → (answered (scan_call t s a) ≡ n) ↔ TookCurve s (λ c. Resumed c t (Q c))
  unfolding scan_call
  from_total n l not-18 not-14 not-15 h = through (reached t [] n (read_curve s) _ (λ k e. not-18 ((curve-refused s e).apart l))) (took_as s (λ c ec.
      through (reached t [] n (resume c t) (with_pole c) (λ k e. let r = resume_refused c t e in omega (arith, r.0, r.1))) (resumed c t (h c))))

  pub scan_20 : (answered (scan_call t s a) ≡ 20) ↔ TookCurve s (λ c. Resumed c t ((4 ≤ length a) and ¬ (word32 a 0 ≡ t.pole)))
  scan_20 = from_total 20 (omega arith) (λ e. omega arith) (λ e. omega arith) (λ e. omega arith) (λ c x.
      through (refused_here t [] 20 (scan_record t.pole a) (behind c x) (λ r q e. let d = (divisor_reached t [] 20 (omega arith) c r _).0 e in put_says t [] 20 (λ e. omega arith) (λ e. omega arith) (added c x d.0) d.2))
      (scan_given t.pole a 20))

  pub scan_8 : (answered (scan_call t s a) ≡ 8) ↔ TookCurve s (λ c. Resumed c t ((¬ (4 ≤ length a)) ⊎ ((4 ≤ length a) and (word32 a 0 ≡ t.pole) and (read_divisor c 1 (drop 4 a) ≡ refused 8 1))))
  scan_8 = from_total 8 (omega arith) (λ e. omega arith) (λ e. omega arith) (λ e. omega arith) (λ c x. through (staged t [] 8 (scan_record t.pole a) (behind c x)) (to c x, back c x))
    where
      record_8 : (c : CurveRecord) (x : PairOf c) (r : List ℕ) → Says t [] 8 (behind c x r) ↔ (read_divisor c 1 r ≡ refused 8 1)
      record_8 c x r = through (refused_here t [] 8 (read_divisor c 1 r) _ (λ y q. put_says t [] 8 (λ e. omega arith) (λ e. omega arith) (added c x y)))
          (λ k. k.1 ∙ ap (refused 8) (divisor_refused c 1 true r 0 k.1).2, λ e. (1, e))

      to : (c : CurveRecord) (x : PairOf c) → ((k : ℕ) × (scan_record t.pole a ≡ refused 8 k)) ⊎ ((r : List ℕ) × (scan_record t.pole a ≡ taken r) × Says t [] 8 (behind c x r))
          → (¬ (4 ≤ length a)) ⊎ ((4 ≤ length a) and (word32 a 0 ≡ t.pole) and (read_divisor c 1 (drop 4 a) ≡ refused 8 1))
      to c x (inl k) = inl ((scan_given t.pole a 8).0 k)
      to c x (inr (r, q, e)) = let h = scan_read t.pole a q in inr (h.0, (h.1, ap (read_divisor c 1) h.2 ∙ (record_8 c x r).0 e))

      back : (c : CurveRecord) (x : PairOf c) → (¬ (4 ≤ length a)) ⊎ ((4 ≤ length a) and (word32 a 0 ≡ t.pole) and (read_divisor c 1 (drop 4 a) ≡ refused 8 1))
          → ((k : ℕ) × (scan_record t.pole a ≡ refused 8 k)) ⊎ ((r : List ℕ) × (scan_record t.pole a ≡ taken r) × Says t [] 8 (behind c x r))
      back c x (inl f) = inl ((scan_given t.pole a 8).1 f)
      back c x (inr (l, (q, e))) = inr (drop 4 a, scan_taken t.pole a l q, (record_8 c x (drop 4 a)).1 e)
