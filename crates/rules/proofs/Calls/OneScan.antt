-- One scan into a running total: the total taken up again (`resume_read`, `resume_is`), the 4 bytes of the pole, and the scan by its parts. In the rule's order: 15 and 14 whatever is scanned (`scan_unfit`), then 8 at
-- place 1 below 4 bytes (`scan_short`), then 20 for another pole (`scan_other`), and then the record (`scan_is`, `scan_done`). Refused, the total stays (`scan_kept`); taken, it keeps its pole (`scan_pole`).
-- Open: `running_of`.
use Prim.Native.Nat.{ℕ, ◌+◌, ◌≤◌, ◌<◌}
use mathlib.Core.Path.{◌≡◌, refl, sym, ap, ◌∙◌, subst}
use mathlib.Core.List.{List, []}
use mathlib.Core.Bool.{true}
use native.Mathlib.Decide.{ℕ_discrete}
use native.Mathlib.Omega.{arith}
use lib.ListN.{length, drop}
use borrow.Author.Tests.{ltb-true, leb-true, eqb-true, lt-ltb, lt-leb, le-leb, eq-eqb, ne_eqb}
use Rattle.rules.specs.Bytes.{word32}
use Rattle.rules.specs.Pair.{Valid}
use Rattle.rules.specs.Sum.{sum}
use Rattle.rules.specs.Tests.{is_on_curve}
use Rattle.rules.specs.Records.{refused, taken, go_on, both, is_below, numbers, CurveRecord, curve, PairOf, made_of, read_curve, read_divisor}
use Rattle.rules.specs.Lists.{most_records}
use Rattle.rules.specs.Calls.{done, Reply, stop, deliver, Running, resume_checks, resume, scan_checks, scan_record, scanned, scan_on, scan_call}
use Rattle.rules.proofs.Cantor.OnCurve.{on_curve_decides}
use Rattle.rules.proofs.Calls.Tests.{true_both}
use Rattle.rules.proofs.Calls.Checks.{all_passed, passed_all, refused_as}
use Rattle.rules.proofs.Calls.Elements.{length_elements, length_numbers, numbers_below}
use Rattle.rules.proofs.Calls.CurveRecords.{Accepts}
use Rattle.rules.proofs.Calls.DivisorRecords.{made_numbers}
use Rattle.rules.proofs.Calls.Refusals.{Numbered, on_taken, on_refused, divisor_numbered, resume_numbered}
use Rattle.rules.proofs.Calls.Delivered.{refused_kept, came_on}
use Rattle.rules.proofs.Calls.Written.{answered}

-- a running total of a pole that holds the divisor d and the count n
abbrev pub running_of : (c : CurveRecord) → PairOf c → ℕ → ℕ → Running
running_of c d n pole = record { u = numbers c.p d.u; v = numbers c.p d.v; count = n; pole = pole }

-- ---- a running total that is taken up again
module _ (c : CurveRecord) where
  pub record Resumes (t : Running) : Type 0 where
    pub small : length t.u ≤ c.g
    pub same : length t.v ≡ length t.u
    pub below : both (is_below c.p t.u) (is_below c.p t.v) ≡ true
    pub on : is_on_curve (curve c) (made_of c t.u t.v) ≡ true
    pub room : t.count < 4096

  pub resume_read : (t : Running) {x : PairOf c} → resume c t ≡ taken x → Resumes t × (made_of c t.u t.v ≡ x)
  unfolding resume
  resume_read t e = let r = all_passed (made_of c t.u t.v) (resume_checks c t) e in
      let h = r.0 in
      (record { small = leb-true _ _ h.0; same = eqb-true _ _ h.1.0; below = h.1.1.0; on = h.1.1.1.0; room = ltb-true _ _ h.1.1.1.1.1.0 }, r.1)

  -- what is taken is valid
  pub resume_valid : (t : Running) {x : PairOf c} → resume c t ≡ taken x → Valid (curve c) x
  resume_valid t e = let r = resume_read t e in subst (Valid (curve c)) r.1 (record {
    fits = length_elements c.p t.v ∙ r.0.same ∙ sym (length_elements c.p t.u);
    small = omega (arith, length_elements c.p t.u, r.0.small);
    divides = (on_curve_decides (curve c) (made_of c t.u t.v)).0 r.0.on;
  })

  pub resume_taken : (t : Running) → Resumes t → resume c t ≡ taken (made_of c t.u t.v)
  unfolding resume
  resume_taken t h = passed_all (made_of c t.u t.v) (resume_checks c t)
      (le-leb (length t.u) c.g h.small, (eq-eqb (length t.v) (length t.u) h.same, (h.below, (h.on, (le-leb t.count most_records (omega (arith, h.room)), (lt-ltb t.count most_records h.room, tt))))))

  pub resume_is : Accepts c → (d : PairOf c) → Valid (curve c) d → (n pole : ℕ) → n < 4096 → resume c (running_of c d n pole) ≡ taken d
  resume_is ok d v n pole l = resume_taken (running_of c d n pole) (record {
    small = omega (arith, length_numbers c.p d.u, v.small);
    same = length_numbers c.p d.v ∙ v.fits ∙ sym (length_numbers c.p d.u);
    below = true_both (numbers_below c.p pos d.u) (numbers_below c.p pos d.v);
    on = ap (is_on_curve (curve c)) (made_numbers c d) ∙ (on_curve_decides (curve c) d).1 v.divides;
    room = l;
  }) ∙ ap taken (made_numbers c d)
    where
      pos : 0 < c.p
      pos = omega (arith, ok.prime.odd)

-- ---- the 4 bytes of the pole
module _ (pole : ℕ) (a : List ℕ) where
  pub scan_read : {r : List ℕ} → scan_record pole a ≡ taken r → (4 ≤ length a) × (word32 a 0 ≡ pole) × (drop 4 a ≡ r)
  scan_read e = let h = all_passed (drop 4 a) (scan_checks pole a) e in (leb-true _ _ h.0.0, eqb-true _ _ h.0.1.0, h.1)

  pub scan_taken : 4 ≤ length a → word32 a 0 ≡ pole → scan_record pole a ≡ taken (drop 4 a)
  scan_taken l e = passed_all (drop 4 a) (scan_checks pole a) (le-leb 4 (length a) l, (eq-eqb (word32 a 0) pole e, tt))

  pub scan_numbered : Numbered (scan_record pole a)
  scan_numbered n k e = refused_as (drop 4 a) (λ n k. 0 < n) (scan_checks pole a) (omega arith, (omega arith, tt)) e

-- ---- one scan
pub record ScanDone (c : CurveRecord) (t : Running) (a : List ℕ) (w : Reply Running) : Type 0 where
  pub x : PairOf c
  pub y : PairOf c
  pub t_is : resume c t ≡ taken x
  pub four : 4 ≤ length a
  pub pole_is : word32 a 0 ≡ t.pole
  pub a_is : read_divisor c 1 (drop 4 a) ≡ taken y
  pub is : w ≡ record { answer = done 0; out = []; own = running_of c (sum (curve c) x y) (t.count + 1) t.pole }

-- on a curve that was taken
pub scan_on_is : (s : List ℕ) {c : CurveRecord} → read_curve s ≡ taken c → (t : Running) (a : List ℕ) → scan_call t s a ≡ scan_on c t a
unfolding scan_call scan_on
scan_on_is s {c} ec t a = ap (deliver t []) (on_taken (read_curve s) (λ d. scanned d t a) ec)

-- refused, the total is the one that was lent
pub scan_kept : (s : List ℕ) (t : Running) (a : List ℕ) → (answered (scan_call t s a) ≡ 0 → ⊥) → (scan_call t s a).own ≡ t
unfolding scan_call
scan_kept s t a n = (refused_kept t [] (go_on (read_curve s) (λ c. scanned c t a)) n).2

module _ (s : List ℕ) {c : CurveRecord} (ec : read_curve s ≡ taken c) where
  -- 15 and 14 come first, whatever is scanned
  pub scan_unfit : (t : Running) (a : List ℕ) {n k : ℕ} → resume c t ≡ refused n k → scan_call t s a ≡ stop t [] n k
  unfolding scan_call
  scan_unfit t a et = ap (deliver t []) (on_taken _ _ ec ∙ on_refused (resume c t) _ et)

  -- then 8 at place 1, where the pole's 4 bytes aren't there
  pub scan_short : (t : Running) (a : List ℕ) {x : PairOf c} → resume c t ≡ taken x → length a < 4 → scan_call t s a ≡ stop t [] 8 1
  unfolding scan_call
  scan_short t a et l = ap (deliver t []) (on_taken _ _ ec ∙ on_taken _ _ et ∙ on_refused (scan_record t.pole a) _ (rw (lt-leb 4 (length a) l) refl))

  -- then 20, where they are another pole's, whatever stands behind them
  pub scan_other : (t : Running) (a : List ℕ) {x : PairOf c} → resume c t ≡ taken x → 4 ≤ length a → (word32 a 0 ≡ t.pole → ⊥) → scan_call t s a ≡ stop t [] 20 0
  unfolding scan_call
  scan_other t a et l q = ap (deliver t []) (on_taken _ _ ec ∙ on_taken _ _ et ∙ on_refused (scan_record t.pole a) _ (rw (le-leb 4 (length a) l, ne_eqb (word32 a 0) t.pole q) refl))

  -- the record's divisor added to the total's, and 1 to its count, whatever total it was lent
  pub scan_is : (t : Running) (a : List ℕ) {x y : PairOf c} → resume c t ≡ taken x → 4 ≤ length a → word32 a 0 ≡ t.pole → read_divisor c 1 (drop 4 a) ≡ taken y
      → scan_call t s a ≡ record { answer = done 0; out = []; own = running_of c (sum (curve c) x y) (t.count + 1) t.pole }
  unfolding scan_call
  scan_is t a et l q ea = ap (deliver t []) (on_taken _ _ ec ∙ on_taken _ _ et ∙ on_taken _ _ (scan_taken t.pole a l q) ∙ on_taken _ _ ea)

  pub scan_done : (t : Running) (a : List ℕ) → (scan_call t s a).answer.number ≡ 0 → ScanDone c t a (scan_call t s a)
  unfolding scan_call
  scan_done t a e =
      let r = came_on t [] (resume c t) _ (resume_numbered c t) (ap (λ x. answered (deliver t [] x)) (sym (on_taken _ _ ec)) ∙ e) in
      let m = came_on t [] (scan_record t.pole a) _ (scan_numbered t.pole a) r.2 in
      let h = scan_read t.pole a m.1 in
      let q = came_on t [] (read_divisor c 1 m.0) _ (divisor_numbered c 1 true m.0 0) m.2 in
      let ea : read_divisor c 1 (drop 4 a) ≡ taken q.0 = ap (read_divisor c 1) h.2 ∙ q.1 in
      record { x = r.0; y = q.0; t_is = r.1; four = h.0; pole_is = h.1; a_is = ea; is = scan_is t a {x = r.0} {y = q.0} r.1 h.0 h.1 ea }

  -- the total keeps its pole
  pub scan_pole : (t : Running) (a : List ℕ) → (scan_call t s a).own.pole ≡ t.pole
  scan_pole t a = go (ℕ_discrete (answered (scan_call t s a)) 0)
    where
      go : Dec (answered (scan_call t s a) ≡ 0) → (scan_call t s a).own.pole ≡ t.pole
      go (yes e) = ap (λ (w : Reply Running). w.own.pole) (scan_done t a e).is
      go (no n) = ap (λ (u : Running). u.pole) (scan_kept s t a n)
