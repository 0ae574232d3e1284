-- The reader's answers, by what its parts answered: a count that isn't there (`after-..`), the parts (`few_bytes`, `high_count`, `all_parts`),
-- what is written, and the head.
use Prim.Native.Nat.{ℕ, ◌+◌, ◌-◌, ◌≤◌, ◌<◌}
use mathlib.Core.Path.{◌≡◌, refl, sym, ap, ap₂, ◌∙◌, subst}
use mathlib.Core.Bool.{true, false}
use mathlib.Core.List.{List, [], ◌++◌}
use native.Mathlib.Omega.{arith}
use lib.ListN.{length, take, drop, length-append, length-drop}
use lib.Seq.{sets, drop-drop}
use borrow.Author.Tests.{eq-eqb, ne_eqb, le-leb, lt-leb, lt-ltb}
use Rattle.std.specs.Prelude.{Result as Outcome, Ok, Err}
use Rattle.refusals.specs.declared.Refusal.{Refusal}
use Rattle.refusals.specs.declared.Refusal.TheVariants.{OutputLength, PoleFileMark, PoleFileVersion, PoleFileLength}
use Rattle.refusals.specs.declared.Refused.{Refused}
use Rattle.refusals.specs.Refusal.{number_of}
use Rattle.rules.specs.Bytes.{word32}
use Rattle.rules.specs.Checks.{Checked, refused, taken, first_failed, go_on}
use Rattle.rules.specs.Records.{CurveRecord, version_of, read_curve}
use Rattle.rules.specs.Lists.{most_records}
use Rattle.rules.specs.Calls.{Result, put, deliver, counted, check_batch}
use Rattle.rules.proofs.Calls.Bytes.{part-from}
use Rattle.rules.proofs.Calls.Delivered.{put_room}
use Rattle.rules.proofs.Calls.Checks.{passed_all}
use Rattle.rules.proofs.Calls.Refusals.{on_taken, on_refused, went_on}
use Rattle.rules.proofs.Calls.Tests.{refused_taken}
use Rattle.rules.proofs.Calls.Steps.{at_end}
use Rattle.record_bytes.proofs.Writing.{sets_append}
use Rattle.call_batch.specs.Counts.{BatchIs}
use Rattle.rules.specs.Pole.PoleFile.{word16, read_parts, is_pole_marked, head_checks, curve_part, behind_curve, both_parts, read_behind, read_file}
use Rattle.rules.proofs.Pole.Counted.{as_file, no_count, parts_are_batch, parts_taken}
use Rattle.call_pole.specs.declared.PoleRead.{PoleRead}
use Rattle.call_pole.specs.Files.{PoleIs, PartsAre, Ends}

abbrev pub misfit : Refused
misfit = record { by = PoleFileLength; place = 0 }

-- ---- no count: the curve alone, a batch without records
module _ (s : List ℕ) where
  abbrev after_curve : Checked (Unit {0})
  after_curve = go_on (read_curve s) (λ c. refused 23 0)

  none_taken : (c : CurveRecord) → counted c [] ≡ taken (record { result = tt; count = 0 })
  none_taken c = at_end c (λ x d. x) [] 0 0 tt most_records (omega arith)

  pub after_done : (k : ℕ) → BatchIs s [] (Ok k) → PartsAre (Err misfit) after_curve
  unfolding check_batch
  after_done k h = let q = went_on (read_curve s) (λ c. counted c []) h in on_taken (read_curve s) (λ c. refused 23 0) q.1

  pub after_refused : (r : Refused) → BatchIs s [] (Err r) → PartsAre (Err r) after_curve
  unfolding check_batch
  after_refused r h = go (read_curve s) h
    where
      go : (y : Checked CurveRecord) → go_on y (λ c. counted c []) ≡ refused (number_of r.by) r.place → go_on {B = Unit {0}} y (λ c. refused 23 0) ≡ refused (number_of r.by) r.place
      go (refused m j) v = ap₂ refused (let z : m ≡ number_of r.by = cc in z) (let z : j ≡ r.place = cc in z)
      go (taken c) v = absurd (refused_taken (sym v ∙ none_taken c))

-- ---- the parts: the curve, and behind it the count and the records
module _ (s rest : List ℕ) (x : Outcome (Unit {0}) Refused) where
  pub few_bytes : length rest < 2 → PartsAre x (go_on (read_curve s) (λ c. refused 23 0)) → PartsAre x (read_parts s rest)
  few_bytes l h = subst (PartsAre x) (sym (no_count s rest (rw (lt-leb 2 (length rest) l) refl))) h

  -- the count, as read
  module _ {n : ℕ} (en : n ≡ word16 rest 0) (l : 2 ≤ length rest) where
    pub high_count : 4096 < n → PartsAre x (go_on (read_curve s) (λ c. refused 23 0)) → PartsAre x (read_parts s rest)
    high_count u h = subst (PartsAre x) (sym (no_count s rest (rw (le-leb 2 (length rest) l, lt-leb (word16 rest 0) most_records (omega arith)) refl))) h

    pub all_parts : n ≤ 4096 → PartsAre x (as_file n (check_batch s (drop 2 rest))) → PartsAre x (read_parts s rest)
    all_parts u h = subst (PartsAre x) (ap (λ (k : ℕ). as_file k (check_batch s (drop 2 rest))) en ∙ sym (parts_are_batch s rest l (omega arith))) h

-- ---- the curve record, then the divisor records
module _ (pole : ℕ) (a b out : List ℕ) where
  pub no_room : length out < length a + length b → PoleIs (Err (record { by = OutputLength; place = 0 })) out (put 0 out (both_parts pole a b))
  no_room l = rw (lt-ltb (length out) (length (a ++ b)) (omega (arith, length-append a b))) refl

  pub both_put : {o : List ℕ} (n : ℕ) → n ≡ length a + length b → n ≤ length out → o ≡ sets (sets out 0 a) (length a) b → PoleIs (Ok (record { length = n; pole = pole })) o (put 0 out (both_parts pole a b))
  both_put n q l e = rw (q ∙ sym (length-append a b), e ∙ sym (sets_append out a b 0 (length a) (omega arith))) (sym (put_room 0 out (both_parts pole a b) (omega (arith, length-append a b))))

-- ---- what stands behind the head: its parts were read
module _ (pole : ℕ) (s out : List ℕ) {e : ℕ} (h : Ends s e) where
  go : Unit {0} → Checked (Result ℕ)
  go x = taken (both_parts pole (curve_part s) (drop 2 (behind_curve s)))

  abbrev PartsRead : Outcome (Unit {0}) Refused → Type 0
  PartsRead r = PartsAre r (read_parts (take e s) (take (length s - e) (drop e s)))

  parts_are : (r : Outcome (Unit {0}) Refused) → PartsRead r → PartsAre r (read_parts (curve_part s) (behind_curve s))
  parts_are r is = subst (PartsAre r) (ap₂ read_parts h.part (part-from s e ∙ h.rest)) is

  pub parts_stop : (r : Refused) → PartsRead (Err r) → PoleIs (Err r) out (deliver 0 out (read_behind pole s))
  unfolding go
  parts_stop r is = sym (ap (deliver 0 out) (on_refused _ go (parts_are (Err r) is)))

  module _ (is : PartsRead (Ok tt)) where
    pub parts_long : e + 2 ≤ length s
    parts_long = let t = parts_taken (curve_part s) (behind_curve s) (parts_are (Ok tt) is) in omega (arith, t.2, ap length h.rest, length-drop e s, h.inside)

    pub parts_go : (a : Outcome PoleRead Refused) (o : List ℕ) → PoleIs a o (put 0 out (both_parts pole (take e s) (take (length s - (e + 2)) (drop (e + 2) s)))) → PoleIs a o (deliver 0 out (read_behind pole s))
    unfolding go
    parts_go a o w = w ∙ sym (ap (deliver 0 out) (on_taken _ go (parts_are (Ok tt) is)) ∙ ap₂ (λ (x y : List ℕ). put 0 out (both_parts pole x y)) (sym h.part) (ap (drop 2) (sym h.rest) ∙ drop-drop 2 e s ∙ sym (part-from s (e + 2))))

-- ---- the head
module _ (file out : List ℕ) where
  abbrev head : Checked ℕ
  head = first_failed (head_checks file) (word32 file 5)

  abbrev next : ℕ → Checked (Result ℕ)
  next pole = read_behind pole (drop 9 file)

  stops : (by : Refusal) → head ≡ refused (number_of by) 0 → PoleIs (Err (record { by = by; place = 0 })) out (read_file file out)
  unfolding read_file
  stops by e = sym (ap (deliver 0 out) (on_refused _ next e))

  pub head_short : length file < 9 → PoleIs (Err misfit) out (read_file file out)
  head_short l = stops PoleFileLength (rw (lt-leb 9 (length file) l) refl)

  module _ (l : 9 ≤ length file) where
    pub unmarked : is_pole_marked file ≡ false → PoleIs (Err (record { by = PoleFileMark; place = 0 })) out (read_file file out)
    unmarked e = stops PoleFileMark (rw (le-leb 9 (length file) l, e) refl)

    module _ (marked : is_pole_marked file ≡ true) where
      pub other_version : (version_of file ≡ 1 → ⊥) → PoleIs (Err (record { by = PoleFileVersion; place = 0 })) out (read_file file out)
      other_version h = stops PoleFileVersion (rw (le-leb 9 (length file) l, marked, ne_eqb (version_of file) 1 h) refl)

      pub head_done : version_of file ≡ 1 → (r : Outcome PoleRead Refused) (o : List ℕ) (pole : ℕ) → pole ≡ word32 file 5 → PoleIs r o (deliver 0 out (read_behind pole (take (length file - 9) (drop 9 file)))) → PoleIs r o (read_file file out)
      unfolding read_file
      head_done v r o pole e w = w ∙ sym (ap (deliver 0 out) (on_taken _ next (passed_all (word32 file 5) (head_checks file) (le-leb 9 (length file) l, (marked, (eq-eqb (version_of file) 1 v, tt))))) ∙ ap₂ (λ (n : ℕ) (l : List ℕ). deliver 0 out (read_behind n l)) (sym e) (sym (part-from file 9)))
