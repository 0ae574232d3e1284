-- 16 and 17, which the programs alone give, in mathematical words: a program prints `refused 17 0` exactly where a file can't be opened or read, and `refused 16 0` exactly where one has over 65,536 bytes, each time the earlier checks passing. Of the pole's list, which reads
-- the curve and then the batch (`text_17`, `text_16`), and of the census, which reads the curve alone (`census_17`, `census_16`). No text of bytes that were read is either line.
-- Open: `Readable`, `Short`.
use Prim.Native.Nat.{ℕ, ◌≤◌, ◌<◌}
use mathlib.Core.Path.{◌≡◌, refl, sym, ap, ◌∙◌}
use mathlib.Core.List.{List, [], ◌∷◌, ◌++◌, flat_map}
use mathlib.Core.Bool.{Bool, true, false}
use mathlib.Core.Logic.{◌↔◌, ◌⊎◌, inl, inr}
use native.Mathlib.Omega.{arith}
use lib.Dec.{ltb, leb}
use lib.ListN.{get_or, length}
use borrow.Author.Tests.{ltb-true, ltb-false}
use Rattle.rules.specs.Pair.{neutral}
use Rattle.rules.specs.Sum.{sum}
use Rattle.rules.specs.Checks.{Checked, refused, taken, choose, first_failed, go_on}
use Rattle.rules.specs.Records.{CurveRecord, curve, PairOf, read_curve}
use Rattle.rules.specs.Lists.{Batch, batch}
use Rattle.rules.specs.Census.{census}
use Rattle.rules.specs.Calls.{training_checks, repeat_call}
use Rattle.rules.proofs.Calls.Given.{◌and◌}
use Rattle.rules.proofs.Calls.Refusals.{OfCurve, curve-refused, divisor_refused}
use Rattle.rules.proofs.Calls.Places.{Faulty, Over, batch_refused}
use Rattle.rules.proofs.Calls.Reached.{through, second, right}
use Rattle.text_lines.specs.Lines.{count_line, repeat_line, total_line, record_line, refused_line}
use Rattle.text_lines.specs.Rule.Text.{or_refused, File, unreadable, holds, with_file, text_of, text, lines_of, census_of, census_text}
use Rattle.text_lines.proofs.Rule.Told.{line_tells, refused-first, count-first, record_first}

-- ---- what is asked of a file
abbrev pub Readable : File → Type 0
Readable unreadable = ⊥
Readable (holds s) = Unit {0}

abbrev pub bytes_in : File → List ℕ
bytes_in unreadable = []
bytes_in (holds s) = s

abbrev pub Short : File → Type 0
Short f = length (bytes_in f) ≤ 65536

-- of one file, and what goes on with its bytes
module _ (go : List ℕ → List ℕ) where
  pub file_17 : (f : File) → (with_file f go ≡ refused_line 17 0) ↔ ((¬ Readable f) ⊎ (Readable f and Short f and (go (bytes_in f) ≡ refused_line 17 0)))
  unfolding with_file
  file_17 unreadable = (λ e. inl (λ h. h), λ h. refl)
  file_17 (holds s) = by (ltb 65536 (length s)) refl
    where
      by : (t : Bool) → ltb 65536 (length s) ≡ t → (choose t (refused_line 16 0) (go s) ≡ refused_line 17 0) ↔ ((¬ Unit {0}) ⊎ (Unit {0} and (length s ≤ 65536) and (go s ≡ refused_line 17 0)))
      by true q = (λ e. absurd (omega (arith, line_tells 16 0 17 0 e)), λ h. elim h [ inl f ↦ absurd (f tt) | inr t ↦ absurd (omega (arith, ltb-true 65536 (length s) q, t.1.0)) ])
      by false q = (λ e. inr (tt, (ltb-false 65536 (length s) q, e)), λ h. elim h [ inl f ↦ absurd (f tt) | inr t ↦ t.1.1 ])

  pub file_16 : (f : File) → (with_file f go ≡ refused_line 16 0) ↔ (Readable f and ((¬ Short f) ⊎ (Short f and (go (bytes_in f) ≡ refused_line 16 0))))
  unfolding with_file
  file_16 unreadable = (λ e. absurd (omega (arith, line_tells 17 0 16 0 e)), λ h. absurd h.0)
  file_16 (holds s) = by (ltb 65536 (length s)) refl
    where
      by : (t : Bool) → ltb 65536 (length s) ≡ t → (choose t (refused_line 16 0) (go s) ≡ refused_line 16 0) ↔ (Unit {0} and ((¬ (length s ≤ 65536)) ⊎ ((length s ≤ 65536) and (go s ≡ refused_line 16 0))))
      by true q = (λ e. (tt, inl (λ h. omega (arith, ltb-true 65536 (length s) q, h))), λ h. refl)
      by false q = (λ e. (tt, inr (ltb-false 65536 (length s) q, e)), λ h. elim h.1 [ inl f ↦ absurd (f (ltb-false 65536 (length s) q)) | inr t ↦ t.1 ])

-- ---- bytes that were read give neither 16 nor 17
module _ (n : ℕ) (above : 14 < n) (below : n < 18) where
  -- the curve's numbers
  not_of_curve : {m j : ℕ} → OfCurve m j → refused_line m j ≡ refused_line n 0 → ⊥
  not_of_curve {m} {j} o e = let z = line_tells m j n 0 e in omega (arith, z, above, below, o.apart (omega (arith, z, above)))

  -- of the pole's list
  pub text_other : (s records : List ℕ) → text_of s records ≡ refused_line n 0 → ⊥
  unfolding text_of
  text_other s records e = on_curve (read_curve s) refl e
    where
      lines : (c : CurveRecord) → Batch (PairOf c) → List ℕ
      lines c b = count_line b.count ++ (repeat_line (repeat_call s records).own ++ total_line c.p b.result)

      fault : (c : CurveRecord) {m j : ℕ} → Faulty c records m j ⊎ Over c m j → m ≡ n → ⊥
      fault c {m} {j} (inl f) z = omega (arith, z, above, (divisor_refused c j false records _ f.fault).1)
      fault c (inr o) z = omega (arith, z, above, o.0)

      on_batch : (c : CurveRecord) (x : Checked (Batch (PairOf c))) → batch c (sum (curve c)) records neutral ≡ x → or_refused x (lines c) ≡ refused_line n 0 → ⊥
      on_batch c (refused m j) q e = fault c (batch_refused c (sum (curve c)) records neutral q) (line_tells m j n 0 e)
      on_batch c (taken b) q e =
          let rest : List ℕ = repeat_line (repeat_call s records).own ++ total_line c.p b.result in
          let z : ◌≡◌ {A = ℕ} 99 114 = sym (count-first b.count rest) ∙ ap (λ (l : List ℕ). get_or l 0 0) e ∙ refused-first n 0 in
          omega arith

      on_curve : (x : Checked CurveRecord) → read_curve s ≡ x → or_refused x (λ c. or_refused (batch c (sum (curve c)) records neutral) (lines c)) ≡ refused_line n 0 → ⊥
      on_curve (refused m j) q e = not_of_curve (curve-refused s q) e
      on_curve (taken c) q e = on_batch c (batch c (sum (curve c)) records neutral) refl e

  -- of the census
  pub census_other : (s : List ℕ) → census_of s ≡ refused_line n 0 → ⊥
  unfolding census_of flat_map
  census_other s e = on_curve (read_curve s) refl e
    where
      lines : (c : CurveRecord) (l : List (PairOf c)) → flat_map (record_line c.p) l ≡ refused_line n 0 → ⊥
      lines c [] e = let z : ◌≡◌ {A = ℕ} 0 114 = ap (λ (l : List ℕ). get_or l 0 0) e ∙ refused-first n 0 in omega arith
      lines c (x ∷ l) e = omega (arith, record_first c.p x (flat_map (record_line c.p) l), ap (λ (l : List ℕ). get_or l 0 0) e, refused-first n 0)

      trained : (c : CurveRecord) (t : Bool) → or_refused (choose t (taken c) (refused 25 0)) lines_of ≡ refused_line n 0 → ⊥
      trained c true e = lines c (census c) e
      trained c false e = let z = line_tells 25 0 n 0 e in omega (arith, z, below)

      on_curve : (x : Checked CurveRecord) → read_curve s ≡ x → or_refused (go_on x (λ c. first_failed (training_checks c) c)) lines_of ≡ refused_line n 0 → ⊥
      on_curve (refused m j) q e = not_of_curve (curve-refused s q) e
      on_curve (taken c) q e = trained c (leb c.p 13) e

-- ---- the numbers: of the pole's list
module _ (curve batch : File) where
  abbrev behind : List ℕ → List ℕ
  behind s = with_file batch (λ b. text_of s b)

  behind_17 : (s : List ℕ) → (behind s ≡ refused_line 17 0) ↔ (¬ Readable batch)
  behind_17 s = let f = file_17 (λ b. text_of s b) batch in
      (λ e. elim (f.0 e) [ inl h ↦ h | inr t ↦ absurd (text_other 17 (omega arith) (omega arith) s (bytes_in batch) t.1.1) ], λ h. f.1 (inl h))

  behind_16 : (s : List ℕ) → (behind s ≡ refused_line 16 0) ↔ (Readable batch and ¬ Short batch)
  behind_16 s = through (file_16 (λ b. text_of s b) batch) (second
      (λ h. elim h [ inl f ↦ f | inr t ↦ absurd (text_other 16 (omega arith) (omega arith) s (bytes_in batch) t.1) ], inl))

  pub text_17 : (text curve batch ≡ refused_line 17 0) ↔ ((¬ Readable curve) ⊎ (Readable curve and Short curve and ¬ Readable batch))
  unfolding text
  text_17 = through (file_17 behind curve) (right (second (second (behind_17 (bytes_in curve)))))

  pub text_16 : (text curve batch ≡ refused_line 16 0) ↔ (Readable curve and ((¬ Short curve) ⊎ (Short curve and Readable batch and ¬ Short batch)))
  unfolding text
  text_16 = through (file_16 behind curve) (second (right (second (behind_16 (bytes_in curve)))))

-- of the census
pub census_17 : (curve : File) → (census_text curve ≡ refused_line 17 0) ↔ (¬ Readable curve)
unfolding census_text
census_17 curve = let f = file_17 census_of curve in
    (λ e. elim (f.0 e) [ inl h ↦ h | inr t ↦ absurd (census_other 17 (omega arith) (omega arith) (bytes_in curve) t.1.1) ], λ h. f.1 (inl h))

pub census_16 : (curve : File) → (census_text curve ≡ refused_line 16 0) ↔ (Readable curve and ¬ Short curve)
unfolding census_text
census_16 curve = through (file_16 census_of curve) (second
    (λ h. elim h [ inl f ↦ f | inr t ↦ absurd (census_other 16 (omega arith) (omega arith) (bytes_in curve) t.1) ], inl))
