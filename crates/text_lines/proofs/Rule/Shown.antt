-- Document 01, "The pole's list": case P, the curve of case A and the three records (x, 1), (x + 6, 3), (x, 1), prints exactly the three lines of
-- the paper; beside it W-205's batch of (x, 1) and (x, 6), a batch without a repeat, a refusal at the second record, and files that can't be
-- read. Rows of one list under one claim, computed from the rule.
use Prim.Native.Nat.{ℕ}
use Prim.Native.String.{String}
use mathlib.Core.Path.{◌≡◌, refl}
use mathlib.Core.List.{List, [], ◌∷◌, ◌++◌, map}
use Rattle.algebra.proofs.Zmod.Zmod.{zmod, emb, num, zmod_dec}
use Rattle.algebra.proofs.Zmod.PrimeField.{inv}
use Rattle.rules.specs.Bytes.{bytes64, all_bytes}
use Rattle.rules.specs.Sum.{sum}
use Rattle.rules.specs.Records.{read_curve, numbers}
use Rattle.rules.specs.Lists.{batch_from, is_same, repeat_from}
use Rattle.rules.specs.Calls.{repeat_call}
use Rattle.text_lines.specs.digits.Digits.{letters}
use Rattle.text_lines.specs.Lines.{record_line}
use Rattle.text_lines.specs.Rule.Text.{File, unreadable, holds, text, census_text}

pub record Row : Type 0 where
  pub curve : File
  pub batch : File
  pub prints : String

-- g = 2, p = 7, f = x^5 + 1
abbrev curve_a : File
curve_a = holds (72 ∷ 74 ∷ 67 ∷ 0 ∷ 1 ∷ 2 ∷ all_bytes (7 ∷ 1 ∷ 0 ∷ 0 ∷ 0 ∷ 0 ∷ []))

-- (x + u, v)
abbrev point : ℕ → ℕ → List ℕ
point u v = 1 ∷ all_bytes (u ∷ v ∷ [])

abbrev pub rows : List Row
rows =
    record { curve = curve_a; batch = holds (point 0 1 ++ (point 6 3 ++ point 0 1)); prints = "count 3\nrepeat 1 3\ntotal 02 0000000000000004 0000000000000004 0000000000000000 0000000000000001\n" }
    ∷ record { curve = curve_a; batch = holds (point 0 1 ++ point 0 6); prints = "count 2\nrepeat 1 2\ntotal 00\n" }
    ∷ record { curve = curve_a; batch = holds (point 0 1 ++ point 6 3); prints = "count 2\nrepeat none\ntotal 02 0000000000000000 0000000000000006 0000000000000001 0000000000000002\n" }
    ∷ record { curve = curve_a; batch = holds []; prints = "count 0\nrepeat none\ntotal 00\n" }
    ∷ record { curve = curve_a; batch = holds (point 0 1 ++ point 0 2); prints = "refused 11 2\n" }
    ∷ record { curve = holds []; batch = holds []; prints = "refused 1 0\n" }
    ∷ record { curve = curve_a; batch = unreadable; prints = "refused 17 0\n" }
    ∷ record { curve = unreadable; batch = holds []; prints = "refused 17 0\n" }
    ∷ []

pub shown : map (λ r. text r.curve r.batch) rows ≡ map (λ r. letters r.prints) rows
unfolding text zmod emb num zmod_dec inv sum read_curve numbers batch_from is_same repeat_from repeat_call bytes64 all_bytes
shown = refl

-- ---- W-211: a training curve with four divisors, g = 2, p = 3, f = x^5 + 2x^2 + x + 2; a curve with p = 17; and what isn't a curve or a file
pub record CensusRow : Type 0 where
  pub curve : File
  pub prints : String

abbrev pub census-rows : List CensusRow
census-rows =
    record { curve = holds (72 ∷ 74 ∷ 67 ∷ 0 ∷ 1 ∷ 2 ∷ all_bytes (3 ∷ 2 ∷ 1 ∷ 2 ∷ 0 ∷ 0 ∷ [])); prints = "00\n01 0000000000000002 0000000000000000\n02 0000000000000001 0000000000000000 0000000000000001 0000000000000001\n02 0000000000000001 0000000000000000 0000000000000002 0000000000000002\n" }
    ∷ record { curve = holds (72 ∷ 74 ∷ 67 ∷ 0 ∷ 1 ∷ 2 ∷ all_bytes (17 ∷ 1 ∷ 0 ∷ 0 ∷ 0 ∷ 0 ∷ [])); prints = "refused 25 0\n" }
    ∷ record { curve = holds []; prints = "refused 1 0\n" }
    ∷ record { curve = unreadable; prints = "refused 17 0\n" }
    ∷ []

pub census_shown : map (λ r. census_text r.curve) census-rows ≡ map (λ r. letters r.prints) census-rows
unfolding census_text zmod emb num zmod_dec inv read_curve numbers record_line bytes64 all_bytes
census_shown = refl
