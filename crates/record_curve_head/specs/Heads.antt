-- The first checks of a curve record. Document 01, "Numbers the tablet shows": 1 (short), 2, 3, 4, 1 (exact), in this order; document 02, W-201, of version 2: 1, 18 for k, 1.
use Rattle.std.specs.Prelude.{ℕ, suc, ◌+◌, ◌*◌, ◌≤◌, ◌≡◌, true, Result, Ok, Err, List, get_or, length}
use Rattle.refusals.specs.declared.Refusal.{Refusal}
use Rattle.refusals.specs.Refusal.{number_of}
use Rattle.rules.specs.Bytes.{words}
use Rattle.rules.specs.Tests.{is_square_free}
use Rattle.rules.specs.Records.{Checked, refused, taken, choose, is_below, elements, CurveRecord, curve, is_marked, has_genus, has_version, version_of, count_of, read_curve}

-- the first four checks pass
pub record Begun (s : List ℕ) : Type 0 where
  pub six : 6 ≤ length s
  pub mark : is_marked s ≡ true
  pub version : has_version (version_of s) ≡ true
  pub genus : has_genus (get_or s 5 0) ≡ true

-- and those of the length, in version 1 and in version 2
pub record Counted (s : List ℕ) : Type 0 where
  pub some : 1 ≤ count_of s
  pub most : count_of s ≤ 15
  pub long : length s ≡ 31 + 16 * get_or s 5 0 + 8 * count_of s

pub record Headed (s : List ℕ) : Type 0 where
  pub begun : Begun s
  pub plain : version_of s ≡ 1 → length s ≡ 22 + 16 * get_or s 5 0
  pub counted : (version_of s ≡ 1 → ⊥) → Counted s
  pub long : 22 + 16 * get_or s 5 0 ≤ length s

-- they do, or the rule refuses
abbrev pub HeadIs : List ℕ → Result (Unit {0}) Refusal → Type 0
HeadIs s (Ok done) = Headed s
HeadIs s (Err by) = read_curve s ≡ refused (number_of by) 0

-- the last two checks, of what stands behind p
abbrev pub low_rule : List ℕ → ℕ → ℕ → Checked CurveRecord
low_rule s g p =
    let f : List ℕ = words s 14 (suc (g + g)) in
    let c : CurveRecord = record { p = p; g = g; low = elements p f } in
    choose (is_below p f) (choose (is_square_free (curve c)) (taken c) (refused 7 0)) (refused 6 0)
