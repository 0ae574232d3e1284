-- Where the curve record that bytes begin with ends: by its version (`first_length`, `second_length`); and bytes that begin with one that is taken have it as their part, whatever follows (`curve_part_is`,
-- `behind_is`).
use Prim.Native.Nat.{ℕ, ◌+◌, ◌*◌, ◌≤◌, ◌<◌}
use mathlib.Core.Path.{◌≡◌, sym, ap, ◌∙◌}
use mathlib.Core.Bool.{Bool, true, false}
use mathlib.Core.List.{List, ◌++◌}
use mathlib.Core.Logic.{inl, inr}
use native.Mathlib.Omega.{arith}
use lib.Dec.{eqb}
use lib.ListN.{get_or, length, get_or-append}
use lib.Seq.{take_at, drop_at}
use borrow.Author.Tests.{eq-eqb, ne_eqb}
use Rattle.rules.specs.Checks.{taken, choose}
use Rattle.rules.specs.Records.{CurveRecord, version_of, count_of, read_curve}
use Rattle.rules.proofs.Calls.CurveRecords.{Formed, curve_read}
use Rattle.rules.specs.Pole.PoleFile.{curve_length, curve_part, behind_curve}

module _ (s : List ℕ) where
  by_version : Bool → ℕ
  by_version b = choose b (22 + 16 * get_or s 5 0) (31 + 16 * get_or s 5 0 + 8 * count_of s)

  pub first_length : version_of s ≡ 1 → curve_length s ≡ 22 + 16 * get_or s 5 0
  unfolding curve_length by_version
  first_length e = ap by_version (eq-eqb (version_of s) 1 e)

  pub second_length : (version_of s ≡ 1 → ⊥) → curve_length s ≡ 31 + 16 * get_or s 5 0 + 8 * count_of s
  unfolding curve_length by_version
  second_length h = ap by_version (ne_eqb (version_of s) 1 h)

  -- its first 22 bytes at least
  pub length_least : 22 ≤ curve_length s
  unfolding curve_length by_version
  length_least = go (eqb (version_of s) 1)
    where
      go : (b : Bool) → 22 ≤ by_version b
      go true = omega arith
      go false = omega arith

module _ (s : List ℕ) {c : CurveRecord} (ec : read_curve s ≡ taken c) (r : List ℕ) where
  six : 6 ≤ length s
  six = (curve_read s ec).0.six

  same : (i : ℕ) → i < length s → get_or (s ++ r) i 0 ≡ get_or s i 0
  same i l = get_or-append s r 0 i l

  whole : Formed s → curve_length (s ++ r) ≡ length s
  whole (inl h) = first_length (s ++ r) (omega (arith, h.version, same 3 (omega (arith, six)), same 4 (omega (arith, six)))) ∙ omega (arith, h.long, same 5 (omega (arith, six)))
  whole (inr h) = second_length (s ++ r) (λ z. omega (arith, z, h.version, same 3 (omega (arith, six)), same 4 (omega (arith, six))))
      ∙ omega (arith, h.long, same 5 (omega (arith, six)), ap (λ (i : ℕ). get_or (s ++ r) i 0) {x = 30 + 16 * get_or (s ++ r) 5 0} {y = 30 + 16 * get_or s 5 0} (omega (arith, same 5 (omega (arith, six)))), same (30 + 16 * get_or s 5 0) (omega (arith, h.long)))

  pub curve_whole : curve_length (s ++ r) ≡ length s
  curve_whole = whole (curve_read s ec).0.formed

  pub curve_part_is : curve_part (s ++ r) ≡ s
  curve_part_is = take_at s r (curve_length (s ++ r)) (sym curve_whole)

  pub behind_is : behind_curve (s ++ r) ≡ r
  behind_is = drop_at s r (curve_length (s ++ r)) (sym curve_whole)
