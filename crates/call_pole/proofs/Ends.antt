-- Where the curve record that bytes begin with ends, by its version.
use Prim.Native.Nat.{ℕ, ◌+◌, ◌*◌, ◌≤◌, ◌<◌, min}
use mathlib.Core.Path.{◌≡◌, refl, sym, ap, ◌∙◌}
use mathlib.Core.Bool.{Bool, true, false}
use mathlib.Core.List.{List}
use native.Mathlib.Omega.{arith}
use lib.Dec.{leb}
use lib.ListN.{get_or, length, take, drop, drop_of_length-le}
use lib.Seq.{take_all, take-length, drop-length}
use borrow.Author.Tests.{leb-true, leb-false}
use Rattle.rules.specs.Records.{version_of}
use Rattle.rules.specs.Pole.PoleFile.{curve_length}
use Rattle.rules.proofs.Pole.CurveParts.{first_length, second_length, length_least}
use Rattle.call_pole.specs.Files.{Ends}

module _ (s : List ℕ) where
  -- cut short
  pub ends_all : length s ≤ curve_length s → Ends s (length s)
  ends_all h = record {
    inside = omega arith;
    part = take-length s ∙ sym (take_all (curve_length s) s h);
    rest = drop-length s ∙ sym (drop_of_length-le s h);
  }

  ends_there_all : {r : ℕ} → r ≡ length s → length s ≤ curve_length s → Ends s r
  ends_there_all e h = rw e (ends_all h)

  pub ends_there : {n : ℕ} → n ≡ curve_length s → n ≤ length s → Ends s n
  ends_there e h = record { inside = h; part = ap (λ (k : ℕ). take k s) e; rest = ap (λ (k : ℕ). drop k s) e }

  -- n bytes, or all of them where there are fewer
  ends_least : {n r : ℕ} → n ≡ curve_length s → r ≡ min n (length s) → Ends s r
  ends_least {n} {r} e h = go (leb n (length s)) refl
    where
      go : (b : Bool) → leb n (length s) ≡ b → Ends s r
      go true q = let l : n ≤ length s = leb-true n (length s) q in ends_there (omega (arith, h, e)) (omega (arith, h))
      go false q = let l : length s < n = leb-false n (length s) q in ends_there_all (omega (arith, h)) (omega arith)

  pub ends_short : length s < 6 → Ends s (length s)
  ends_short h = ends_all (omega (arith, length_least s))

  -- g and the version, as read
  module _ {g v : ℕ} (eg : g ≡ get_or s 5 0) (ev : v ≡ version_of s) where
    pub ends_first : {r : ℕ} → v ≡ 1 → r ≡ min (22 + 16 * g) (length s) → Ends s r
    ends_first e h = ends_least (omega (arith, eg, first_length s (sym ev ∙ e))) h

    -- the record ends before its k
    pub ends_early : (v ≡ 1 → ⊥) → length s < 22 + 16 * g + 9 → Ends s (length s)
    ends_early e h = ends_all (omega (arith, eg, second_length s (λ z. e (ev ∙ z))))

    pub ends_second : {k r : ℕ} → (v ≡ 1 → ⊥) → k ≡ get_or s (22 + 16 * g + 8) 0 → r ≡ min (22 + 16 * g + 9 + 8 * k) (length s) → Ends s r
    ends_second e q h = ends_least (omega (arith, eg, q, second_length s (λ z. e (ev ∙ z)), ap (λ (k : ℕ). get_or s k 0) {x = 22 + 16 * g + 8} {y = 30 + 16 * get_or s 5 0} (omega arith))) h
