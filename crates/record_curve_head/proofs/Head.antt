-- The first checks of a curve record: a law for each refusal, and what the rule comes to where they pass, in version 1 (`behind_plain`) and in version 2 (`behind_witness`).
use Prim.Native.Nat.{ℕ, ◌+◌, ◌*◌, ◌≤◌, ◌<◌}
use mathlib.Core.Path.{◌≡◌, refl, ap, ap₂, ◌∙◌}
use mathlib.Core.List.{List}
use mathlib.Core.Bool.{Bool, true, false}
use native.Mathlib.Omega.{arith}
use borrow.Author.Tests.{lt-leb, le-leb, eq-eqb, ne_eqb}
use lib.Dec.{eqb, leb}
use lib.ListN.{get_or, length}
use Rattle.std.specs.Prelude.{Ok, Err}
use Rattle.refusals.specs.declared.Refusal.TheVariants.{CurveLength, Mark, Version, Genus, Witness}
use Rattle.rules.specs.Bytes.{word64}
use Rattle.rules.specs.Records.{Checked, refused, choose, both, is_marked, has_genus, has_version, version_of, base_of, count_of, primes_of, CurveRecord, is_odd_prime, is_odd_number, is_witnessed, read_curve}
use Rattle.record_curve_head.specs.Heads.{Begun, Headed, HeadIs, low_rule}

module _ (s : List ℕ) where
  abbrev g : ℕ
  g = get_or s 5 0

  abbrev p : ℕ
  p = word64 s 6

  pub too_short : length s < 6 → HeadIs s (Err CurveLength)
  unfolding read_curve
  too_short l = rw (lt-leb 6 (length s) l)

  pub unmarked : 6 ≤ length s → is_marked s ≡ false → HeadIs s (Err Mark)
  unfolding read_curve
  unmarked long e = rw (le-leb 6 (length s) long, e)

  pub other_version : 6 ≤ length s → is_marked s ≡ true → has_version (version_of s) ≡ false → HeadIs s (Err Version)
  unfolding read_curve
  other_version long mark e = rw (le-leb 6 (length s) long, mark, e)

  pub other_genus : 6 ≤ length s → is_marked s ≡ true → has_version (version_of s) ≡ true → has_genus g ≡ false → HeadIs s (Err Genus)
  unfolding read_curve
  other_genus long mark version e = rw (le-leb 6 (length s) long, mark, version, e)

  -- ---- behind g
  module _ (h : Begun s) where
    abbrev prime_plain : Checked CurveRecord
    prime_plain = choose (is_odd_prime p) (low_rule s g p) (refused 5 0)

    abbrev prime_witness : Checked CurveRecord
    prime_witness = choose (is_odd_number p) (choose (is_witnessed p (base_of s) (primes_of s)) (low_rule s g p) (refused 18 0)) (refused 5 0)

    plain_rule : version_of s ≡ 1 → read_curve s ≡ choose (eqb (length s) (22 + 16 * g)) prime_plain (refused 1 0)
    unfolding read_curve
    plain_rule v = rw (le-leb 6 (length s) h.six, h.mark, h.version, h.genus, eq-eqb (version_of s) 1 v)

    witness_rule : (version_of s ≡ 1 → ⊥) → read_curve s
        ≡ choose (leb (31 + 16 * g) (length s)) (choose (both (leb 1 (count_of s)) (leb (count_of s) 15)) (choose (eqb (length s) (31 + 16 * g + 8 * count_of s)) prime_witness (refused 1 0)) (refused 18 0)) (refused 1 0)
    unfolding read_curve
    witness_rule v = rw (le-leb 6 (length s) h.six, h.mark, h.version, h.genus, ne_eqb (version_of s) 1 v)

    module _ (v : version_of s ≡ 1) where
      pub plain_other : (length s ≡ 22 + 16 * g → ⊥) → HeadIs s (Err CurveLength)
      plain_other n = plain_rule v ∙ ap (λ b. choose b prime_plain (refused 1 0)) (ne_eqb (length s) (22 + 16 * g) n)

      pub plain_passed : length s ≡ 22 + 16 * g → HeadIs s (Ok tt)
      plain_passed e = record { begun = h; plain = λ z. e; counted = λ n. absurd (n v); long = omega arith }

      pub behind_plain : Headed s → read_curve s ≡ prime_plain
      behind_plain hd = plain_rule v ∙ ap (λ b. choose b prime_plain (refused 1 0)) (eq-eqb (length s) (22 + 16 * g) (hd.plain v))

    module _ (v : version_of s ≡ 1 → ⊥) where
      -- the tests as they came out
      by_tests : {a b c : Bool} → leb (31 + 16 * g) (length s) ≡ a → both (leb 1 (count_of s)) (leb (count_of s) 15) ≡ b → eqb (length s) (31 + 16 * g + 8 * count_of s) ≡ c
          → read_curve s ≡ choose a (choose b (choose c prime_witness (refused 1 0)) (refused 18 0)) (refused 1 0)
      by_tests ea eb ec = witness_rule v ∙ rw (ea, eb, ec)

      pub ends_early : length s < 31 + 16 * g → HeadIs s (Err CurveLength)
      ends_early l = by_tests (lt-leb (31 + 16 * g) (length s) l) refl refl

      module _ (long : 31 + 16 * g ≤ length s) where
        pub count_none : count_of s < 1 → HeadIs s (Err Witness)
        count_none l = by_tests (le-leb (31 + 16 * g) (length s) long) (ap (λ b. both b (leb (count_of s) 15)) (lt-leb 1 (count_of s) l)) refl

        pub count_many : 15 < count_of s → HeadIs s (Err Witness)
        count_many l = by_tests (le-leb (31 + 16 * g) (length s) long) (ap₂ both (le-leb 1 (count_of s) (omega arith)) (lt-leb (count_of s) 15 l)) refl

        module _ (some : 1 ≤ count_of s) (most : count_of s ≤ 15) where
          is_counted : both (leb 1 (count_of s)) (leb (count_of s) 15) ≡ true
          is_counted = ap₂ both (le-leb 1 (count_of s) some) (le-leb (count_of s) 15 most)

          pub counted_other : (length s ≡ 31 + 16 * g + 8 * count_of s → ⊥) → HeadIs s (Err CurveLength)
          counted_other n = by_tests (le-leb (31 + 16 * g) (length s) long) is_counted (ne_eqb (length s) (31 + 16 * g + 8 * count_of s) n)

          pub counted_passed : length s ≡ 31 + 16 * g + 8 * count_of s → HeadIs s (Ok tt)
          counted_passed e = record { begun = h; plain = λ z. absurd (v z); counted = λ n. record { some = some; most = most; long = e }; long = omega arith }

      pub behind_witness : Headed s → read_curve s ≡ prime_witness
      behind_witness hd = let k = hd.counted v in
          by_tests (le-leb (31 + 16 * g) (length s) (omega (arith, k.long))) (ap₂ both (le-leb 1 (count_of s) k.some) (le-leb (count_of s) 15 k.most)) (eq-eqb (length s) (31 + 16 * g + 8 * count_of s) k.long)

  -- the byte k, where g is read
  pub count_at : (n : ℕ) → n ≡ g → get_or s (30 + 16 * n) 0 ≡ count_of s
  count_at n e = ap (λ (x : ℕ). get_or s (30 + 16 * x) 0) e
