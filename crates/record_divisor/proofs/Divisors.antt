-- Divisor records: a law for each answer of the rule `divisor_at`.
use Prim.Native.Nat.{ℕ, ◌+◌, ◌*◌, ◌≤◌, ◌<◌}
use mathlib.Core.Path.{◌≡◌, refl, sym, ap, ap₂, ◌∙◌, subst}
use mathlib.Core.List.{List}
use mathlib.Core.Bool.{Bool, true, false}
use native.Mathlib.Omega.{arith}
use borrow.Author.Tests.{lt-ltb, le-ltb, le-leb, lt-leb, leb-true, eqb-true}
use lib.Dec.{ltb, leb}
use lib.ListN.{get_or, length, drop, length-drop}
use Rattle.std.specs.Prelude.{Ok, Err}
use Rattle.refusals.specs.declared.Refusal.TheVariants.{DivisorLength, Weight, DivisorCoefficient, NotOnCurve}
use Rattle.field.specs.declared.Residue.{Residue}
use Rattle.rules.specs.Bytes.{words}
use Rattle.rules.specs.Tests.{is_on_curve}
use Rattle.rules.specs.Records.{Checked, refused, taken, choose, both, fits, PairOf, is_below, elements, divisor_at}
use Rattle.rules.proofs.Demand3.{on_curve_test}
use Rattle.field.proofs.Decide.{otherwise}
use Rattle.divisor.specs.declared.Divisor.{Divisor}
use Rattle.divisor.specs.Divisors.{weight_of, pair, elements as values, AllSettled, RowOf, Held}
use Rattle.divisor.proofs.Rows.{row_u, row_v}
use Rattle.curve.specs.declared.Curve.{Curve}
use Rattle.curve.specs.Curves.{curve_of, Divided}
use Rattle.curve.specs.Record.{record_of}
use Rattle.record_bytes.proofs.Rows.{below-append, words_append, length_row}
use Rattle.record_numbers.specs.Read.{ResiduesHeld}
use Rattle.record_numbers.proofs.Rows.{Holding, held_elements, held_settled, held_behind}
use Rattle.record_divisor.specs.Read.{DivisorIs}

pub fits-within : (whole : Bool) (end all : ℕ) → fits whole end all ≡ true → end ≤ all
fits-within true end all e = omega (arith, eqb-true all end e)
fits-within false end all e = leb-true end all e

-- ---- the checks
module _ (c : Curve) (whole : Bool) (s : List ℕ) (a : ℕ) where
  abbrev p : ℕ
  p = c.prime.m.p

  pub no_weight : length s ≤ a → DivisorIs c whole s a (Err DivisorLength)
  unfolding divisor_at
  no_weight l k = rw (le-ltb a (length s) l)

  -- the rule, where the weight is w
  abbrev made : ℕ → PairOf (record_of c)
  made w = record { u = elements p (words s (a + 1) w); v = elements p (words s (a + 1 + 8 * w) w) }

  abbrev ruled : ℕ → ℕ → Checked (PairOf (record_of c))
  ruled k w =
      choose (ltb a (length s))
      (choose (leb w c.g)
      (choose (fits whole (a + 1 + 16 * w) (length s))
      (choose (both (is_below p (words s (a + 1) w)) (is_below p (words s (a + 1 + 8 * w) w)))
      (choose (is_on_curve (curve_of c) (made w)) (taken (made w))
      (refused 11 k))
      (refused 10 k))
      (refused 8 k))
      (refused 9 k))
      (refused 8 k)

  module _ (w : ℕ) (w_is : w ≡ get_or s a 0) (inside : a < length s) where
    rule_is : (k : ℕ) → divisor_at (record_of c) k whole s a ≡ ruled k w
    unfolding divisor_at
    rule_is k = ap (ruled k) (sym w_is)

    pub too_heavy : c.g < w → DivisorIs c whole s a (Err Weight)
    too_heavy l k = rule_is k ∙ rw (lt-ltb a (length s) inside, lt-leb w c.g l)

    module _ (light : w ≤ c.g) where
      pub no_room : fits whole (a + 1 + 16 * w) (length s) ≡ false → DivisorIs c whole s a (Err DivisorLength)
      no_room e k = rule_is k ∙ rw (lt-ltb a (length s) inside, le-leb w c.g light, e)

      module _ (room : fits whole (a + 1 + 16 * w) (length s) ≡ true) where
        both_are : both (is_below p (words s (a + 1) w)) (is_below p (words s (a + 1 + 8 * w) w)) ≡ is_below p (words s (a + 1) (2 * w))
        both_are = sym (ap (λ (n : ℕ). is_below p (words s (a + 1) n)) {x = 2 * w} {y = w + w} (omega arith) ∙ ap (is_below p) (words_append s (a + 1) w w) ∙ below-append p (words s (a + 1) w) (words s (a + 1 + 8 * w) w))

        pub too_large : is_below p (words s (a + 1) (2 * w)) ≡ false → DivisorIs c whole s a (Err DivisorCoefficient)
        too_large e k = rule_is k ∙ rw (lt-ltb a (length s) inside, le-leb w c.g light, room, both_are ∙ e)

        module _ (r : List Residue) (hr : ResiduesHeld s (a + 1) (2 * w) c.prime.m r) (d : Divisor) (w-of : weight_of d ≡ w) (row : RowOf d r) where
          all_held : Holding c.prime.m s r (a + 1) (w + w)
          all_held k i z = hr.held k z (omega arith)

          for_v : Holding c.prime.m s (drop w r) (a + 1 + 8 * w) w
          for_v = held_behind c.prime.m s r (a + 1) w w all_held

          for_u : Holding c.prime.m s r (a + 1) w
          for_u k i z = all_held k (omega arith) z

          enough : w ≤ length r
          enough = omega (arith, hr.long, c.genus.most)

          enough_v : w ≤ length (drop w r)
          enough_v = omega (arith, hr.long, c.genus.most, length-drop w r)

          pub held : Held c.prime.m d
          held = record {
            u = subst (AllSettled c.prime.m) (sym (row_u d r row w w-of)) (held_settled c.prime.m s r (a + 1) w enough for_u);
            v = subst (AllSettled c.prime.m) (sym (row_v d r row w w-of)) (held_settled c.prime.m s (drop w r) (a + 1 + 8 * w) w enough_v for_v);
          }

          u_is : (pair c.prime.m d).u ≡ (made w).u
          unfolding pair
          u_is = ap (values c.prime.m) (row_u d r row w w-of) ∙ held_elements c.prime.m s r (a + 1) w enough for_u

          v_is : (pair c.prime.m d).v ≡ (made w).v
          unfolding pair
          v_is = ap (values c.prime.m) (row_v d r row w w-of) ∙ held_elements c.prime.m s (drop w r) (a + 1 + 8 * w) w enough_v for_v

          weight_u : length (pair c.prime.m d).u ≡ w
          weight_u = ap length u_is ∙ length_row s p (a + 1) w

          weight_v : length (pair c.prime.m d).v ≡ w
          weight_v = ap length v_is ∙ length_row s p (a + 1 + 8 * w) w

          made_is : made w ≡ pair c.prime.m d
          made_is = ap₂ (λ u v. record { u = u; v = v }) (sym u_is) (sym v_is)

          last : (k : ℕ) → divisor_at (record_of c) k whole s a ≡ choose (is_on_curve (curve_of c) (pair c.prime.m d)) (taken (pair c.prime.m d)) (refused 11 k)
          last k = rule_is k ∙ rw (lt-ltb a (length s) inside, le-leb w c.g light, room, both_are ∙ hr.below) refl
              ∙ ap (λ t. choose (is_on_curve (curve_of c) t) (taken t) (refused 11 k)) made_is

          pub on_curve : Divided c d → DivisorIs c whole s a (Ok d)
          on_curve q = (
            record { held = held; valid = record { fits = weight_v ∙ sym weight_u; small = omega (arith, weight_u); divides = q } },
            λ k. last k ∙ ap (λ b. choose b (taken (pair c.prime.m d)) (refused 11 k)) ((on_curve_test (curve_of c) (pair c.prime.m d)).1 q),
          )

          pub off_curve : (Divided c d → ⊥) → DivisorIs c whole s a (Err NotOnCurve)
          off_curve n k = last k ∙ ap (λ b. choose b (taken (pair c.prime.m d)) (refused 11 k)) (otherwise (is_on_curve (curve_of c) (pair c.prime.m d)) (λ e. n ((on_curve_test (curve_of c) (pair c.prime.m d)).0 e)))
