-- A total taken up again: an answer's law for each check of the rule `resume`.
use Prim.Native.Nat.{ℕ, ◌≤◌, ◌<◌}
use mathlib.Core.Path.{◌≡◌, refl, ap, ◌∙◌}
use mathlib.Core.Bool.{true}
use mathlib.Core.List.{map}
use native.Mathlib.Omega.{arith}
use borrow.Author.Tests.{lt-ltb, le-ltb, le-leb, lt-leb, eq-eqb}
use lib.Dec.{ltb, leb, eqb}
use lib.ListN.{length}
use Rattle.rules.specs.Tests.{is_on_curve}
use Rattle.rules.specs.Records.{Checked, refused, taken, choose, PairOf}
use Rattle.rules.specs.Lists.{most_records}
use Rattle.rules.specs.Calls.{resume}
use Rattle.rules.proofs.Demand3.{on_curve_test}
use Rattle.field.specs.Residues.{raw}
use Rattle.scan_total.specs.numbers.Plain.{AllIn, Resumed}
use Rattle.divisor.specs.declared.Divisor.{Divisor}
use Rattle.divisor.specs.Divisors.{weight_of, us, vs, pair}
use Rattle.divisor.proofs.Laws.{weight_is, weight_is_v}
use Rattle.curve.specs.declared.Curve.{Curve}
use Rattle.curve.specs.Curves.{curve_of, Divided}
use Rattle.curve.specs.Record.{record_of}
use Rattle.std.specs.Prelude.{Ok, Err}
use Rattle.refusals.specs.declared.Refusal.TheVariants.{RunningTotal, Full}
use Rattle.scan_total.specs.resume.Resumes.{total_of, ResumeIs}
use Rattle.field.proofs.Decide.{otherwise}
use Rattle.scan_total.proofs.resume.Ranges.{all_below, not_below, one_length, length-raw}

module _ (c : Curve) (d : Divisor) (count : ℕ) where
  same : eqb (length (map raw (vs d))) (length (map raw (us d))) ≡ true
  same = eq-eqb (length (map raw (vs d))) (length (map raw (us d))) (one_length d)

  -- the rule's last checks, of a divisor x
  abbrev last : PairOf (record_of c) → Checked (PairOf (record_of c))
  last x =
      choose (is_on_curve (curve_of c) x)
      (choose (leb (count) most_records)
      (choose (ltb (count) most_records) (taken x)
      (refused 14 0))
      (refused 15 0))
      (refused 15 0)

  module _ (w : ℕ) (w_is : w ≡ weight_of d) where
    pub heavy : c.g < w → ResumeIs c d count (Err RunningTotal)
    unfolding resume
    heavy l = λ pole. rw (lt-leb (length (map raw (us d))) c.g (omega (arith, length-raw d)))

    module _ (light : w ≤ c.g) where
      pub out_of_range : (AllIn c.prime.m d → ⊥) → ResumeIs c d count (Err RunningTotal)
      unfolding resume
      out_of_range n = λ pole. rw (le-leb (length (map raw (us d))) c.g (omega (arith, length-raw d)), same, not_below c.prime.m d n)

      module _ (all : AllIn c.prime.m d) (x : Divisor) (hx : Resumed c.prime.m d x) where
        rule_is : (pole : ℕ) → resume (record_of c) (total_of d count pole) ≡ last (pair c.prime.m x)
        unfolding resume
        rule_is pole = rw (le-leb (length (map raw (us d))) c.g (omega (arith, length-raw d)), same, all_below c.prime.m d all) refl ∙ ap last hx.is

        pub off_curve : (Divided c x → ⊥) → ResumeIs c d count (Err RunningTotal)
        off_curve n = λ pole. rule_is pole ∙ rw (otherwise (is_on_curve (curve_of c) (pair c.prime.m x)) (λ e. n ((on_curve_test (curve_of c) (pair c.prime.m x)).0 e)))

        module _ (on : Divided c x) where
          counted : (pole : ℕ) → resume (record_of c) (total_of d count pole) ≡ choose (leb (count) most_records) (choose (ltb (count) most_records) (taken (pair c.prime.m x)) (refused 14 0)) (refused 15 0)
          counted pole = rule_is pole ∙ rw ((on_curve_test (curve_of c) (pair c.prime.m x)).1 on)

          pub overfull : most_records < count → ResumeIs c d count (Err RunningTotal)
          overfull l = λ pole. counted pole ∙ rw (lt-leb (count) most_records l)

          pub full : count ≡ most_records → ResumeIs c d count (Err Full)
          full e = λ pole. counted pole ∙ rw (le-leb (count) most_records (omega arith), le-ltb (count) most_records (omega arith))

          pub goes_on : count < most_records → ResumeIs c d count (Ok x)
          goes_on l = record {
            holds = record { held = hx.held; valid = record { fits = omega (arith, weight_is c.prime.m x, weight_is_v c.prime.m x); small = omega (arith, weight_is c.prime.m x, hx.weight); divides = on } };
            room = l;
            takes = λ pole. counted pole ∙ rw (le-leb (count) most_records (omega arith), lt-ltb (count) most_records l);
          }
