-- What stands behind p in a curve record: refusals 6 and 7. The curve that is built is sound, and its record is the rule's.
use Prim.Native.Nat.{ℕ, suc, ◌+◌, ◌-◌, ◌*◌, ◌<◌}
use mathlib.Core.Path.{◌≡◌, sym, ap, ap₂, ◌∙◌, subst}
use mathlib.Core.List.{List, [], ◌∷◌}
use mathlib.Core.Bool.{Bool, true, false}
use native.Mathlib.Omega.{arith}
use native.Mathlib.Decide.{ℕ_discrete}
use lib.ListN.{get_or}
use Rattle.algebra.proofs.Zmod.Zmod.{zmod, emb}
use Rattle.std.specs.Prelude.{Result, Ok, Err}
use Rattle.refusals.specs.declared.Refusal.{Refusal}
use Rattle.refusals.specs.declared.Refusal.TheVariants.{CurveCoefficient}
use Rattle.rules.specs.Bytes.{word64, words}
use Rattle.rules.specs.Curve.{SquareFree}
use Rattle.rules.specs.Tests.{is_square_free}
use Rattle.rules.specs.Records.{choose, both, refused, taken, CurveRecord, curve, is_below, elements}
use Rattle.rules.proofs.Demand3.{square_free_test}
use Rattle.field.specs.declared.Modulus.{Modulus}
use Rattle.field.specs.declared.PrimeModulus.{PrimeModulus}
use Rattle.field.specs.declared.Residue.{Residue}
use Rattle.field.specs.Residues.{el}
use Rattle.field.proofs.Decide.{otherwise}
use Rattle.divisor.specs.Divisors.{AllSettled}
use Rattle.curve.specs.declared.Equation.{Equation}
use Rattle.curve.specs.Record.{record_of}
use Rattle.curve.proofs.polynomials.Whole.{up_to}
use Rattle.record_bytes.proofs.Rows.{words_append, below-append}
use Rattle.record_numbers.specs.Read.{ResiduesHeld}
use Rattle.record_curve_head.specs.Heads.{low_rule}
use Rattle.curve.specs.declared.Curve.{Curve}
use Rattle.record_curve.specs.Read.{ToRead, CoefficientsIs, EquationIs, as_record}

module _ (s : List ℕ) (g : ℕ) (prime : PrimeModulus) (h : ToRead s g) where
  abbrev m : Modulus
  m = prime.m

  abbrev low : List (zmod m.p).El
  low = elements m.p (words s 14 (suc (g + g)))

  abbrev rule : CurveRecord
  rule = record { p = m.p; g = g; low = low }

  -- the rule by the two tests
  by_below : {b : Bool} → is_below m.p (words s 14 (suc (g + g))) ≡ b → low_rule s g m.p ≡ choose b (choose (is_square_free (curve rule)) (taken rule) (refused 7 0)) (refused 6 0)
  by_below e = ap (λ b. choose b (choose (is_square_free (curve rule)) (taken rule) (refused 7 0)) (refused 6 0)) e

  by_free : {b : Bool} → is_square_free (curve rule) ≡ b → choose (is_square_free (curve rule)) (taken rule) (refused 7 0) ≡ choose b (taken rule) (refused 7 0)
  by_free e = ap (λ b. choose b (taken rule) (refused 7 0)) e

  -- five coefficients, and those above them
  both_are : is_below m.p (words s 14 (suc (g + g))) ≡ both (is_below m.p (words s 14 5)) (is_below m.p (words s 54 (2 * g - 4)))
  both_are = ap (λ (n : ℕ). is_below m.p (words s 14 n)) {x = suc (g + g)} {y = 5 + (2 * g - 4)} (omega (arith, h.least))
      ∙ ap (is_below m.p) (words_append s 14 5 (2 * g - 4)) ∙ below-append m.p (words s 14 5) (words s 54 (2 * g - 4))

  pub low_large : is_below m.p (words s 14 5) ≡ false → CoefficientsIs s g m (Err CurveCoefficient)
  low_large e here = here ∙ by_below (both_are ∙ ap (λ b. both b (is_below m.p (words s 54 (2 * g - 4)))) e)

  module _ (lo : List Residue) (hl : ResiduesHeld s 14 5 m lo) where
    pub high_large : is_below m.p (words s 54 (2 * g - 4)) ≡ false → CoefficientsIs s g m (Err CurveCoefficient)
    high_large e here = here ∙ by_below (both_are ∙ ap₂ both hl.below e)

    module _ (hi : List Residue) (hh : ResiduesHeld s 54 (2 * g - 4) m hi) (z : Residue) where
      pub settled : AllSettled m (get_or lo 0 z ∷ get_or lo 1 z ∷ get_or lo 2 z ∷ get_or lo 3 z ∷ get_or lo 4 z ∷ get_or hi 0 z ∷ get_or hi 1 z ∷ [])
      settled = (hl.settled 0 z (omega arith), (hl.settled 1 z (omega arith), (hl.settled 2 z (omega arith), (hl.settled 3 z (omega arith), (hl.settled 4 z (omega arith), (hh.settled 0 z (omega arith), (hh.settled 1 z (omega arith), tt)))))))

      abbrev built : Equation
      built = record { prime = prime; g = g; f0 = get_or lo 0 z; f1 = get_or lo 1 z; f2 = get_or lo 2 z; f3 = get_or lo 3 z; f4 = get_or lo 4 z; f5 = get_or hi 0 z; f6 = get_or hi 1 z; genus = record { least = h.least; most = h.most }; settled = settled }

      abbrev at : (k : ℕ) → k < 5 → el m (get_or lo k z) ≡ emb m.p (word64 s (14 + 8 * k))
      at k i = (hl.held k z i).is

      five : (l : List (zmod m.p).El) → el m built.f0 ∷ el m built.f1 ∷ el m built.f2 ∷ el m built.f3 ∷ el m built.f4 ∷ l
          ≡ emb m.p (word64 s 14) ∷ emb m.p (word64 s 22) ∷ emb m.p (word64 s 30) ∷ emb m.p (word64 s 38) ∷ emb m.p (word64 s 46) ∷ l
      five l = rw (at 0 (omega arith), at 1 (omega arith), at 2 (omega arith), at 3 (omega arith), at 4 (omega arith))

      low_is : Dec (g ≡ 2) → up_to built (g + g - 4) ≡ low
      unfolding words elements
      low_is (yes e) = subst (λ (n : ℕ). up_to built (n + n - 4) ≡ elements m.p (words s 14 (suc (n + n)))) (sym e) (five [])
      low_is (no e) = subst (λ (n : ℕ). up_to built (n + n - 4) ≡ elements m.p (words s 14 (suc (n + n)))) {x = 3} {y = g} (omega (arith, h.least, h.most))
          (ap₂ (λ (x y : (zmod m.p).El). el m built.f0 ∷ el m built.f1 ∷ el m built.f2 ∷ el m built.f3 ∷ el m built.f4 ∷ x ∷ y ∷ []) (hh.held 0 z (omega (arith, h.least, h.most))).is (hh.held 1 z (omega (arith, h.least, h.most))).is
          ∙ five (emb m.p (word64 s 54) ∷ emb m.p (word64 s 62) ∷ []))

      record_is : as_record built ≡ rule
      record_is = ap (λ (t : List (zmod m.p).El). record { p = m.p; g = g; low = t }) (low_is (ℕ_discrete g 2))

      below : is_below m.p (words s 14 (suc (g + g))) ≡ true
      below = both_are ∙ ap₂ both hl.below hh.below

      -- what the code decided is what the rule asks
      pub of_equation : (r : Result Curve Refusal) → EquationIs built r → CoefficientsIs s g m r
      of_equation (Ok c) e = let r : record_of c ≡ rule = e ∙ record_is in λ here. here ∙ by_below below
          ∙ by_free ((square_free_test m.p prime.prime g low).1 (subst (λ x. SquareFree (curve x)) r c.square_free)) ∙ ap taken (sym r)
      of_equation (Err by) k = λ here. here ∙ by_below below
          ∙ by_free (otherwise (is_square_free (curve rule)) (λ e. k.1 (subst (λ x. SquareFree (curve x)) (sym record_is) ((square_free_test m.p prime.prime g low).0 e)))) ∙ ap (λ (j : ℕ). refused j 0) (sym k.0)
