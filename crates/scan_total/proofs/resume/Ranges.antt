-- Ranges of coefficients. Gives: a test at each place of the row decides all of a divisor's; what the tests decide is the rule's `is_below`
-- of its numbers.
use Prim.Native.Nat.{ℕ, suc, ◌+◌, ◌*◌, ◌≤◌, ◌<◌}
use mathlib.Core.Path.{◌≡◌, refl, sym, ◌∙◌, subst}
use mathlib.Core.Bool.{Bool, true, false}
use mathlib.Core.List.{List, [], ◌∷◌, ◌++◌, map}
use native.Mathlib.Omega.{arith}
use borrow.Author.Tests.{lt-ltb, ltb-true}
use lib.Dec.{ltb}
use lib.ListN.{length, get_or, take, length-map}
use lib.Seq.{take-suc}
use Rattle.rules.specs.Records.{both, is_below}
use Rattle.rules.proofs.Calls.Tests.{both_true, true_both}
use Rattle.field.specs.declared.Modulus.{Modulus}
use Rattle.field.specs.declared.Residue.{Residue}
use Rattle.field.specs.Residues.{raw, Settled}
use Rattle.field.proofs.Decide.{otherwise}
use Rattle.divisor.specs.declared.Divisor.{Divisor}
use Rattle.divisor.specs.Divisors.{weight_of, us, vs, coefficients, RowOf}
use Rattle.divisor.proofs.Laws.{length-us, length-vs}
use Rattle.divisor.proofs.Rows.{length-coefficients, row_long, row_at}
use Rattle.scan_total.specs.numbers.Plain.{ListIn, AllIn}
use Rattle.scan_total.proofs.numbers.Kept.{in_both, in_at}

-- ---- the test, place by place along the row
module _ (m : Modulus) where
  in_parts : (a b : List Residue) → ListIn m (a ++ b) → ListIn m a × ListIn m b
  in_parts [] b h = (tt, h)
  in_parts (x ∷ a) b h = let t = in_parts a b h.1 in ((h.0, t.0), t.1)

  -- the first k are in range
  pub record Ranged (n : ℕ) (r : List Residue) (k : ℕ) : Type 0 where
    pub within : k ≤ n
    pub all : ListIn m (take k r)

  module _ (d : Divisor) (r : List Residue) (h : RowOf d r) (w : ℕ) (w_is : w ≡ weight_of d) (k : ℕ) where
    pub range_turn : (z : Residue) → Ranged (2 * w) r k → k < 2 * w → Settled m (get_or r k z) → Ranged (2 * w) r (k + 1)
    range_turn z t l i = record {
      within = omega arith;
      all = subst (λ n. ListIn m (take n r)) {x = suc k} {y = k + 1} (omega arith) (rw (take-suc r k z (omega (arith, row_long d r h))) (in_both m (take k r) (get_or r k z ∷ []) t.all (i, tt)));
    }

    pub range_stop : (z : Residue) → k < 2 * w → (Settled m (get_or r k z) → ⊥) → AllIn m d → ⊥
    range_stop z l n a = n (subst (Settled m) (sym (row_at d r h k z (omega arith))) (in_at m (coefficients d) k z (in_both m (us d) (vs d) a.0 a.1) (omega (arith, length-coefficients d))))

    pub range_end : Ranged (2 * w) r k → 2 * w ≤ k → AllIn m d
    range_end t l = in_parts (us d) (vs d) (subst (ListIn m) h.is (subst (λ n. ListIn m (take n r)) {x = k} {y = 2 * weight_of d} (omega (arith, t.within)) t.all))

-- ---- the rule's test
module _ (m : Modulus) where
  below_of : (l : List Residue) → ListIn m l → is_below m.p (map raw l) ≡ true
  unfolding is_below
  below_of [] h = refl
  below_of (r ∷ l) h = true_both (lt-ltb (raw r) m.p h.0.below) (below_of l h.1)

  below_only : (l : List Residue) → is_below m.p (map raw l) ≡ true → ListIn m l
  unfolding is_below
  below_only [] e = tt
  below_only (r ∷ l) e = let t = both_true (ltb (raw r) m.p) (is_below m.p (map raw l)) e in (record { below = ltb-true (raw r) m.p t.0 }, below_only l t.1)

  module _ (d : Divisor) where
    abbrev below_both : Bool
    below_both = both (is_below m.p (map raw (us d))) (is_below m.p (map raw (vs d)))

    pub all_below : AllIn m d → below_both ≡ true
    all_below h = true_both (below_of (us d) h.0) (below_of (vs d) h.1)

    pub not_below : (AllIn m d → ⊥) → below_both ≡ false
    not_below n = otherwise below_both (λ e. let t = both_true (is_below m.p (map raw (us d))) (is_below m.p (map raw (vs d))) e in n (below_only (us d) t.0, below_only (vs d) t.1))

pub one_length : (d : Divisor) → length (map raw (vs d)) ≡ length (map raw (us d))
one_length d = simp length-map (length-vs d ∙ sym (length-us d))

pub length-raw : (d : Divisor) → length (map raw (us d)) ≡ weight_of d
length-raw d = simp length-map (length-us d)
