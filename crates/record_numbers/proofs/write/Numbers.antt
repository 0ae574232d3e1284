-- The numbers of a divisor's coefficients, as an array holds them.
use Prim.Native.Nat.{ℕ, suc, ◌+◌, ◌*◌, ◌≤◌, ◌<◌}
use mathlib.Core.Path.{◌≡◌, refl, sym, ap, ap₂, ◌∙◌, subst}
use mathlib.Core.List.{List, [], ◌∷◌, ◌++◌}
use native.Mathlib.Omega.{arith}
use lib.ListN.{length, get_or, set, take, replicate, length-set}
use lib.Seq.{take-suc, take-suc-set}
use Rattle.algebra.proofs.Zmod.Zmod.{num}
use Rattle.rules.specs.Records.{numbers}
use Rattle.field.specs.declared.Modulus.{Modulus}
use Rattle.field.specs.declared.Residue.{Residue}
use Rattle.field.specs.Residues.{el}
use Rattle.divisor.specs.declared.Divisor.{Divisor}
use Rattle.divisor.specs.Divisors.{weight_of, us, vs, elements, pair, RowOf}
use Rattle.divisor.proofs.Laws.{weight_le}
use Rattle.divisor.proofs.Rows.{row_long}
use Rattle.record_numbers.specs.write.Write.{NumbersOf}

-- ---- a divisor's row, one residue after the other
module _ (m : Modulus) where
  abbrev listed : List Residue → List ℕ
  listed l = numbers m.p (elements m l)

  listed_append : (a b : List Residue) → listed (a ++ b) ≡ listed a ++ listed b
  unfolding numbers
  listed_append [] b = refl
  listed_append (x ∷ a) b = ap (λ t. num m.p (el m x) ∷ t) (listed_append a b)

  pub record Row (n : ℕ) (r : List Residue) (x : List ℕ) (k : ℕ) : Type 0 where
    pub within : k ≤ n
    pub long : length x ≡ 8
    pub is : take k x ≡ listed (take k r)

  pub row_begin : (n : ℕ) (r : List Residue) → Row n r (replicate 8 0) 0
  unfolding numbers
  row_begin n r = record { within = omega arith; long = refl; is = refl }

  module _ (d : Divisor) (r : List Residue) (h : RowOf d r) (w : ℕ) (w_is : w ≡ weight_of d) (x : List ℕ) (k : ℕ) (t : Row (2 * w) r x k) where
    pub row_turn : (z : Residue) (b : ℕ) → k < 2 * w → b ≡ num m.p (el m (get_or r k z)) → Row (2 * w) r (set x k b) (k + 1)
    unfolding numbers
    row_turn z b l e = record {
      within = omega arith;
      long = length-set x k b ∙ t.long;
      is = subst (λ n. take n (set x k b) ≡ listed (take n r)) {x = suc k} {y = k + 1} (omega arith)
          (take-suc-set x k b (omega (arith, t.long, weight_le d)) ∙ ap₂ (λ l n. l ++ (n ∷ [])) t.is e
          ∙ sym (ap listed (take-suc r k z (omega (arith, row_long d r h))) ∙ listed_append (take k r) (get_or r k z ∷ [])));
    }

    pub row_end : 2 * w ≤ k → NumbersOf m d x
    unfolding pair
    row_end l = record { is = subst (λ n. take n x ≡ listed (take n r)) {x = k} {y = 2 * weight_of d} (omega (arith, t.within)) t.is ∙ ap listed h.is ∙ listed_append (us d) (vs d) }
