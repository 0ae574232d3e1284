-- Multiples of a valid pair by signed digits (crate `signed`), by the rules' own sum, double and opposite. Gives: multiples by whole numbers (`wholes`), and such a multiple doubled with a digit more
-- (`digit_more`); that double-and-add over the non-adjacent form of n is the n-fold, and takes `doublings n` doublings and `additions n` additions (`signed_multiple`).
-- Open: `wholes`.
use Prim.Native.Nat.{ℕ, suc}
use mathlib.Core.Path.{◌≡◌, refl, sym, ap, ◌∙◌}
use lib.IntN.{ℤ, pos, negsuc, ◌+ℤ◌}
use Rattle.algebra.proofs.Group.Group.{AbGroup}
use Rattle.algebra.proofs.Group.Whole.{whole}
use Rattle.rules.specs.Signed.Digits.{Digit, minus, null, plus, value, recode}
use Rattle.rules.proofs.Signed.Recode.{recode_topped}
use Rattle.rules.proofs.Signed.Signed.{with_digit, one_more, signed_run, signed_doublings, signed_additions, signed_run_map, signed_run_recode}
use Rattle.rules.specs.Curve.{Curve}
use Rattle.rules.specs.Pair.{Pair, Valid, neutral, opposite}
use Rattle.rules.specs.Sum.{sum, double}
use Rattle.rules.specs.Multiple.{multiple, doublings, additions}
use Rattle.rules.proofs.Cantor.Accepted.{Accepted}
use Rattle.rules.proofs.Cantor.Group.{Divisor, jacobian}
use Rattle.rules.proofs.Cantor.Totals.{multiple_is}

-- n-fold for n, the opposite of it for -n
abbrev pub wholes : (E : Curve) → ℤ → Pair E.K → Pair E.K
wholes E (pos n) a = multiple E n a
wholes E (negsuc n) a = opposite (multiple E (suc n) a)

module _ (E : Curve) (h : Accepted E) (a : Pair E.K) (va : Valid E a) where
  abbrev G : AbGroup
  G = jacobian E h

  wholes_is : (k : ℤ) → (whole G k (a, va)).0 ≡ wholes E k a
  wholes_is (pos n) = multiple_is E h a va n
  wholes_is (negsuc n) = ap opposite (multiple_is E h a va (suc n))

  pub digit_more : (d : Digit) (k : ℤ) → with_digit (sum E) (double E) opposite neutral a d (double E (wholes E k a)) ≡ wholes E (value d +ℤ (k +ℤ k)) a
  digit_more d k = sym (ap (λ (x : Pair E.K). with_digit (sum E) (double E) opposite neutral a d (double E x)) (wholes_is k)) ∙ split d ∙ ap (λ (x : Divisor E h). x.0) (one_more G (a, va) d k)
      ∙ wholes_is (value d +ℤ (k +ℤ k))
    where
      split : (d : Digit) → with_digit (sum E) (double E) opposite neutral a d (double E (whole G k (a, va)).0)
          ≡ (with_digit G.sum (λ x. G.sum x x) G.opp G.zer (a, va) d (G.sum (whole G k (a, va)) (whole G k (a, va)))).0
      split minus = unfold double in refl
      split null = unfold double in refl
      split plus = unfold double in refl

  pub signed_multiple : (n : ℕ) → signed_run (sum E) (double E) opposite neutral a (recode n) ≡ record { result = multiple E n a; doublings = doublings n; additions = additions n }
  unfolding doublings additions
  signed_multiple n i = record {
    result = result i;
    doublings = signed_doublings (sum E) (double E) opposite neutral a (recode n) i;
    additions = signed_additions (sum E) (double E) opposite neutral a (recode n) (recode_topped n) i;
  }
    where
      result : (signed_run (sum E) (double E) opposite neutral a (recode n)).result ≡ multiple E n a
      result = sym (signed_run_map (λ (x : Divisor E h). x.0) G.sum (λ x. G.sum x x) G.opp G.zer (sum E) (double E) opposite neutral
          (λ x y. refl) (λ x. unfold double in refl) (λ x. refl) refl (a, va) (recode n))
          ∙ ap (λ (x : Divisor E h). x.0) (signed_run_recode G (a, va) n) ∙ multiple_is E h a va n
