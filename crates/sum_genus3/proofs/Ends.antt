-- Genus 3: from a composition by s = w·S, the steps' promises add up to the rule's sum (`ends`).
use mathlib.Core.Path.{◌≡◌, refl}
use mathlib.Core.List.{[], ◌∷◌}
use native.Mathlib.Omega.{arith}
use Rattle.algebra.proofs.Ring.Quote.{ring, quote, by}
use Rattle.algebra.proofs.Zmod.Zmod.{zmod}
use Rattle.algebra.proofs.Poly.Poly.{poly}
use Rattle.rules.specs.Curve.{Curve, f}
use Rattle.rules.specs.Pair.{Valid}
use Rattle.rules.specs.Sum.{sum}
use Rattle.rules.proofs.Cantor.Accepted.{Accepted}
use Rattle.sum_formulas.proofs.Formula.{two_turns, main_case}
use Rattle.sum_formulas.proofs.Close3.{tops_f}
use Rattle.field.specs.declared.Modulus.{Modulus}
use Rattle.field.specs.declared.Residue.{Residue}
use Rattle.field.specs.Residues.{el}
use Rattle.divisor.specs.declared.Cubic.{Cubic}
use Rattle.divisor.specs.declared.Divisor.TheVariants.{Three}
use Rattle.divisor.specs.Divisors.{pair}
use Rattle.sum_genus3_open.specs.declared.Opened.{Opened}
use Rattle.sum_genus3_open.specs.Opens.{K, u_of, v_of, curve_with, Joins}
use Rattle.sum_genus3.specs.declared.Four.{Four}
use Rattle.sum_genus3.specs.declared.Five.{Five}
use Rattle.sum_genus3.specs.declared.Slope.{Slope}
use Rattle.sum_genus3.specs.Steps.{cst, four_of, quartic_of, quintic_of, slope_of, top_of, Slopes, Stretched, Quotient, Rest, Second}

module _ (m : Modulus) (f4 f5 f6 : Residue) (a b : Cubic) (o : Opened) where
  open poly (K m) use {El as P, add as ◌⊕◌, mul as ◌⊗◌, one as 1P}

  infixl 65 ◌⊕◌
  infixl 70 ◌⊗◌
  -- two steps from the composition, and the sum
  pub ends : (y : Slope) → Slopes m o y → (z : Five) → Stretched m a y z → (n : Four) → Quotient m f6 a b y (slope_of m y ⊗ u_of m a) n → (t : Four) → Rest m a y z n t → (d : Cubic) → Second m n t f4 f5 f6 d
      → (g0 g1 g2 g3 : (zmod m.p).El) → Accepted (curve_with m f4 f5 f6 g0 g1 g2 g3) → Valid (curve_with m f4 f5 f6 g0 g1 g2 g3) (pair m (Three a)) → Valid (curve_with m f4 f5 f6 g0 g1 g2 g3) (pair m (Three b))
      → Joins m (f (curve_with m f4 f5 f6 g0 g1 g2 g3)) a b o → sum (curve_with m f4 f5 f6 g0 g1 g2 g3) (pair m (Three a)) (pair m (Three b)) ≡ pair m (Three d)
  unfolding pair
  ends y hy z hz n hn t ht d hd g0 g1 g2 g3 ok va vb joins =
      let E : Curve = curve_with m f4 f5 f6 g0 g1 g2 g3 in
      let w : P = cst m y.w in
      let S : P = slope_of m y in
      two_turns E ok (pair m (Three a)) (pair m (Three b)) va vb (pair m (Three d)) refl (omega arith) (w ⊗ S) (top_of m f6 a)
      (el m n.c0 ∷ el m n.c1 ∷ el m n.c2 ∷ el m n.c3 ∷ []) (four_of m t) hd.q
      (main_case E ok (pair m (Three a)) (pair m (Three b)) va vb S (top_of m f6 a) (quartic_of m n) (four_of m t) ht.q (el m y.w) (el m y.wi) refl (joins (w ⊗ S) hy.is) hy.unit
      (tops_f (K m) (el m a.u0) (el m a.u1) (el m a.u2) g0 g1 g2 g3 (el m f4) (el m f5) (el m f6)) hn.tops
      (by (poly (K m)) 1P ht.is (by (poly (K m)) w hz.is
      (ring (poly (K m)) (v_of m a ∷ w ∷ S ∷ u_of m a ∷ quintic_of m z ∷ ht.q ∷ quartic_of m n ∷ four_of m t ∷ []) (search quote depth 40) refl))))
      (hd.tops g0 g1 g2 g3) hd.is
