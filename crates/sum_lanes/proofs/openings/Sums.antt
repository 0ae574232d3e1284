-- A sum opened and closed is the rule's sum. Gives: `closed_two`, `closed_three`, for each formula; of divisors known by their cases; what was looked at has inverses.
use mathlib.Core.Path.{◌≡◌, sym, ap, ◌∙◌, subst}
use Rattle.algebra.proofs.Zmod.Zmod.{zmod}
use Rattle.rules.specs.Curve.{f}
use Rattle.rules.specs.Sum.{sum}
use Rattle.field.specs.declared.Modulus.{Modulus}
use Rattle.field.specs.declared.PrimeModulus.{PrimeModulus}
use Rattle.field.specs.declared.Residue.{Residue}
use Rattle.field.specs.Residues.{el, Settled, HasInverse, Stands, Settles}
use Rattle.field.proofs.Laws.{one_ne, settled_kept}
use Rattle.field.proofs.Units.{product-unit}
use Rattle.divisor.specs.declared.Divisor.{Divisor}
use Rattle.divisor.specs.declared.Divisor.TheVariants.{Two, Three}
use Rattle.divisor.specs.declared.Quadratic.{Quadratic}
use Rattle.divisor.specs.declared.Cubic.{Cubic}
use Rattle.divisor.specs.Divisors.{pair}
use Rattle.sum_formulas.specs.declared.Condition.{Condition}
use Rattle.sum_formulas.specs.declared.Condition.TheVariants.{Main}
use Rattle.std.specs.Prelude.{Some}
use Rattle.sum_formulas.specs.Conditions.{Looked}
use Rattle.sum_genus2.specs.declared.Opened.{Opened as Opened2}
use Rattle.sum_genus2.specs.Sums.{Closes as Closes2}
use Rattle.sum_genus2.proofs.Found.{is_sum}
use Rattle.sum_genus3_open.specs.declared.Opened.{Opened as Opened3}
use Rattle.sum_genus3_open.specs.Opens.{curve_with, Opens as Opens3}
use Rattle.sum_genus3.specs.Sums.{Closes as Closes3}
use Rattle.curve.specs.declared.Curve.{Curve}
use Rattle.curve.specs.Curves.{curve_of, Holds, Gives}
use Rattle.jacobian.proofs.Quicks.{tried_two, tried_three}
use Rattle.sum_lanes.specs.declared.openings.Opening.{Opening}
use Rattle.sum_lanes.specs.declared.openings.Opening.TheVariants.{Special}
use Rattle.sum_lanes.specs.openings.Openings.{FromTwo, is_two, is_three, Fit, under, Undoes, Opened, Under}

-- r and top, by what `look` saw
pub looked_known : (m : Modulus) (r top : Residue) {k k' : Condition} → k ≡ k' → Looked m r top k → Looked m r top k'
looked_known m r top e l = subst (λ (x : Condition). Looked m r top x) e l

pub both_units : (m : Modulus) → (r top : Residue) → Settled m r → Settled m top → (k : Condition) → Looked m r top k → k ≡ Main → HasInverse m r × HasInverse m top
both_units m r top hr ht k l e =
    let n : Looked m r top Main = looked_known m r top e l in
    (record { kept = settled_kept m hr; nonzero = n.0 }, record { kept = settled_kept m ht; nonzero = n.1 })

module _ (c : Curve) where
  pub closed_two : (x y d : Quadratic) (o : Opened2) → FromTwo c x y o → HasInverse c.prime.m o.r → Holds c (Two x) → Holds c (Two y) → Closes2 c.prime.m c.f4 x y o (Two d)
      → Gives c (Two d) (sum (curve_of c) (pair c.prime.m (Two x)) (pair c.prime.m (Two y)))
  closed_two x y d o from unit hx hy closes = tried_two c from.genus x y hx hy (Some (Two d)) (is_sum c.prime.m c.f4 x y o from.opens unit.nonzero (Two d) closes)

  pub closed_three : (x y d : Cubic) (o : Opened3) → Opens3 c.prime.m x y o → HasInverse c.prime.m o.r → Holds c (Three x) → Holds c (Three y) → Closes3 c.prime.m c.f4 c.f5 c.f6 x y o d
      → Gives c (Three d) (sum (curve_of c) (pair c.prime.m (Three x)) (pair c.prime.m (Three y)))
  closed_three x y d o opens unit hx hy closes = tried_three c x y hx hy (Some (Three d)) (record {
    held = closes.held;
    is = λ g0 g1 g2 g3 ok va vb. closes.is g0 g1 g2 g3 ok va vb (opens.joins unit.nonzero (f (curve_with c.prime.m c.f4 c.f5 c.f6 g0 g1 g2 g3)));
  })

-- of divisors known by their cases
module _ (c : Curve) {a b a' b' : Divisor} (p : a ≡ a') (q : b ≡ b') where
  pub gives_known : (d : Divisor) → Gives c d (sum (curve_of c) (pair c.prime.m a') (pair c.prime.m b')) → Gives c d (sum (curve_of c) (pair c.prime.m a) (pair c.prime.m b))
  gives_known d g = subst (λ (t : Divisor). Gives c d (sum (curve_of c) (pair c.prime.m t) (pair c.prime.m b))) (sym p) (subst (λ (t : Divisor). Gives c d (sum (curve_of c) (pair c.prime.m a') (pair c.prime.m t))) (sym q) g)

  pub two_known : (o : Opened2) → is_two c a b o → is_two c a' b' o
  two_known o h = subst (λ (t : Divisor). is_two c a' t o) q (subst (λ (t : Divisor). is_two c t b o) p h)

  pub three_known : (o : Opened3) → is_three c a b o → is_three c a' b' o
  three_known o h = subst (λ (t : Divisor). is_three c a' t o) q (subst (λ (t : Divisor). is_three c t b o) p h)

  pub opened_of : (o : Opening) → Opened c a' b' o → Opened c a b o
  opened_of o h = subst (λ (t : Divisor). Opened c t b o) (sym p) (subst (λ (t : Divisor). Opened c a' t o) (sym q) h)

-- of what was opened known by its case
module _ (m : Modulus) {o o' : Opening} (p : o ≡ o') where
  pub fit_known : Fit m o → Fit m o'
  fit_known h = subst (Fit m) p h

  pub undoes_known : {i : Residue} → Undoes m o i → Undoes m o' i
  undoes_known {i} h = subst (λ (t : Opening). Undoes m t i) p h

pub opened_known : (c : Curve) {a b : Divisor} {o o' : Opening} → o ≡ o' → Opened c a b o → Opened c a b o'
opened_known c {a} {b} p h = subst (λ (t : Opening). Opened c a b t) p h

module _ (k : PrimeModulus) {o o' : Opening} (p : o ≡ o') where
  abbrev m : Modulus
  m = k.m

  -- a product
  pub under_some : (a b : Residue) → HasInverse m a → HasInverse m b → (r : Residue) → Stands m r (under m o') → (under m o' ≡ (zmod m.p).mul (el m a) (el m b)) → Under m o r
  under_some a b ha hb r hr e = record {
    unit = product-unit k a b r ha hb (record { kept = hr.kept; is = hr.is ∙ e });
    is = hr.is ∙ ap (under m) (sym p);
  }

pub under_none : (m : Modulus) → {o : Opening} → o ≡ Special → (r : Residue) → Settles m r (zmod m.p).one → Under m o r
under_none m {o} p r h = record {
  unit = record { kept = settled_kept m h.settled; nonzero = λ e. one_ne m (sym h.is ∙ e) };
  is = h.is ∙ ap (under m) (sym p);
}
