-- Genus 2: what the steps promise adds up to the rule's sum. Gives: `opens` of two pairs and `opens_twice` of one with itself, before anything is divided; then
-- `closes`, where the slope has degree 1, and `closes_flat`, where it is a constant; `is_sum` and `is_double` put both halves together; between
-- them what is inverted has an inverse (`unit_r`, `unit_both`, `undoes`).
use mathlib.Core.Path.{◌≡◌, refl, sym, ap, ap₂, ◌∙◌, subst}
use mathlib.Core.List.{[], ◌∷◌}
use mathlib.Core.Logic.{◌≢◌}
use native.Mathlib.Omega.{arith}
use Rattle.algebra.proofs.Ring.Quote.{ring, quote}
use Rattle.algebra.proofs.Zmod.Zmod.{zmod}
use Rattle.algebra.proofs.Poly.Bound.{Below}
use Rattle.algebra.proofs.Poly.Poly.{poly, coef}
use Rattle.algebra.proofs.Poly.Term.{C, constants}
use Rattle.algebra.proofs.List.Value.{pol, mon}
use Rattle.rules.specs.Curve.{Curve, f}
use Rattle.rules.specs.Pair.{Valid}
use Rattle.rules.specs.Sum.{sum}
use Rattle.rules.proofs.Cantor.Accepted.{Accepted}
use Rattle.sum_formulas.specs.declared.Condition.{Condition}
use Rattle.sum_formulas.specs.Conditions.{Looked}
use Rattle.sum_formulas.proofs.Opened.{opened, opened_twice}
use Rattle.sum_formulas.proofs.Formula.{one_turn, main_case}
use Rattle.sum_formulas.proofs.Genus2.{tops_f2, line2_slope}
use Rattle.algebra.proofs.Zmod.Prime.{Prime}
use Rattle.field.specs.declared.Modulus.{Modulus}
use Rattle.field.specs.declared.Residue.{Residue}
use Rattle.field.specs.Residues.{el, HasInverse, Stands, Inverts}
use Rattle.field.proofs.Laws.{residue_field, settled_kept}
use Rattle.field.proofs.Units.{product-unit}
use Rattle.divisor.specs.declared.Quadratic.{Quadratic}
use Rattle.divisor.specs.declared.Linear.{Linear}
use Rattle.divisor.specs.declared.Divisor.{Divisor}
use Rattle.divisor.specs.declared.Divisor.TheVariants.{One, Two}
use Rattle.divisor.specs.Divisors.{pair}
use Rattle.divisor.specs.declared.Duo.{Duo}
use Rattle.sum_genus2_steps.specs.declared.Bezout.{Bezout}
use Rattle.sum_genus2.specs.declared.Opened.{Opened}
use Rattle.sum_genus2_steps.specs.declared.Slope.{Slope}
use Rattle.sum_genus2_steps.specs.Steps.{K, lo, mo, ux, vx, twice, sx, top, Inverted, Apart, Gap, Right, Times, Undoes, Slopes, Quotient, Rest, Line}
use Rattle.sum_genus2.specs.Sums.{curve, Ready, Composing, Opens, OpensTwice, Closes, IsSum, IsDouble}

module _ (m : Modulus) where
  open poly (K m) use {El as P, add as ◌⊕◌, mul as ◌⊗◌, neg as negP, one as 1P}

  infixl 65 ◌⊕◌
  infixl 65 ◌⊖◌
  infixl 70 ◌⊗◌
  abbrev ◌⊖◌ : P → P → P
  a ⊖ b = a ⊕ negP b

  abbrev pub opened_as : Bezout → Duo → Opened
  opened_as x s = record { r = x.r; i = x.i; s = s }

  pub opens : (good : Prime m.p) (a b : Quadratic) (x : Bezout) → Inverted m (ux m a) b x → Apart m a b x.i → (c : Duo) → Gap m a b c → (s : Duo) → Times m c x.i b s → Opens m a b (opened_as x s)
  opens good a b x hx apart c hc s hs = record {
    ready = record { r = hx.settled; i = hx.eased.i; c0 = hs.c0; c1 = hs.c1 };
    apart = apart;
    none = hx.none;
    through = λ nz fE. opened (K m) fE (ux m a) (vx m a) (ux m b) (vx m b) (lo m c) (lo m x.i) hx.j hs.q (lo m s) (el m x.r) ((residue_field m good).arith.inv (el m x.r))
        ((residue_field m good).mul_inv (el m x.r) nz) hx.is hc.is hs.is;
  }

  pub opens_twice : (good : Prime m.p) (f2 f3 f4 : Residue) (a : Quadratic) (x : Bezout) → Inverted m (twice m a) a x → (c : Duo) → Right m a f2 f3 f4 c → (s : Duo) → Times m c x.i a s
      → OpensTwice m f2 f3 f4 a (opened_as x s)
  unfolding pair
  opens_twice good f2 f3 f4 a x hx c hc s hs = record {
    ready = record { r = hx.settled; i = hx.eased.i; c0 = hs.c0; c1 = hs.c1 };
    none = hx.none;
    through = λ nz f0 f1 va. opened_twice (curve m f4 f0 f1 (el m f2) (el m f3)) (pair m (Two a)) va hc.q (lo m c) (lo m x.i) hx.j hs.q (lo m s) (el m x.r)
        ((residue_field m good).arith.inv (el m x.r)) ((residue_field m good).mul_inv (el m x.r) nz) hx.is (hc.tops f0 f1) hs.is;
  }

  -- on one curve
  module _ (f4 : Residue) (a b : Quadratic) (o : Opened) (f0 f1 f2 f3 : (zmod m.p).El) (ok : Accepted (curve m f4 f0 f1 f2 f3)) (va : Valid (curve m f4 f0 f1 f2 f3) (pair m (Two a)))
      (vb : Valid (curve m f4 f0 f1 f2 f3) (pair m (Two b))) (composed : Composing m (f (curve m f4 f0 f1 f2 f3)) a b o) where
    abbrev E : Curve
    E = curve m f4 f0 f1 f2 f3

    main : (y : Slope) → Slopes m o.r o.s y → (n : Duo) → Quotient m a b y f4 n → (d : Quadratic) → Rest m a y n d → sum E (pair m (Two a)) (pair m (Two b)) ≡ pair m (Two d)
    unfolding pair
    main y hy n hn d hd = one_turn E ok (pair m (Two a)) (pair m (Two b)) va vb (pair m (Two d)) refl (omega arith) (C (K m) (el m y.w) ⊗ sx m y) (top m a f4) (negP (vx m d))
        (ring (poly (K m)) (vx m d ∷ []) (search quote depth 40) refl)
        (main_case E ok (pair m (Two a)) (pair m (Two b)) va vb (sx m y) (top m a f4) (ux m d) (negP (vx m d)) hd.q (el m y.w) (el m y.wi) refl
        (composed (C (K m) (el m y.w) ⊗ sx m y) hy.is) hy.unit (tops_f2 (K m) (el m a.u0) (el m a.u1) f0 f1 f2 f3 (el m f4))
        (subst (λ (t : P). Below (K m) 2 (coef (K m) (sx m y ⊗ (sx m y ⊗ ux m a ⊕ C (K m) (el m y.wi) ⊗ twice m a) ⊖ C (K m) (el m y.wi) ⊗ (C (K m) (el m y.wi) ⊗ top m a f4) ⊖ ux m b ⊗ t))) same hn.tops)
        (subst (λ (t : P). vx m a ⊕ C (K m) (el m y.w) ⊗ sx m y ⊗ ux m a ≡ hd.q ⊗ t ⊖ vx m d) same hd.is))
      where
        same : mo m n ≡ ux m d
        same = sym (ap₂ (λ i j. mon (K m) (i ∷ j ∷ [])) hd.u0 hd.u1)

    flat : (i k : Residue) → Inverts m o.r i → Stands m k ((zmod m.p).mul (el m o.s.c0) (el m i)) → el m o.s.c1 ≡ (zmod m.p).zer → (d : Linear) → Line m a b k f4 d
        → sum E (pair m (Two a)) (pair m (Two b)) ≡ pair m (One d)
    unfolding pair
    flat i k hi hk z d hd = one_turn E ok (pair m (Two a)) (pair m (Two b)) va vb (pair m (One d)) refl (omega arith) (C (K m) (el m k)) (top m a f4) (negP (pol (K m) (el m d.v0 ∷ [])))
        (ring (poly (K m)) (pol (K m) (el m d.v0 ∷ []) ∷ []) (search quote depth 40) refl)
        (record {
          weights = refl;
          composed = composed (C (K m) (el m k)) (line2_slope (K m) (el m o.r) (el m o.s.c0) (el m o.s.c1) (el m i) (el m k) hi.is hk.is z);
          e = C (K m) (K m).one;
          e' = C (K m) (K m).one;
          unit = ap₂ ◌⊗◌ (constants (K m)).h_one (constants (K m)).h_one ∙ (poly (K m)).one-mul 1P;
          tops_f = tops_f2 (K m) (el m a.u0) (el m a.u1) f0 f1 f2 f3 (el m f4);
          tops = hd.tops;
          q = hd.q;
          rest = hd.is;
        })

  module _ (f4 : Residue) (a b : Quadratic) (o : Opened) where
    pub closes : (y : Slope) → Slopes m o.r o.s y → (n : Duo) → Quotient m a b y f4 n → (d : Quadratic) → Rest m a y n d → Closes m f4 a b o (Two d)
    closes y hy n hn d hd = record { held = hd.held; is = λ f0 f1 f2 f3 ok va vb composed. main f4 a b o f0 f1 f2 f3 ok va vb composed y hy n hn d hd }

    pub closes_flat : (i k : Residue) → Inverts m o.r i → Stands m k ((zmod m.p).mul (el m o.s.c0) (el m i)) → el m o.s.c1 ≡ (zmod m.p).zer → (d : Linear) → Line m a b k f4 d → Closes m f4 a b o (One d)
    closes_flat i k hi hk z d hd = record { held = hd.held; is = λ f0 f1 f2 f3 ok va vb composed. flat f4 a b o f0 f1 f2 f3 ok va vb composed i k hi hk z d hd }

  -- ---- what is inverted between the halves
  module _ (good : Prime m.p) (o : Opened) (ho : Ready m o) (nz : el m o.r ≢ (zmod m.p).zer) where
    pub unit_r : HasInverse m o.r
    unit_r = record { kept = settled_kept m ho.r; nonzero = nz }

    pub unit_both : el m o.s.c1 ≢ (zmod m.p).zer → (k : Residue) → Stands m k ((zmod m.p).mul (el m o.r) (el m o.s.c1)) → HasInverse m k
    unit_both n k hk = product-unit (record { m = m; prime = good }) o.r o.s.c1 k unit_r (record { kept = settled_kept m ho.c1; nonzero = n }) hk

  pub undoes : (o : Opened) (k i : Residue) → Stands m k ((zmod m.p).mul (el m o.r) (el m o.s.c1)) → Inverts m k i → Undoes m o.r o.s i
  undoes o k i hk hi = record { kept = hi.kept; is = sym (ap (λ t. (zmod m.p).mul t (el m i)) hk.is) ∙ hi.is }

  pub told : (o : Opened) {k k' : Condition} → k ≡ k' → Looked m o.r o.s.c1 k → Looked m o.r o.s.c1 k'
  told o e h = subst (λ (t : Condition). Looked m o.r o.s.c1 t) e h

  -- ---- both halves
  pub is_sum : (f4 : Residue) (a b : Quadratic) (o : Opened) → Opens m a b o → el m o.r ≢ (zmod m.p).zer → (d : Divisor) → Closes m f4 a b o d → IsSum m f4 a b d
  is_sum f4 a b o ho nz d hd = record { held = hd.held; is = λ f0 f1 f2 f3 ok va vb. hd.is f0 f1 f2 f3 ok va vb (ho.through nz (f (curve m f4 f0 f1 f2 f3))) }

  pub is_double : (f2 f3 f4 : Residue) (a : Quadratic) (o : Opened) → OpensTwice m f2 f3 f4 a o → el m o.r ≢ (zmod m.p).zer → (d : Divisor) → Closes m f4 a a o d → IsDouble m f2 f3 f4 a d
  is_double f2 f3 f4 a o ho nz d hd = record { held = hd.held; is = λ f0 f1 ok va. hd.is f0 f1 (el m f2) (el m f3) ok va va (ho.through nz f0 f1 va) }
