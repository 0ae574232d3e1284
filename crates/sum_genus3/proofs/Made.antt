-- Genus 3: what the calls of a step give, one by one, adds up to the step's promise: `rests` of `new_v`, `quotients` of `new_u`,
-- `seconds` of `second`.
use mathlib.Core.Path.{◌≡◌, refl, sym, subst}
use Rattle.algebra.proofs.Poly.Poly.{poly}
use Rattle.sum_formulas.proofs.Close3.{quotient_is, rest_is, second_tops}
use Rattle.field.specs.declared.Modulus.{Modulus}
use Rattle.field.specs.declared.Residue.{Residue}
use Rattle.field.specs.Residues.{el}
use Rattle.divisor.specs.declared.Cubic.{Cubic}
use Rattle.sum_genus3_open.specs.Opens.{K}
use Rattle.sum_genus3.specs.declared.Four.{Four}
use Rattle.sum_genus3.specs.declared.Five.{Five}
use Rattle.sum_genus3.specs.declared.Slope.{Slope}
use Rattle.sum_genus3.specs.Steps.{KeptFour, quintic_of, Quotient, Quotient1, Quotient0, Rest, SecondU0, SecondV, SecondTops, Second}
use Rattle.sum_genus3.proofs.Chains.{same, plus_first, plus_last, less, less_first, less_last, dot_last}

module _ (m : Modulus) where
  open K m use {El as A, add as ◌+◌, mul as ◌*◌, neg}

  infixl 65 ◌+◌
  infixl 65 ◌-◌
  infixl 70 ◌*◌
  abbrev ◌-◌ : A → A → A
  s - t = s + neg t

  abbrev e : Residue → A
  e s = el m s

  module _ (a : Cubic) (x : Slope) (z : Five) (n : Four) where
    pub rests : (t : Four) (y p0 d1 p1 d2 p2 d3 : A) → KeptFour m t → y ≡ e x.w * (e n.c3 - e z.c4) → p0 ≡ y * e n.c0 + e x.w * e z.c0 → e t.c0 ≡ p0 + e a.v0
        → d1 ≡ e z.c1 - e n.c0 → p1 ≡ y * e n.c1 + e x.w * d1 → e t.c1 ≡ p1 + e a.v1 → d2 ≡ e z.c2 - e n.c1 → p2 ≡ y * e n.c2 + e x.w * d2 → e t.c2 ≡ p2 + e a.v2
        → d3 ≡ e z.c3 - e n.c2 → e t.c3 ≡ y * e n.c3 + e x.w * d3 → Rest m a x z n t
    rests t y p0 d1 p1 d2 p2 d3 kept hy h0 k0 g1 h1 k1 g2 h2 k2 g3 h3 = record {
      kept = kept;
      q = _;
      is = rest_is (K m) (e a.v0) (e a.v1) (e a.v2) (e x.w) (e z.c0) (e z.c1) (e z.c2) (e z.c3) (e z.c4) (e n.c0) (e n.c1) (e n.c2) (e n.c3) y (e t.c0) (e t.c1) (e t.c2) (e t.c3) hy
          (plus_first (K m) _ _ _ _ h0 k0)
          (plus_first (K m) _ _ _ _ (dot_last (K m) _ _ _ _ _ _ g1 h1) k1)
          (plus_first (K m) _ _ _ _ (dot_last (K m) _ _ _ _ _ _ g2 h2) k2)
          (dot_last (K m) _ _ _ _ _ _ g3 h3);
    }

    pub quotients : (f6 : Residue) (b : Cubic) (p3 t5 p2 o2 : A) (d : Residue) → KeptFour m n → p3 ≡ e z.c4 + e x.s1 → e n.c3 ≡ p3 - e b.u2 → t5 ≡ e x.s1 * e z.c4 - e b.u2 * e n.c3
        → p2 ≡ e z.c3 + e x.s0 → o2 ≡ p2 + t5 → e n.c2 ≡ o2 - e b.u1 → e d ≡ e a.v2 + e a.v2 → Quotient1 m b x z d n.c2 n.c3 n.c1 → Quotient0 m f6 a b x z d n.c1 n.c2 n.c3 n.c0
        → Quotient m f6 a b x (quintic_of m z) n
    quotients f6 b p3 t5 p2 o2 d kept g3 h3 h5 g2 k2 h2 hd h1 h0 = record {
      kept = kept;
      tops = quotient_is (K m) (e f6) (e a.u2) (e a.v0) (e a.v1) (e a.v2) (e b.u0) (e b.u1) (e b.u2) (e x.s0) (e x.s1) (e x.wi) (e z.c0) (e z.c1) (e z.c2) (e z.c3) (e z.c4) (e n.c3) t5 (e n.c2) (e d) (e n.c1) _ (e n.c0)
          (less_first (K m) _ _ _ _ g3 h3)
          h5
          (less_first (K m) _ _ _ _ (plus_first (K m) _ _ _ _ g2 k2) h2)
          hd
          h1.is
          refl
          h0.is;
    }

  module _ (n t : Four) (f4 f5 f6 : Residue) where
    pub seconds : (t1 e2 e1 e0 : Residue) (d : Cubic) (s2 a2 o2 o1 p1 d1 : A) → e t1 ≡ e t.c3 + e t.c3 → s2 ≡ e t.c3 * e t.c3 → a2 ≡ e n.c3 + s2 → o2 ≡ e f6 - a2 → e e2 ≡ o2
        → o1 ≡ e f5 - e n.c2 → p1 ≡ e e2 * e n.c3 + e t1 * e t.c2 → d1 ≡ o1 - p1 → e e1 ≡ d1 → SecondU0 m n t t1 e1 e2 f4 e0 → SecondV m e0 e1 e2 t d → Second m n t f4 f5 f6 d
    seconds t1 e2 e1 e0 d s2 a2 o2 o1 p1 d1 h1 g2 k2 l2 h2 g1 k1 l1 h3 h0 v = record {
      held = v.held;
      tops = subst (λ (p : (poly (K m)).El). SecondTops m n t f4 f5 f6 p) (sym v.u) (λ g0 r1 r2 g3. second_tops (K m) (e n.c0) (e n.c1) (e n.c2) (e n.c3) (e t.c0) (e t.c1) (e t.c2) (e t.c3) g0 r1 r2 g3 (e f4) (e f5) (e f6) (e t1) (e e2) (e e1) (e e0)
          h1
          (same (K m) _ _ _ (less_last (K m) _ _ _ _ (plus_last (K m) _ _ _ _ g2 k2) l2) h2)
          (same (K m) _ _ _ (less (K m) _ _ _ _ _ g1 k1 l1) h3)
          h0.is);
      q = v.q;
      is = v.is;
    }
