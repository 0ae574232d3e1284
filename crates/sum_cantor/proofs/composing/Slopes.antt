-- The two steps to the composed v. Gives: the slope k = s2 · (v1 - v2) + s3 · w2, also where s3 is zero and w2 isn't worked out; and that
-- v2 + e2 · (k modulo e1) is v2 + e2 · k less a multiple of e1 · e2.
use Prim.Native.Nat.{◌+◌, ◌-◌, max}
use mathlib.Core.Path.{◌≡◌, refl, sym, ap, ap₂, ◌∙◌}
use mathlib.Core.List.{[], ◌∷◌}
use Rattle.algebra.proofs.Ring.Quote.{ring, quote, by}
use Rattle.field.specs.declared.Modulus.{Modulus}
use Rattle.poly.specs.declared.Poly.{Poly}
use Rattle.poly.specs.Polys.{P, pol, Is}
use Rattle.poly.specs.Operations.{Divided}
use Rattle.poly.proofs.Lengths.{none_is}
use Rattle.sum_cantor.specs.declared.composing.Mumford.{Mumford}
use Rattle.sum_cantor.specs.declared.common.Bezout3.{Bezout3}
use Rattle.sum_cantor.specs.composing.Composing.{ToSlope, Slope, ToLift, Lift}
use Rattle.sum_cantor.specs.composing.Cofactors.{Cofactor}

module _ (m : Modulus) where
  open P m use {El as Po, add as ◌+P◌, mul as ◌*P◌, neg as negP, one as 1P}

  infixl 65 ◌+P◌
  infixl 70 ◌*P◌
  module _ (f v1 : Poly) (b : Mumford) (t : Bezout3) (to : ToSlope m f v1 b t) (y x : Poly)
      (h-y : Is m y (pol m v1 +P negP (pol m b.v)) (max v1.n b.v.n)) (h-x : Is m x (pol m t.s2 *P pol m y) (t.s2.n + y.n - 1)) where
    x_is : pol m x ≡ pol m t.s2 *P (pol m v1 +P negP (pol m b.v))
    x_is = h-x.is ∙ ap (λ s. pol m t.s2 *P s) h-y.is

    pub slope_none : t.s3.n ≡ 0 → Slope m f v1 b t x
    slope_none e = record {
      w2 = w;
      w2_is = to.fine.on.1;
      ok = h-x.ok;
      is = x_is ∙ ring (P m) (pol m t.s2 ∷ pol m v1 ∷ pol m b.v ∷ w ∷ []) (search quote depth 40) refl
          ∙ ap (λ s. pol m t.s2 *P (pol m v1 +P negP (pol m b.v)) +P s *P w) (sym (none_is m to.ok_3 e));
    }
      where
        w : Po
        w = to.fine.on.0

    module _ (w2 : Poly) (h_w : Cofactor m f b w2) where
      pub slope_is : (s r : Poly) → Is m s (pol m t.s3 *P pol m w2) (t.s3.n + w2.n - 1) → Is m r (pol m x +P pol m s) (max x.n s.n) → Slope m f v1 b t r
      slope_is s r h-s h-r = record { w2 = pol m w2; w2_is = h_w.is; ok = h-r.ok; is = h-r.is ∙ ap₂ ◌+P◌ x_is h-s.is }

  pub lift_is : (v2 e1 e2 k q r p s : Poly) → ToLift m v2 e1 e2 k → Divided m k e1 q r → Is m p (pol m e2 *P pol m r) (e2.n + r.n - 1)
      → Is m s (pol m v2 +P pol m p) (max v2.n p.n) → Lift m v2 e1 e2 k s
  lift_is v2 e1 e2 k q r p s to hd hp hs = record {
    ok = hs.ok;
    q = pol m q;
    is = by (P m) (pol m e2) hd.is (by (P m) (negP 1P) (hs.is ∙ ap (λ t. pol m v2 +P t) hp.is) (ring (P m) (pol m v2 ∷ pol m e1 ∷ pol m e2 ∷ pol m k ∷ pol m q ∷ pol m r ∷ pol m s ∷ []) (search quote depth 40) refl));
  }
