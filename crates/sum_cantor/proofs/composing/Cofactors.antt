-- Exact quotients. Gives: dividing by a monic d of one coefficient leaves a as it is; the cofactor w with f = v² + u · w; a pair stays on
-- the curve when v changes by a multiple of u.
use Prim.Native.Nat.{◌+◌, ◌-◌, max}
use mathlib.Core.Path.{◌≡◌, refl, sym, ap, ◌∙◌}
use mathlib.Core.List.{[], ◌∷◌}
use native.Mathlib.Omega.{arith}
use Rattle.algebra.proofs.Ring.CRing.{mul-one}
use Rattle.algebra.proofs.Ring.Quote.{ring, quote, by}
use Rattle.algebra.proofs.Ideal.Joined.{OnCurve}
use Rattle.field.specs.declared.Modulus.{Modulus}
use Rattle.poly.specs.declared.Poly.{Poly}
use Rattle.poly.specs.Polys.{P, pol, Is}
use Rattle.poly.specs.Operations.{ToQuotient, Quotient}
use Rattle.poly.proofs.Monic.{monic_one}
use Rattle.sum_cantor.specs.declared.composing.Mumford.{Mumford}
use Rattle.sum_cantor.specs.composing.Cofactors.{ToCofactor, Cofactor}

module _ (m : Modulus) where
  open P m use {El as Po, add as ◌+P◌, mul as ◌*P◌, neg as negP, one as 1P}

  infixl 65 ◌+P◌
  infixl 70 ◌*P◌
  -- ---- by 1
  pub divide_out_none : {a d : Poly} → ToQuotient m a d → d.n ≡ 1 → Quotient m a d a
  divide_out_none {a} {d} h e = record {
    ok = h.left;
    is = sym (ap (λ t. pol m a *P t) (monic_one m h.right e h.monic) ∙ mul-one (P m) (pol m a));
    short = omega arith;
  }

  -- ---- (f - v²) / u
  module _ (f : Poly) (x : Mumford) (h : ToCofactor m f x) (sq y : Poly)
      (h-sq : Is m sq (pol m x.v *P pol m x.v) (x.v.n + x.v.n - 1)) (h-y : Is m y (pol m f +P negP (pol m sq)) (max f.n sq.n)) where
    y_is : pol m y ≡ pol m f +P negP (pol m x.v *P pol m x.v)
    y_is = h-y.is ∙ ap (λ t. pol m f +P negP t) h-sq.is

    pub to_quotient : ToQuotient m y x.u
    to_quotient = record {
      left = h-y.ok;
      right = h.fine.ok_u;
      monic = h.fine.monic;
      divides = record {
        factor = h.fine.on.0;
        is = y_is ∙ by (P m) 1P h.fine.on.1 (ring (P m) (pol m f ∷ pol m x.u ∷ pol m x.v ∷ h.fine.on.0 ∷ []) (search quote depth 40) refl);
      };
    }

    pub cofactor_is : (w : Poly) → Quotient m y x.u w → Cofactor m f x w
    cofactor_is w v = record {
      ok = v.ok;
      is = by (P m) 1P (sym y_is ∙ v.is) (ring (P m) (pol m f ∷ pol m x.u ∷ pol m x.v ∷ pol m w ∷ []) (search quote depth 40) refl);
      short = omega (arith, v.short, h-y.short, h-sq.short);
    }

  -- ---- v modulo u
  pub on_modulo : (f u v0 v k w : Po) → f ≡ v0 *P v0 +P u *P w → v0 ≡ k *P u +P v → OnCurve (P m) f u v
  on_modulo f u v0 v k w h e = (
    k *P k *P u +P k *P v +P k *P v +P w,
    by (P m) 1P h (by (P m) (v0 +P k *P u +P v) e (ring (P m) (f ∷ u ∷ v0 ∷ v ∷ k ∷ w ∷ []) (search quote depth 40) refl)),
  )
