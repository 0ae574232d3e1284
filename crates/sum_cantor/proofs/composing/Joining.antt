-- The composed pair: from the greatest common divisor and exact cofactors to the equations `Joined` that the theorem takes.
use Prim.Native.Nat.{◌+◌, ◌-◌}
use mathlib.Core.Path.{◌≡◌, refl, sym, ap, ◌∙◌}
use mathlib.Core.List.{[], ◌∷◌}
use native.Mathlib.Omega.{arith}
use Rattle.algebra.proofs.Ring.Quote.{ring, quote, by}
use Rattle.algebra.proofs.Poly.Divide.{monic_cancel}
use Rattle.algebra.proofs.Ideal.Joined.{OnCurve, Joined, joined_on}
use Rattle.field.specs.declared.Modulus.{Modulus}
use Rattle.poly.specs.declared.Poly.{Poly}
use Rattle.poly.specs.Polys.{K, P, pol, Ok, Is}
use Rattle.poly.specs.Operations.{IsMonic, ToQuotient, Quotient, Divided}
use Rattle.poly.proofs.Division.{monic_of}
use Rattle.poly.proofs.Monic.{product_length, product_monic, quotient_length, quotient_monic}
use Rattle.sum_cantor.specs.declared.composing.Mumford.{Mumford}
use Rattle.sum_cantor.specs.declared.common.Bezout3.{Bezout3}
use Rattle.sum_cantor.specs.composing.Composing.{Slope, ToLift, Lift, ToComposeBy, Composed}
use Rattle.sum_cantor.proofs.composing.Cofactors.{on_modulo}

module _ (m : Modulus) where
  open P m use {El as Po, add as ◌+P◌, mul as ◌*P◌, neg as negP, one as 1P}

  infixl 65 ◌+P◌
  infixl 70 ◌*P◌
  module _ (f : Poly) (a b : Mumford) (t : Bezout3) (h : ToComposeBy m f a b t) where
    to_quotient_1 : ToQuotient m a.u t.d
    to_quotient_1 = record { left = h.to.left.ok_u; right = h.common.ok_d; monic = h.common.monic; divides = h.common.of_1 }

    to_quotient_2 : ToQuotient m b.u t.d
    to_quotient_2 = record { left = h.to.right.ok_u; right = h.common.ok_d; monic = h.common.monic; divides = h.common.of_2 }

    module _ (e1 e2 : Poly) (h1 : Quotient m a.u t.d e1) (h2 : Quotient m b.u t.d e2) where
      monic_1 : IsMonic m e1
      monic_1 = quotient_monic m to_quotient_1 h1 h.to.left.monic

      monic_2 : IsMonic m e2
      monic_2 = quotient_monic m to_quotient_2 h2 h.to.right.monic

      length_1 : e1.n ≡ a.u.n + 1 - t.d.n
      length_1 = quotient_length m to_quotient_1 h1 h.to.left.monic

      length_2 : e2.n ≡ b.u.n + 1 - t.d.n
      length_2 = quotient_length m to_quotient_2 h2 h.to.right.monic

      pub to_lift : (k : Poly) → Ok m k → ToLift m b.v e1 e2 k
      to_lift k hk = record {
        ok_v = h.to.right.ok_v;
        ok_1 = h1.ok;
        ok_2 = h2.ok;
        ok_k = hk;
        monic = monic_1;
        n_1 = omega (arith, length_1, h.to.n_a, h.common.monic.some);
        n_2 = omega (arith, length_2, h.to.n_b, h.common.monic.some);
      }

      module _ (k v u : Poly) (hk : Slope m f a.v b t k) (hv : Lift m b.v e1 e2 k v) (hu : Is m u (pol m e1 *P pol m e2) (e1.n + e2.n - 1)) where
        pub u_monic : IsMonic m u
        u_monic = product_monic m h1.ok h2.ok monic_1 monic_2 hu

        abbrev e3 : Po
        e3 = h.common.of_w.factor

        abbrev w1 : Po
        w1 = h.to.left.on.0

        v_sum : pol m a.v +P pol m b.v ≡ pol m t.d *P e3
        v_sum = sym h.w_is ∙ h.common.of_w.is ∙ (P m).mul_comm e3 (pol m t.d)

        u_1 : pol m a.u ≡ pol m t.d *P pol m e1
        u_1 = h1.is ∙ (P m).mul_comm (pol m e1) (pol m t.d)

        u_2 : pol m b.u ≡ pol m t.d *P pol m e2
        u_2 = h2.is ∙ (P m).mul_comm (pol m e2) (pol m t.d)

        cancel : {x y : Po} → pol m t.d *P x ≡ pol m t.d *P y → x ≡ y
        cancel {x} {y} e = monic_cancel (K m) (t.d.n - 1) (pol m t.d) x y (monic_of m h.common.ok_d h.common.monic) e

        one_is : h.common.s1 *P pol m e1 +P pol m t.s2 *P pol m e2 +P pol m t.s3 *P e3 ≡ 1P
        one_is = cancel (by (P m) (negP 1P) h.common.is (by (P m) (negP h.common.s1) u_1 (by (P m) (negP (pol m t.s2)) u_2 (by (P m) (negP (pol m t.s3)) h.w_is (by (P m) (negP (pol m t.s3)) v_sum
            (ring (P m) (pol m t.d ∷ h.common.s1 ∷ pol m t.s2 ∷ pol m t.s3 ∷ pol m e1 ∷ pol m e2 ∷ e3 ∷ pol m a.u ∷ pol m b.u ∷ pol m h.w ∷ pol m a.v ∷ pol m b.v ∷ []) (search quote depth 40) refl))))))

        w_same : pol m b.v *P e3 +P pol m e2 *P hk.w2 ≡ pol m a.v *P e3 +P pol m e1 *P w1
        w_same = cancel (by (P m) (pol m a.v +P negP (pol m b.v)) v_sum (by (P m) (negP hk.w2) u_2 (by (P m) w1 u_1 (by (P m) (negP 1P) hk.w2_is (by (P m) 1P h.to.left.on.1
            (ring (P m) (pol m t.d ∷ pol m e1 ∷ pol m e2 ∷ e3 ∷ pol m a.u ∷ pol m b.u ∷ pol m a.v ∷ pol m b.v ∷ hk.w2 ∷ w1 ∷ pol m f ∷ []) (search quote depth 40) refl))))))

        v0 : Po
        v0 = pol m b.v +P pol m e2 *P (pol m t.s2 *P (pol m a.v +P negP (pol m b.v)) +P pol m t.s3 *P hk.w2)

        joined : Joined (P m) (pol m f) (pol m a.u) (pol m a.v) (pol m b.u) (pol m b.v) (pol m u) v0
        unfolding v0
        joined = record {
          w1 = w1;
          w2 = hk.w2;
          d = pol m t.d;
          e1 = pol m e1;
          e2 = pol m e2;
          e3 = e3;
          s1 = h.common.s1;
          s2 = pol m t.s2;
          s3 = pol m t.s3;
          h_f1 = h.to.left.on.1;
          h_f2 = hk.w2_is;
          h_u1 = u_1;
          h_u2 = u_2;
          h_v = v_sum;
          h_w = w_same;
          h_one = one_is;
          h_u3 = hu.is;
          h_v3 = by (P m) (negP (pol m b.v)) one_is (ring (P m) (h.common.s1 ∷ pol m t.s2 ∷ pol m t.s3 ∷ pol m e1 ∷ pol m e2 ∷ e3 ∷ pol m a.v ∷ pol m b.v ∷ hk.w2 ∷ []) (search quote depth 40) refl);
        }

        pub composed_is : (q r : Poly) → Divided m v u q r → Composed m f a b (record { u = u; v = r })
        unfolding v0
        composed_is q r hd = record {
          v0 = v0;
          k = hv.q +P pol m q;
          joined = joined;
          v_is = v_is;
          fine = record {
            ok_u = hu.ok;
            ok_v = hd.ok_r;
            monic = u_monic;
            shorter = hd.rest;
            on = let y : OnCurve (P m) (pol m f) (pol m u) v0 = joined_on (P m) (pol m f) (pol m a.u) (pol m a.v) (pol m b.u) (pol m b.v) (pol m u) v0 joined in on_modulo m (pol m f) (pol m u) v0 (pol m r) (hv.q +P pol m q) y.0 y.1 v_is;
          };
          n_u = omega (arith, product_length m h1.ok h2.ok monic_1 monic_2 hu, length_1, length_2, h.common.monic.some, monic_1.some, monic_2.some);
        }
          where
            v_is : v0 ≡ (hv.q +P pol m q) *P pol m u +P pol m r
            v_is = ap (λ s. pol m b.v +P pol m e2 *P s) (sym hk.is) ∙ hv.is
                ∙ by (P m) 1P hd.is (by (P m) (negP hv.q) hu.is (ring (P m) (hv.q ∷ pol m e1 ∷ pol m e2 ∷ pol m v ∷ pol m q ∷ pol m u ∷ pol m r ∷ []) (search quote depth 40) refl))
