-- L3, any triple: over a field the equations of `Composed` are those of `Joined` (`composed_joined`), and whatever d, s1, s2, s3 were found, U is
-- the same up to a unit, and V modulo U (`composed_same`). Neither square-freeness nor L5 is used.
use mathlib.Core.Path.{◌≡◌, refl, ◌∙◌}
use mathlib.Core.List.{List, [], ◌∷◌}
use mathlib.Core.Logic.{◌≢◌}
use Rattle.algebra.proofs.Ring.CRing.{CRing}
use Rattle.algebra.proofs.Ring.Quote.{ring, quote, by}
use Rattle.algebra.proofs.Ring.Divides.{Divides}
use Rattle.algebra.proofs.Ring.Field.{Field}
use Rattle.algebra.proofs.Poly.Poly.{poly}
use Rattle.algebra.proofs.Poly.Degree.{mul_ne, right_ne, cancel}
use Rattle.algebra.proofs.Ideal.Joined.{OnCurve, Joined, any_triple}
use Rattle.algebra.proofs.Ideal.Composed.{Composed}

module _ (K : Field) where
  abbrev R : CRing
  R = poly K.arith.base

  open R use {El as P, add as ◌+◌, mul as ◌*◌, neg, zer as 0P, one as 1P}

  infixl 65 ◌+◌
  infixl 70 ◌*◌
  module _ (f u1 v1 u2 v2 : P) (n1 : u1 ≢ 0P) (on1 : OnCurve R f u1 v1) (on2 : OnCurve R f u2 v2) where
    module _ (U V' : P) (c : Composed R f u1 v1 u2 v2 U V') where
      abbrev e1 : P
      e1 = c.in_u1.factor

      abbrev e2 : P
      e2 = c.in_u2.factor

      abbrev e3 : P
      e3 = c.in_v.factor

      ρ : List P
      ρ = f ∷ u1 ∷ v1 ∷ u2 ∷ v2 ∷ U ∷ on1.0 ∷ on2.0 ∷ c.d ∷ c.s1 ∷ c.s2 ∷ c.s3 ∷ c.v ∷ e1 ∷ e2 ∷ e3 ∷ []

      pub d_ne : c.d ≢ 0P
      d_ne = right_ne K e1 c.d (λ e. n1 (c.in_u1.is ∙ e))

      at_w : v2 * e3 + e2 * on2.0 ≡ v1 * e3 + e1 * on1.0
      unfolding ρ
      at_w = cancel K c.d (v2 * e3 + e2 * on2.0) (v1 * e3 + e1 * on1.0) d_ne
          (by R (v1 + neg v2) c.in_v.is (by R on1.0 c.in_u1.is (by R (neg on2.0) c.in_u2.is (by R (neg 1P) on2.1 (by R 1P on1.1
          (ring R ρ (search quote depth 40) refl))))))

      at_one : c.s1 * e1 + c.s2 * e2 + c.s3 * e3 ≡ 1P
      unfolding ρ
      at_one = cancel K c.d (c.s1 * e1 + c.s2 * e2 + c.s3 * e3) 1P d_ne
          (by R (neg 1P) c.bezout (by R (neg c.s1) c.in_u1.is (by R (neg c.s2) c.in_u2.is (by R (neg c.s3) c.in_v.is
          (ring R ρ (search quote depth 40) refl)))))

      at_u : U ≡ e1 * e2
      unfolding ρ
      at_u = cancel K (c.d * c.d) U (e1 * e2) (mul_ne K c.d c.d d_ne d_ne)
          (by R (neg 1P) c.u_is (by R u2 c.in_u1.is (by R (e1 * c.d) c.in_u2.is (ring R ρ (search quote depth 40) refl))))

      at_v : c.v ≡ c.s1 * e1 * v2 + c.s2 * e2 * v1 + c.s3 * (v2 * e3 + e2 * on2.0)
      unfolding ρ
      at_v = cancel K c.d c.v (c.s1 * e1 * v2 + c.s2 * e2 * v1 + c.s3 * (v2 * e3 + e2 * on2.0)) d_ne
          (by R 1P c.v_is (by R (c.s1 * v2) c.in_u1.is (by R (c.s2 * v1 + c.s3 * on2.0) c.in_u2.is (by R (c.s3 * v2) c.in_v.is (by R c.s3 on2.1
          (ring R ρ (search quote depth 40) refl))))))

      unfoldable pub composed_joined : Joined R f u1 v1 u2 v2 U c.v
      unfolding at_w at_one at_u at_v
      composed_joined = record {
        w1 = on1.0;
        w2 = on2.0;
        d = c.d;
        e1 = e1;
        e2 = e2;
        e3 = e3;
        s1 = c.s1;
        s2 = c.s2;
        s3 = c.s3;
        h_f1 = on1.1;
        h_f2 = on2.1;
        h_u1 = c.in_u1.is ∙ R.mul_comm e1 c.d;
        h_u2 = c.in_u2.is ∙ R.mul_comm e2 c.d;
        h_v = c.in_v.is ∙ R.mul_comm e3 c.d;
        h_w = at_w;
        h_one = at_one;
        h_u3 = at_u;
        h_v3 = at_v;
      }

    -- ---- U up to a unit, and V modulo U
    pub record Alike (U V' U2 V2 : P) : Type 0 where
      pub c : P
      pub c' : P
      pub k : P
      pub h_u : U2 ≡ c * U
      pub h_c : c * c' ≡ 1P
      pub h_v : V2 ≡ V' + k * U

    pub composed_same : (U V' U2 V2 : P) → Composed R f u1 v1 u2 v2 U V' → Composed R f u1 v1 u2 v2 U2 V2 → Alike U V' U2 V2
    composed_same U V' U2 V2 x z = with_units (z.s1 * e1 U V' x + z.s2 * e2 U V' x + z.s3 * e3 U V' x) (x.s1 * e1 U2 V2 z + x.s2 * e2 U2 V2 z + x.s3 * e3 U2 V2 z)
        (by R 1P z.bezout (by R z.s1 x.in_u1.is (by R z.s2 x.in_u2.is (by R z.s3 x.in_v.is (ring R σ (search quote depth 40) refl)))))
        (by R 1P x.bezout (by R x.s1 z.in_u1.is (by R x.s2 z.in_u2.is (by R x.s3 z.in_v.is (ring R σ (search quote depth 40) refl)))))
      where
        σ : List P
        σ = u1 ∷ v1 ∷ u2 ∷ v2 ∷ x.d ∷ x.s1 ∷ x.s2 ∷ x.s3 ∷ e1 U V' x ∷ e2 U V' x ∷ e3 U V' x ∷ z.d ∷ z.s1 ∷ z.s2 ∷ z.s3 ∷ e1 U2 V2 z ∷ e2 U2 V2 z ∷ e3 U2 V2 z ∷ []

        -- the two divisors are multiples of one another
        with_units : (c c' : P) → z.d ≡ c * x.d → x.d ≡ c' * z.d → Alike U V' U2 V2
        with_units c c' d_is D-is = go (any_triple R v1 v2 on1.0 on2.0 (e1 U V' x) (e2 U V' x) (e3 U V' x) x.s1 x.s2 x.s3 x.v (c' * z.s1)
            (c' * z.s2) (c' * z.s3) z.v
            (at_w U V' x) (at_one U V' x) (at_v U V' x) one out)
          where
            nd : x.d ≢ 0P
            nd = d_ne U V' x

            units : c' * c ≡ 1P
            units = cancel K x.d (c' * c) 1P nd (by R (neg 1P) D-is (by R (neg c') d_is (ring R (c ∷ c' ∷ x.d ∷ z.d ∷ []) (search quote depth 40) refl)))

            -- the cofactors of what both divide
            cofactor : {a : P} (h : Divides R x.d a) (k : Divides R z.d a) → k.factor ≡ c' * h.factor
            cofactor {a} h k = cancel K x.d k.factor (c' * h.factor) nd (by R k.factor D-is (by R (neg c') k.is (by R c' h.is
                (ring R (a ∷ c' ∷ x.d ∷ z.d ∷ h.factor ∷ k.factor ∷ []) (search quote depth 40) refl))))

            e1_is : e1 U2 V2 z ≡ c' * e1 U V' x
            e1_is = cofactor x.in_u1 z.in_u1

            e2_is : e2 U2 V2 z ≡ c' * e2 U V' x
            e2_is = cofactor x.in_u2 z.in_u2

            e3_is : e3 U2 V2 z ≡ c' * e3 U V' x
            e3_is = cofactor x.in_v z.in_v

            one : c' * z.s1 * e1 U V' x + c' * z.s2 * e2 U V' x + c' * z.s3 * e3 U V' x ≡ 1P
            one = by R 1P (at_one U2 V2 z) (by R (neg z.s1) e1_is (by R (neg z.s2) e2_is (by R (neg z.s3) e3_is (ring R (c' ∷ σ) (search quote depth 40) refl))))

            out : z.v ≡ c' * z.s1 * e1 U V' x * v2 + c' * z.s2 * e2 U V' x * v1 + c' * z.s3 * (v2 * e3 U V' x + e2 U V' x * on2.0)
            out = by R 1P (at_v U2 V2 z) (by R (z.s1 * v2) e1_is (by R (z.s2 * v1 + z.s3 * on2.0) e2_is (by R (z.s3 * v2) e3_is
                (ring R (c' ∷ on2.0 ∷ z.v ∷ σ) (search quote depth 40) refl))))

            go : ((k : P) × (z.v ≡ x.v + k * (e1 U V' x * e2 U V' x))) → Alike U V' U2 V2
            go w = record {
              c = c' * c';
              c' = c * c;
              k = w.0 + z.v_mod.factor * (c' * c') + neg x.v_mod.factor;
              h_u = u_same;
              h_c = by R (c' * c + 1P) units (ring R (c ∷ c' ∷ []) (search quote depth 40) refl);
              h_v = by R 1P z.v_mod.is (by R (neg 1P) x.v_mod.is (by R 1P w.1 (by R (neg w.0) (at_u U V' x) (by R z.v_mod.factor u_same
                  (ring R (c' ∷ V' ∷ V2 ∷ U ∷ U2 ∷ x.v ∷ z.v ∷ x.v_mod.factor ∷ z.v_mod.factor ∷ w.0 ∷ e1 U V' x ∷ e2 U V' x ∷ []) (search quote depth 40) refl)))));
            }
              where
                u_same : U2 ≡ c' * c' * U
                u_same = by R 1P (at_u U2 V2 z) (by R (e2 U2 V2 z) e1_is (by R (c' * e1 U V' x) e2_is (by R (neg (c' * c')) (at_u U V' x)
                    (ring R (U ∷ U2 ∷ c' ∷ e1 U V' x ∷ e2 U V' x ∷ e1 U2 V2 z ∷ e2 U2 V2 z ∷ []) (search quote depth 40) refl))))
