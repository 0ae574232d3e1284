-- L3, the rule's composition is right. Gives: its pair keeps the equations `Composed` in K[x], with the d, s1, s2, s3 that Euclid finds
-- (`composition_is`); it lies on the curve (`composition_on`); its degree is at most the sum of both (`composition_small`); and
-- any other d, s1, s2, s3 lead to the same pair (`composition_any`). No square-freeness is used.
use Prim.Native.Nat.{suc, ◌+◌, ◌≤◌}
use mathlib.Core.Path.{◌≡◌, refl, sym, ap, ap₂, ◌∙◌, subst}
use mathlib.Core.List.{List, [], ◌∷◌}
use native.Mathlib.Omega.{arith}
use lib.ListN.{length}
use Rattle.algebra.proofs.Ring.CRing.{mul_zer}
use Rattle.algebra.proofs.Ring.Quote.{ring, quote, by}
use Rattle.algebra.proofs.Ring.Divides.{Divides, divides_trans}
use Rattle.algebra.proofs.Ring.Field.{Field}
use Rattle.algebra.proofs.Poly.Bound.{Monic, monic_mul}
use Rattle.algebra.proofs.Poly.Poly.{coef, coef_mul}
use Rattle.algebra.proofs.Poly.Term.{C, constants}
use Rattle.algebra.proofs.Poly.Degree.{degree_mul, mul_ne, deg_bound, factor_below, monic_unit}
use Rattle.algebra.proofs.List.Ops.{add_l, mul_l, whole, quotient, remainder, Top, null, lead, top, low, monic, Bezout, gcd}
use Rattle.algebra.proofs.List.Value.{pol, mon, pol_whole, pol_add, pol_mul, mon_monic}
use Rattle.algebra.proofs.List.Division.{length_remainder, divided, exact}
use Rattle.algebra.proofs.List.Euclid.{mon_degree, mon_ne, IsTop, top_is, Gcd, gcd_is}
use Rattle.algebra.proofs.Ideal.Joined.{OnCurve, joined_on}
use Rattle.algebra.proofs.Ideal.Reduce.{on_change}
use Rattle.algebra.proofs.Ideal.Composed.{Composed}
use Rattle.algebra.proofs.Ideal.Triple.{composed_joined, Alike, composed_same}
use Rattle.rules.specs.Curve.{Curve, Kx, f}
use Rattle.rules.specs.Pair.{Pair, u_of, v_of}
use Rattle.rules.specs.Sum.{f_list, composition}
use Rattle.rules.proofs.Cantor.Accepted.{OverField, field_of}
use Rattle.rules.proofs.Cantor.Pairs.{On}
use Rattle.rules.proofs.Cantor.Normal.{pair_same}

-- the equations of composition, for pairs
abbrev pub Composes : (E : Curve) → Pair E.K → Pair E.K → Pair E.K → Type 0
Composes E a b c = Composed (Kx E) (f E) (u_of E a) (v_of E a) (u_of E b) (v_of E b) (u_of E c) (v_of E c)

module _ (E : Curve) (o : OverField E) where
  abbrev K : Field
  K = field_of E o

  open E.K use {base as F}

  abbrev L : Type 0
  L = List F.El

  open Kx E use {El as P, add as ◌⊕◌, mul as ◌*◌, neg, one as 1P}

  infixl 65 ◌⊕◌
  infixl 70 ◌*◌
  monic_product : (l m : L) → Monic F (length l + length m) (coef F (mon F l * mon F m))
  monic_product l m = subst (Monic F (length l + length m)) (sym (coef_mul F (mon F l) (mon F m))) (monic_mul F (mon_monic F l) (mon_monic F m))

  -- where u1 · u2 = d · d · q and u1, u2, d are monic, q is monic already
  pub already_monic : (l m d q : L) → mon F l * mon F m ≡ mon F d * mon F d * pol F q → mon F (monic E.K q) ≡ pol F q
  unfolding monic low
  already_monic l m d q h = go (top E.K q) (top_is K q)
    where
      go : (t : Top E.K) → IsTop K q t → mon F (low E.K t) ≡ pol F q
      go null z = absurd (mul_ne K (mon F l) (mon F m) (mon_ne K l) (mon_ne K m) (h ∙ ap (λ t. mon F d * mon F d * t) z ∙ mul_zer (Kx E) (mon F d * mon F d)))
      go (lead c r) z = sym (z.0 ∙ ap (λ t. C F t * mon F r) one ∙ ap (λ t. t * mon F r) (constants F).h_one ∙ (Kx E).one-mul (mon F r))
        where
          three : Monic F (length d + length d + length r) (coef F (mon F d * mon F d * mon F r))
          three = subst (Monic F (length d + length d + length r)) (sym (coef_mul F (mon F d * mon F d) (mon F r))) (monic_mul F (monic_product d d) (mon_monic F r))

          one : c ≡ F.one
          one = monic_unit K (length l + length m) (length d + length d + length r) (mon F l * mon F m) (mon F d * mon F d * mon F r) c z.1 (monic_product l m) three
              (by (Kx E) 1P h (by (Kx E) (mon F d * mon F d) z.0 (ring (Kx E) (mon F l ∷ mon F m ∷ mon F d ∷ pol F q ∷ C F c ∷ mon F r ∷ []) (search quote depth 40) refl)))

  module _ (a b : Pair E.K) where
    abbrev u1 : P
    u1 = u_of E a

    abbrev v1 : P
    v1 = v_of E a

    abbrev u2 : P
    u2 = u_of E b

    abbrev v2 : P
    v2 = v_of E b

    -- ---- the two runs of Euclid
    p : Bezout E.K
    p = gcd E.K a.u (whole F b.u)

    q : Bezout E.K
    unfolding p
    q = gcd E.K p.d (add_l F a.v b.v)

    abbrev d : P
    d = mon F q.d

    abbrev s1 : P
    s1 = pol F q.s * pol F p.s

    abbrev s2 : P
    s2 = pol F q.s * pol F p.t

    abbrev s3 : P
    s3 = pol F q.t

    hp : Gcd K u1 u2 (mon F p.d) (pol F p.s) (pol F p.t)
    unfolding p
    hp = rw (pol_whole F b.u) at (gcd_is K a.u (whole F b.u))

    hq : Gcd K (mon F p.d) (v1 ⊕ v2) d (pol F q.s) (pol F q.t)
    unfolding q
    hq = rw (pol_add F a.v b.v) at (gcd_is K p.d (add_l F a.v b.v))

    d_is : d ≡ s1 * u1 ⊕ s2 * u2 ⊕ s3 * (v1 ⊕ v2)
    d_is = by (Kx E) 1P hq.bezout (by (Kx E) (pol F q.s) hp.bezout
        (ring (Kx E) (u1 ∷ v1 ∷ u2 ∷ v2 ∷ d ∷ mon F p.d ∷ pol F p.s ∷ pol F p.t ∷ pol F q.s ∷ s3 ∷ []) (search quote depth 40) refl))

    in1 : Divides (Kx E) d u1
    in1 = divides_trans (Kx E) hq.left hp.left

    in2 : Divides (Kx E) d u2
    in2 = divides_trans (Kx E) hq.left hp.right

    -- ---- the rule's lists: u1·u2/d², and the fraction that v is the remainder of
    U0 : L
    unfolding q
    U0 = quotient F q.d (quotient F q.d (mul_l F (whole F a.u) (whole F b.u)))

    top_list : L
    unfolding p q
    top_list = add_l F (add_l F (mul_l F (mul_l F (mul_l F q.s p.s) (whole F a.u)) b.v) (mul_l F (mul_l F (mul_l F q.s p.t) (whole F b.u)) a.v))
        (mul_l F q.t (add_l F (mul_l F a.v b.v) (f_list E)))

    V0 : L
    unfolding q top_list
    V0 = quotient F q.d top_list

    composition_normal : composition E a b ≡ record { u = monic E.K U0; v = remainder F (monic E.K U0) V0 }
    unfolding composition p q U0 top_list V0
    composition_normal = refl

    top_is_sum : pol F top_list ≡ s1 * u1 * v2 ⊕ s2 * u2 * v1 ⊕ s3 * (v1 * v2 ⊕ f E)
    unfolding top_list
    top_is_sum = simp (pol_add F, pol_mul F, pol_whole F)

    u_split : u1 * u2 ≡ in1.factor * in2.factor * d * d
    u_split = by (Kx E) u2 in1.is (by (Kx E) (in1.factor * d) in2.is (ring (Kx E) (u1 ∷ u2 ∷ d ∷ in1.factor ∷ in2.factor ∷ []) (search quote depth 40) refl))

    U0_is : pol F U0 ≡ in1.factor * in2.factor
    unfolding U0
    U0_is = exact F q.d (quotient F q.d (mul_l F (whole F a.u) (whole F b.u))) (in1.factor * in2.factor)
        (exact F q.d (mul_l F (whole F a.u) (whole F b.u)) (in1.factor * in2.factor * d)
        (pol_mul F (whole F a.u) (whole F b.u) ∙ ap₂ ◌*◌ (pol_whole F a.u) (pol_whole F b.u) ∙ u_split))

    u_is : u1 * u2 ≡ d * d * pol F U0
    u_is = by (Kx E) 1P u_split (by (Kx E) (neg (d * d)) U0_is (ring (Kx E) (u1 ∷ u2 ∷ d ∷ pol F U0 ∷ in1.factor ∷ in2.factor ∷ []) (search quote depth 40) refl))

    U_is : u_of E (composition E a b) ≡ pol F U0
    U_is = ap (λ (c : Pair E.K). u_of E c) composition_normal ∙ already_monic a.u b.u q.d U0 u_is

    -- v is the fraction, modulo u
    V_is : Divides (Kx E) (u_of E (composition E a b)) (v_of E (composition E a b) ⊕ neg (pol F V0))
    V_is = subst (λ (c : Pair E.K). Divides (Kx E) (u_of E c) (v_of E c ⊕ neg (pol F V0))) (sym composition_normal) (record {
      factor = neg (pol F (quotient F (monic E.K U0) V0));
      is = by (Kx E) (neg 1P) (divided F (monic E.K U0) V0)
          (ring (Kx E) (pol F V0 ∷ mon F (monic E.K U0) ∷ pol F (quotient F (monic E.K U0) V0) ∷ pol F (remainder F (monic E.K U0) V0) ∷ []) (search quote depth 40) refl);
    })

    pub composition_fits : length (composition E a b).v ≡ length (composition E a b).u
    composition_fits = ap (λ (c : Pair E.K). length c.v) composition_normal ∙ length_remainder F (monic E.K U0) V0
        ∙ sym (ap (λ (c : Pair E.K). length c.u) composition_normal)

    pub composition_small : length (composition E a b).u ≤ length a.u + length b.u
    composition_small = omega (
      arith,
      deg_bound K (suc (length a.u + length b.u)) (length (composition E a b).u) (coef F (u_of E (composition E a b))) (mon_degree K (composition E a b).u)
          (factor_below K (length a.u + length b.u) (u1 * u2) (u_of E (composition E a b)) (d * d) (degree_mul K u1 u2 (mon_degree K a.u) (mon_degree K b.u))
          (u_is ∙ ap (λ t. d * d * t) (sym U_is))),
    )

    -- ---- on the curve
    module _ (on1 : On E a) (on2 : On E b) where
      W : P
      unfolding in1 in2
      W = s1 * in1.factor * v2 ⊕ s2 * in2.factor * v1 ⊕ s3 * (v2 * hq.right.factor ⊕ in2.factor * on2.on.0)

      split : s1 * u1 * v2 ⊕ s2 * u2 * v1 ⊕ s3 * (v1 * v2 ⊕ f E) ≡ W * d
      unfolding W
      split = by (Kx E) (s1 * v2) in1.is (by (Kx E) (s2 * v1 ⊕ s3 * on2.on.0) in2.is (by (Kx E) (s3 * v2) hq.right.is (by (Kx E) s3 on2.on.1
          (ring (Kx E) (f E ∷ u1 ∷ v1 ∷ u2 ∷ v2 ∷ d ∷ pol F p.s ∷ pol F p.t ∷ pol F q.s ∷ s3
          ∷ in1.factor ∷ in2.factor ∷ hq.right.factor ∷ on2.on.0 ∷ []) (search quote depth 40) refl))))

      V0_is : pol F V0 ≡ W
      unfolding V0
      V0_is = exact F q.d top_list W (top_is_sum ∙ split)

      pub composition_is : Composes E a b (composition E a b)
      composition_is = record {
        d = d;
        s1 = s1;
        s2 = s2;
        s3 = s3;
        bezout = d_is;
        in_u1 = in1;
        in_u2 = in2;
        in_v = hq.right;
        u_is = u_is ∙ ap (λ t. d * d * t) (sym U_is);
        v = pol F V0;
        v_is = ap (λ t. d * t) V0_is ∙ (Kx E).mul_comm d W ∙ sym split;
        v_mod = V_is;
      }

      -- whoever found the equations, what is composed lies on the curve
      pub composed_on : (U V' : P) → Composed (Kx E) (f E) u1 v1 u2 v2 U V' → OnCurve (Kx E) (f E) U V'
      composed_on U V' h = on_change (Kx E) (f E) U h.v U V' h.v_mod.factor 1P 1P (sym ((Kx E).one-mul U)) ((Kx E).one-mul 1P)
          (by (Kx E) 1P h.v_mod.is (ring (Kx E) (V' ∷ h.v ∷ U ∷ h.v_mod.factor ∷ []) (search quote depth 40) refl))
          (joined_on (Kx E) (f E) u1 v1 u2 v2 U h.v (composed_joined K (f E) u1 v1 u2 v2 (mon_ne K a.u) on1.on on2.on U V' h))

      pub composition_on : On E (composition E a b)
      composition_on = record { fits = composition_fits; on = composed_on (u_of E (composition E a b)) (v_of E (composition E a b)) composition_is }

      -- any d, s1, s2, s3
      pub composition_any : (c : Pair E.K) → length c.v ≡ length c.u → Composes E a b c → composition E a b ≡ c
      composition_any c fits h = go (composed_same K (f E) u1 v1 u2 v2 (mon_ne K a.u) on1.on on2.on U V' (u_of E c) (v_of E c) composition_is h)
        where
          U : P
          U = u_of E (composition E a b)

          V' : P
          V' = v_of E (composition E a b)

          go : Alike K (f E) u1 v1 u2 v2 (mon_ne K a.u) on1.on on2.on U V' (u_of E c) (v_of E c) → composition E a b ≡ c
          go x = pair_same E o (composition E a b) c composition_fits fits
              (record {
                factor = x.c';
                is = by (Kx E) (neg x.c') x.h_u (by (Kx E) (neg U) x.h_c
                    (ring (Kx E) (U ∷ u_of E c ∷ x.c ∷ x.c' ∷ []) (search quote depth 40) refl));
              })
              (record { factor = x.c; is = x.h_u })
              (record { factor = x.k; is = by (Kx E) 1P x.h_v (ring (Kx E) (U ∷ V' ∷ v_of E c ∷ x.k ∷ []) (search quote depth 40) refl) })
