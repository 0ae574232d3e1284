-- L6, one valid pair in each class: where I(a) and I(b) are in one class, a and b are one pair (`unique`). Hence the form that later proofs use:
-- a valid pair whose ideal is in the class of I(a)·I(b), however it was found, is the sum (`sum_is`); and the same with
-- explicit nonzero α and β (`sum_is_nonzero`).
use Prim.Native.Nat.{◌+◌, ◌≤◌}
use mathlib.Core.Path.{◌≡◌, refl, ◌∙◌, subst}
use mathlib.Core.List.{[], ◌∷◌}
use mathlib.Core.Logic.{◌≢◌}
use native.Mathlib.Omega.{arith}
use lib.ListN.{length}
use Rattle.algebra.proofs.Ring.Quote.{ring, quote, by}
use Rattle.algebra.proofs.Ring.Divides.{Divides}
use Rattle.algebra.proofs.Ring.Field.{Field}
use Rattle.algebra.proofs.List.Value.{pol_neg}
use Rattle.algebra.proofs.List.Euclid.{mon_degree, mon_ne}
use Rattle.algebra.proofs.Ideal.Ideal.{Prod}
use Rattle.algebra.proofs.Ideal.Joined.{OnCurve, Joined}
use Rattle.algebra.proofs.Ideal.Composed.{Composed}
use Rattle.algebra.proofs.Ideal.Triple.{d_ne, composed_joined}
use Rattle.algebra.proofs.Ideal.Class.{Same, Moved, same_sym, same_trans}
use Rattle.algebra.proofs.Ideal.Domain.{regular}
use Rattle.algebra.proofs.Ideal.Unique.{unit_part}
use Rattle.rules.specs.Curve.{Curve, Kx, f}
use Rattle.rules.specs.Pair.{Pair, Valid, opposite, u_of, v_of}
use Rattle.rules.specs.Sum.{composition, sum}
use Rattle.rules.proofs.Cantor.Accepted.{Accepted, field_of, f_degree}
use Rattle.rules.proofs.Cantor.SquareFree.{smooth_at}
use Rattle.rules.proofs.Cantor.Pairs.{On, valid_on, opposite_on}
use Rattle.rules.proofs.Cantor.Normal.{pair_same}
use Rattle.rules.proofs.Cantor.Composition.{composition_is, composition_small}
use Rattle.rules.proofs.Cantor.Step.{Kxy, ideal_of}
use Rattle.rules.proofs.Cantor.Sum.{sum_class, sum_valid}

module _ (E : Curve) (h : Accepted E) where
  abbrev K : Field
  K = field_of E h.over

  open E.K use {base as F}
  open Kx E use {El as P, mul as ◌*◌, neg, zer as 0P, one as 1P}

  infixl 70 ◌*◌
  module _ (a b : Pair E.K) (va : Valid E a) (vb : Valid E b) where
    abbrev u1 : P
    u1 = u_of E a

    abbrev v1 : P
    v1 = v_of E a

    abbrev u2 : P
    u2 = u_of E b

    abbrev v2 : P
    v2 = v_of E b

    -- b composed with the opposite of a
    c : Pair E.K
    c = composition E b (opposite a)

    abbrev U : P
    U = u_of E c

    abbrev V' : P
    V' = v_of E c

    eqs : Composed (Kx E) (f E) u2 v2 u1 (neg v1) U V'
    unfolding c opposite
    eqs = subst (λ (t : P). Composed (Kx E) (f E) u2 v2 u1 t U V') (pol_neg F a.v) (composition_is E h.over b (opposite a) (valid_on E vb) (opposite_on E (valid_on E va)))

    on_b : On E b
    on_b = valid_on E vb

    on_a : On E a
    on_a = valid_on E va

    minus : OnCurve (Kx E) (f E) u1 (neg v1)
    minus = (on_a.on.0, by (Kx E) 1P on_a.on.1 (ring (Kx E) (f E ∷ u1 ∷ v1 ∷ on_a.on.0 ∷ []) (search quote depth 40) refl))

    J : Joined (Kx E) (f E) u2 v2 u1 (neg v1) U eqs.v
    J = composed_joined K (f E) u2 v2 u1 (neg v1) (mon_ne K b.u) on_b.on minus U V' eqs

    J_d : J.d ≢ 0P
    unfolding J composed_joined
    J_d = d_ne K (f E) u2 v2 u1 (neg v1) (mon_ne K b.u) on_b.on minus U V' eqs

    small : length c.u ≤ E.g + E.g
    unfolding c opposite
    small = omega (arith, composition_small E h.over b (opposite a), va.small, vb.small)

    -- a composed U that is a unit gives u1 | u2 | u1 and u1 | v2 - v1: what is d·p is then a multiple of d·q, where U is q·q'
    finish : Divides (Kx E) U 1P → a ≡ b
    finish z = pair_same E h.over a b va.fits vb.fits
        (multiple J.e2 J.e1 J.e2 J.h_u2 J.h_u1 J.h_u3)
        (multiple J.e1 J.e2 J.e1 J.h_u1 J.h_u2 turned)
        (multiple J.e3 J.e2 J.e1 J.h_v J.h_u2 turned)
      where
        turned : U ≡ J.e2 * J.e1
        turned = J.h_u3 ∙ (Kx E).mul_comm J.e1 J.e2

        multiple : {x y : P} (p q q' : P) → x ≡ J.d * p → y ≡ J.d * q → U ≡ q * q' → Divides (Kx E) y x
        multiple {x} {y} p q q' hx hy hU = record {
          factor = p * q' * z.factor;
          is = by (Kx E) 1P hx (by (Kx E) (neg (p * q' * z.factor)) hy (by (Kx E) (J.d * p) z.is (by (Kx E) (J.d * p * z.factor) hU
              (ring (Kx E) (x ∷ y ∷ p ∷ q ∷ q' ∷ U ∷ J.d ∷ z.factor ∷ []) (search quote depth 40) refl))));
        }

    pub unique : Same (Kxy E) (ideal_of E a) (ideal_of E b) → a ≡ b
    unique s = finish (unit_part K E.g (f E) (f_degree E h.over h.odd) (smooth_at E h) u1 v1 u2 v2 U eqs.v (length c.u) J J_d on_a.on
        (mon_degree K c.u) small (same_sym (Kxy E) s))

  module _ (a b c : Pair E.K) (va : Valid E a) (vb : Valid E b) (vc : Valid E c) where
    pub sum_is : Same (Kxy E) (Prod (Kxy E) (ideal_of E a) (ideal_of E b)) (ideal_of E c) → sum E a b ≡ c
    sum_is s = unique (sum E a b) c (sum_valid E h a b va vb) vc (same_trans (Kxy E) (same_sym (Kxy E) (sum_class E h a b va vb)) s)

    -- α · I(a) · I(b) = β · I(c)
    pub sum_is_nonzero : (α β : (Kxy E).El) → α ≢ (Kxy E).zer → β ≢ (Kxy E).zer
        → ((x : (Kxy E).El) → Prod (Kxy E) (ideal_of E a) (ideal_of E b) x → Moved (Kxy E) α β x (ideal_of E c))
        → ((x : (Kxy E).El) → ideal_of E c x → Moved (Kxy E) β α x (Prod (Kxy E) (ideal_of E a) (ideal_of E b)))
        → sum E a b ≡ c
    sum_is_nonzero α β nα nβ to from = let hf = f_degree E h.over h.odd in
        sum_is (record { a = α; b = β; ra = regular K E.g (f E) hf α nα; rb = regular K E.g (f E) hf β nβ; to = to; from = from })
