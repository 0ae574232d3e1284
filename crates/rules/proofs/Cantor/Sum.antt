-- L3 and L4 together. Gives: whatever keeps the equations of composition has I(a)·I(b) = d·I(U, V) (`product_in`, `product_out`); the rule's
-- sum of valid pairs is the while loop from the composition, of at most ⌈g/2⌉ turns (`sum_loop`); it is valid (`sum_valid`), and
-- its ideal is in the class of the product of theirs (`sum_class`).
use Prim.Native.Nat.{◌+◌, ◌/◌, ◌≤◌}
use mathlib.Core.Path.{◌≡◌, refl, sym}
use mathlib.Core.List.{[], ◌∷◌}
use mathlib.Core.Logic.{◌≢◌}
use native.Mathlib.Omega.{arith}
use lib.ListN.{length}
use Rattle.algebra.proofs.Ring.Quote.{ring, quote, by}
use Rattle.algebra.proofs.Ring.Field.{Field}
use Rattle.algebra.proofs.List.Euclid.{mon_ne}
use Rattle.algebra.proofs.Ideal.Ideal.{◌⊆◌, Prod, Scaled}
use Rattle.algebra.proofs.Ideal.Quad.{ι}
use Rattle.algebra.proofs.Ideal.Member.{Mumford}
use Rattle.algebra.proofs.Ideal.Joined.{Joined}
use Rattle.algebra.proofs.Ideal.Composed.{Composed}
use Rattle.algebra.proofs.Ideal.Triple.{d_ne, composed_joined}
use Rattle.algebra.proofs.Ideal.Class.{Same, same_trans, same_scaled}
use Rattle.algebra.proofs.Ideal.Product.{join_in, join_out}
use Rattle.algebra.proofs.Ideal.Reduce.{change_in}
use Rattle.algebra.proofs.Ideal.Domain.{ι_regular}
use Rattle.rules.specs.Curve.{Curve, Kx, f}
use Rattle.rules.specs.Pair.{Pair, Valid, u_of, v_of}
use Rattle.rules.specs.Sum.{composition, sum}
use Rattle.rules.proofs.Cantor.Accepted.{Accepted, field_of, f_degree}
use Rattle.rules.proofs.Cantor.SquareFree.{smooth_at}
use Rattle.rules.proofs.Cantor.Pairs.{On, valid_on, on_valid}
use Rattle.rules.proofs.Cantor.Composition.{composition_is, composition_on, composition_small}
use Rattle.rules.proofs.Cantor.Step.{Kxy, ideal_of}
use Rattle.rules.proofs.Cantor.Reduction.{Reduced, few}

module _ (E : Curve) (h : Accepted E) where
  abbrev K : Field
  K = field_of E h.over

  open Kx E use {El as P, add as ◌⊕◌, mul as ◌*◌, neg, one as 1P}

  infixl 65 ◌⊕◌
  infixl 70 ◌*◌
  -- whatever keeps the equations of composition: I(a)·I(b) = d·I(U, V)
  module _ (a b : Pair E.K) (on1 : On E a) (on2 : On E b) (U V' : P) (c : Composed (Kx E) (f E) (u_of E a) (v_of E a) (u_of E b) (v_of E b) U V') where
    J : Joined (Kx E) (f E) (u_of E a) (v_of E a) (u_of E b) (v_of E b) U c.v
    J = composed_joined K (f E) (u_of E a) (v_of E a) (u_of E b) (v_of E b) (mon_ne K a.u) on1.on on2.on U V' c

    d_not_zero : c.d ≢ (Kx E).zer
    d_not_zero = d_ne K (f E) (u_of E a) (v_of E a) (u_of E b) (v_of E b) (mon_ne K a.u) on1.on on2.on U V' c

    v_change : V' ≡ c.v ⊕ c.v_mod.factor * U
    v_change = by (Kx E) 1P c.v_mod.is (ring (Kx E) (U ∷ V' ∷ c.v ∷ c.v_mod.factor ∷ []) (search quote depth 40) refl)

    v_back : c.v ≡ V' ⊕ neg c.v_mod.factor * U
    v_back = by (Kx E) (neg 1P) v_change (ring (Kx E) (U ∷ V' ∷ c.v ∷ c.v_mod.factor ∷ []) (search quote depth 40) refl)

    change : (v v' k : P) → v' ≡ v ⊕ k * U → ◌⊆◌ (Kxy E) (Mumford (Kx E) (f E) U v) (Mumford (Kx E) (f E) U v')
    change v v' k e = change_in (Kx E) (f E) U v U v' k 1P 1P (sym ((Kx E).one-mul U)) ((Kx E).one-mul 1P) e

    pub product_in : ◌⊆◌ (Kxy E) (Prod (Kxy E) (ideal_of E a) (ideal_of E b)) (Scaled (Kxy E) (ι (Kx E) (f E) c.d) (Mumford (Kx E) (f E) U V'))
    unfolding J composed_joined
    product_in x p = let z = join_in (Kx E) (f E) (smooth_at E h) (u_of E a) (v_of E a) (u_of E b) (v_of E b) U c.v J x p in
        record { part = z.part; inside = change c.v V' c.v_mod.factor v_change z.part z.inside; is = z.is }

    pub product_out : ◌⊆◌ (Kxy E) (Scaled (Kxy E) (ι (Kx E) (f E) c.d) (Mumford (Kx E) (f E) U V')) (Prod (Kxy E) (ideal_of E a) (ideal_of E b))
    unfolding J composed_joined
    product_out x z = join_out (Kx E) (f E) (smooth_at E h) (u_of E a) (v_of E a) (u_of E b) (v_of E b) U c.v J x
        (record { part = z.part; inside = change V' c.v (neg c.v_mod.factor) v_back z.part z.inside; is = z.is })

    pub composed_class : Same (Kxy E) (Prod (Kxy E) (ideal_of E a) (ideal_of E b)) (Mumford (Kx E) (f E) U V')
    composed_class = same_scaled (Kxy E) (ι (Kx E) (f E) c.d) (ι_regular K E.g (f E) (f_degree E h.over h.odd) c.d d_not_zero) product_in product_out

  module _ (a b : Pair E.K) (va : Valid E a) (vb : Valid E b) where
    on1 : On E a
    on1 = valid_on E va

    on2 : On E b
    on2 = valid_on E vb

    bound : length (composition E a b).u ≤ E.g + E.g
    bound = omega (arith, composition_small E h.over a b, va.small, vb.small)

    pub sum_loop : Reduced E h.over h.odd ((E.g + 1) / 2) (composition E a b) (sum E a b)
    unfolding sum
    sum_loop = few E h.over h.odd (composition E a b) (composition_on E h.over a b on1 on2) bound

    pub sum_valid : Valid E (sum E a b)
    sum_valid = on_valid E sum_loop.on_curve sum_loop.short

    pub sum_class : Same (Kxy E) (Prod (Kxy E) (ideal_of E a) (ideal_of E b)) (ideal_of E (sum E a b))
    sum_class = same_trans (Kxy E)
        (composed_class a b on1 on2 (u_of E (composition E a b)) (v_of E (composition E a b)) (composition_is E h.over a b on1 on2))
        sum_loop.same
