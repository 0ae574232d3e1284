-- L7, the laws. Gives: the sum of valid pairs is commutative and associative, with the neutral pair and opposites, each by L6 from the laws of
-- products of ideals; and the abelian group `jacobian E h` of the valid pairs, `Divisor E`.
-- Open: `Divisor`, `jacobian`.
use mathlib.Core.Path.{◌≡◌, refl, sym, subst}
use mathlib.Core.List
use mathlib.Core.List.{[], ◌∷◌}
use mathlib.Core.HLevel.{Σ_prop_path, Σ_set, prop→set}
use Rattle.algebra.proofs.Ring.CRing.{CRing, mul-one}
use Rattle.algebra.proofs.Ring.Quote.{ring, quote, by}
use Rattle.algebra.proofs.Ring.Field.{Field}
use Rattle.algebra.proofs.List.Value.{pol, mon, mon_nil, pol_neg}
use Rattle.algebra.proofs.List.Euclid.{mon_ne}
use Rattle.algebra.proofs.Ideal.Ideal.{Prod, prod_one, prod_out, span_ideal}
use Rattle.algebra.proofs.Ideal.Quad.{quad, two_path, pr, ι}
use Rattle.algebra.proofs.Ideal.Member.{Mumford}
use Rattle.algebra.proofs.Ideal.Class.{Whole, Same, same_sym, same_trans, same_of, same_scaled, same_left, same_right, same_comm, same_assoc}
use Rattle.algebra.proofs.Ideal.Product.{conj_to, conj_from}
use Rattle.algebra.proofs.Ideal.Domain.{ι_regular}
use Rattle.algebra.proofs.Group.Group.{AbGroup}
use Rattle.rules.specs.Curve.{Curve, Kx, f}
use Rattle.rules.specs.Pair.{Pair, Valid, neutral, opposite, u_of, v_of}
use Rattle.rules.specs.Sum.{sum}
use Rattle.rules.proofs.Cantor.Accepted.{Accepted, field_of, f_degree}
use Rattle.rules.proofs.Cantor.SquareFree.{smooth_at}
use Rattle.rules.proofs.Cantor.Pairs.{On, valid_on, valid_prop, neutral_valid, opposite_valid}
use Rattle.rules.proofs.Cantor.Step.{Kxy, ideal_of}
use Rattle.rules.proofs.Cantor.Sum.{sum_class, sum_valid}
use Rattle.rules.proofs.Cantor.Unique.{sum_is}

module _ (E : Curve) (h : Accepted E) where
  abbrev K : Field
  K = field_of E h.over

  open E.K use {base as F}
  open Kx E use {El as P, neg, one as 1P}

  abbrev S : CRing
  S = Kxy E

  abbrev D : Type 0
  D = Pair E.K

  pub sum_comm : (a b : D) → Valid E a → Valid E b → sum E a b ≡ sum E b a
  sum_comm a b va vb = sum_is E h a b (sum E b a) va vb (sum_valid E h b a vb va) (same_trans S (same_comm S) (sum_class E h b a vb va))

  pub sum_assoc : (a b c : D) → Valid E a → Valid E b → Valid E c → sum E (sum E a b) c ≡ sum E a (sum E b c)
  sum_assoc a b c va vb vc = sum_is E h (sum E a b) c (sum E a (sum E b c)) vab vc (sum_valid E h a (sum E b c) va vbc)
      (same_trans S (same_left S (same_sym S (sum_class E h a b va vb)))
      (same_trans S (same_assoc S (span_ideal S _ _) (span_ideal S _ _) (span_ideal S _ _))
      (same_trans S (same_right S (sum_class E h b c vb vc)) (sum_class E h a (sum E b c) va vbc))))
    where
      vab : Valid E (sum E a b)
      vab = sum_valid E h a b va vb

      vbc : Valid E (sum E b c)
      vbc = sum_valid E h b c vb vc

  -- the ideal of (1, 0) is everything
  one_in : ideal_of E neutral S.one
  unfolding quad pr
  one_in = record {
    at_g = S.one;
    at_h = S.zer;
    is = two_path (Kx E) (f E)
        (by (Kx E) (neg 1P) (mon_nil F) (ring (Kx E) (mon F [] ∷ pol F [] ∷ f E ∷ []) (search quote depth 40) refl))
        (ring (Kx E) (mon F [] ∷ pol F [] ∷ f E ∷ []) (search quote depth 40) refl);
  }

  pub neutral_sum : (a : D) → Valid E a → sum E neutral a ≡ a
  neutral_sum a va = sum_is E h neutral a a (neutral_valid E) va va (same_of S
      (prod_out S (span_ideal S _ _) (λ i j hi hj. (span_ideal S _ _).i_mul i j hj))
      (λ x m. subst (Prod S (ideal_of E neutral) (ideal_of E a)) (S.one-mul x) (prod_one S one_in m)))

  pub sum_opposite : (a : D) → Valid E a → sum E a (opposite a) ≡ neutral
  unfolding opposite
  sum_opposite a va = sum_is E h a (opposite a) neutral va (opposite_valid E a va) (neutral_valid E) (same_trans S to_whole whole_neutral)
    where
      on_a : On E a
      on_a = valid_on E va

      whole_neutral : Same S (Whole S) (ideal_of E neutral)
      whole_neutral = same_of S (λ x m. subst (ideal_of E neutral) (mul-one S x) ((span_ideal S _ _).i_mul x S.one one_in)) (λ x m. tt)

      to_whole : Same S (Prod S (ideal_of E a) (ideal_of E (opposite a))) (Whole S)
      to_whole = subst (λ (t : P). Same S (Prod S (ideal_of E a) (Mumford (Kx E) (f E) (u_of E a) t)) (Whole S)) (sym (pol_neg F a.v))
          (same_scaled S (ι (Kx E) (f E) (u_of E a)) (ι_regular K E.g (f E) (f_degree E h.over h.odd) (u_of E a) (mon_ne K a.u))
          (conj_to (Kx E) (f E) (smooth_at E h) (u_of E a) (v_of E a) on_a.on.0 on_a.on.1)
          (conj_from (Kx E) (f E) (smooth_at E h) (u_of E a) (v_of E a) on_a.on.0 on_a.on.1))

  -- ---- the group
  abbrev pub Divisor : Type 0
  Divisor = (a : D) × Valid E a

  pub divisor_path : {a b : Divisor} → a.0 ≡ b.0 → a ≡ b
  divisor_path {a} {b} e = Σ_prop_path (valid_prop E) {u = a} {v = b} e

  pub pair_set : IsSet D
  pair_set a b p q = λ j i. record {
    u = List.is_set F.is_set a.u b.u (λ k. (p k).u) (λ k. (q k).u) j i;
    v = List.is_set F.is_set a.v b.v (λ k. (p k).v) (λ k. (q k).v) j i;
  }

  pub divisor_set : IsSet Divisor
  divisor_set = Σ_set pair_set (λ a. prop→set (valid_prop E a))

  abbrev pub jacobian : AbGroup
  jacobian = record {
    El = Divisor;
    is_set = divisor_set;
    sum = λ a b. (sum E a.0 b.0, sum_valid E h a.0 b.0 a.1 b.1);
    zer = (neutral, neutral_valid E);
    opp = λ a. (opposite a.0, opposite_valid E a.0 a.1);
    comm = λ a b. divisor_path (sum_comm a.0 b.0 a.1 b.1);
    assoc = λ a b c. divisor_path (sum_assoc a.0 b.0 c.0 a.1 b.1 c.1);
    zer_sum = λ a. divisor_path (neutral_sum a.0 a.1);
    sum_opp = λ a. divisor_path (sum_opposite a.0 a.1);
  }
