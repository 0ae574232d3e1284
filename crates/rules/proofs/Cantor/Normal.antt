-- Pairs by division. Gives: pairs are equal where their u's divide one another and u divides the difference of their v's (`pair_same`); what
-- `monic` and the remainder make of any u and v: u up to a unit, v modulo u (`normal_is`).
-- Open: `normal`.
use Prim.Native.Nat.{ℕ, ◌+◌}
use mathlib.Core.Path.{◌≡◌, refl, sym, ap, ◌∙◌, subst}
use mathlib.Core.List.{List, [], ◌∷◌}
use mathlib.Core.Logic.{◌≢◌}
use native.Mathlib.Omega.{arith}
use lib.ListN.{length}
use Rattle.algebra.proofs.Ring.CRing.{eq_of_sub}
use Rattle.algebra.proofs.Ring.Quote.{ring, quote, by}
use Rattle.algebra.proofs.Ring.Divides.{Divides}
use Rattle.algebra.proofs.Ring.Field.{Arith, Field}
use Rattle.algebra.proofs.Poly.Bound.{Below}
use Rattle.algebra.proofs.Poly.Poly.{coef}
use Rattle.algebra.proofs.Poly.Term.{C}
use Rattle.algebra.proofs.Poly.Degree.{Degree, degree_C, degree_mul, small, below_sub}
use Rattle.algebra.proofs.List.Ops.{quotient, remainder, Top, null, lead, top, low, monic}
use Rattle.algebra.proofs.List.Value.{pol, mon, pol_below, pol_inj}
use Rattle.algebra.proofs.List.Division.{length_remainder, divided}
use Rattle.algebra.proofs.List.Euclid.{C_inv, mon_degree, IsTop, top_is, monic_same}
use Rattle.rules.specs.Curve.{Curve, Kx}
use Rattle.rules.specs.Pair.{Pair, u_of, v_of}
use Rattle.rules.proofs.Cantor.Accepted.{OverField, field_of}

-- u made monic, and v modulo it
abbrev pub normal : (K : Arith) → List K.base.El → List K.base.El → Pair K
normal K u v = record { u = monic K u; v = remainder K.base (monic K u) v }

module _ (E : Curve) (o : OverField E) where
  abbrev K : Field
  K = field_of E o

  open E.K use {base as F}
  open Kx E use {El as P, add as ◌+◌, mul as ◌*◌, neg, zer as 0P, one as 1P}

  infixl 65 ◌+◌
  infixl 70 ◌*◌
  pub pair_same : (a b : Pair E.K) → length a.v ≡ length a.u → length b.v ≡ length b.u
      → Divides (Kx E) (u_of E b) (u_of E a) → Divides (Kx E) (u_of E a) (u_of E b)
      → Divides (Kx E) (u_of E a) (v_of E b + neg (v_of E a)) → a ≡ b
  pair_same a b fits fits' h h' d = λ i. record { u = same_u i; v = same_v i }
    where
      same_u : a.u ≡ b.u
      same_u = monic_same K a.u b.u h h'

      len_v : length b.v ≡ length a.u
      len_v = fits' ∙ ap length (sym same_u)

      below : (l : List F.El) → length l ≡ length a.u → Below F (length a.u) (coef F (pol F l))
      below l e = subst (λ (n : ℕ). Below F n (coef F (pol F l))) e (pol_below F l)

      same_v : a.v ≡ b.v
      same_v = pol_inj F a.v b.v (fits ∙ sym len_v) (sym (eq_of_sub (Kx E) (v_of E b) (v_of E a)
          (small K (length a.u) (u_of E a) (v_of E b + neg (v_of E a)) d.factor (mon_degree K a.u)
          (below_sub K (v_of E b) (v_of E a) (below b.v len_v) (below a.v fits)) d.is)))

  -- c has the inverse c'
  pub record Normal (u v : List F.El) (a : Pair E.K) : Type 0 where
    pub c : P
    pub c' : P
    pub k : P
    pub h_u : u_of E a ≡ c * pol F u
    pub h_c : c * c' ≡ 1P
    pub h_v : v_of E a ≡ pol F v + k * pol F u
    pub len : length a.v ≡ length a.u
    pub deg : Degree K (length a.u) (pol F u)

  pub normal_is : (u v : List F.El) → pol F u ≢ 0P → Normal u v (normal E.K u v)
  unfolding monic low
  normal_is u v n = go (top E.K u) (top_is K u)
    where
      go : (t : Top E.K) → IsTop K u t → Normal u v (record { u = low E.K t; v = remainder F (low E.K t) v })
      go null z = absurd (n z)
      go (lead c m) z = record {
        c = i;
        c' = C F c;
        k = neg (q * i);
        h_u = by (Kx E) (neg i) z.0 (by (Kx E) (neg (mon F m)) (C_inv K c z.1) (ring (Kx E) (C F c ∷ i ∷ pol F u ∷ mon F m ∷ []) (search quote depth 40) refl));
        h_c = (Kx E).mul_comm i (C F c) ∙ C_inv K c z.1;
        h_v = by (Kx E) (neg 1P) (divided F m v) (by (Kx E) (q * i) z.0 (by (Kx E) (q * mon F m) (C_inv K c z.1)
            (ring (Kx E) (C F c ∷ i ∷ pol F u ∷ mon F m ∷ pol F v ∷ q ∷ pol F (remainder F m v) ∷ []) (search quote depth 40) refl)));
        len = length_remainder F m v;
        deg = subst (Degree K (length m)) (sym z.0) (subst (λ (i : ℕ). Degree K i (C F c * mon F m)) (omega arith)
            (degree_mul K (C F c) (mon F m) (degree_C K c z.1) (mon_degree K m)));
      }
        where
          i : P
          i = C F (E.K.inv c)

          q : P
          q = pol F (quotient F m v)
