-- W-213: splitting, then adding. Gives: where u is u1 · u2 and v is v1 modulo u1 and v2 modulo u2, both parts of a valid pair are valid and their sum is the pair (`parts_valid`, `parts_sum`), be u1 and u2 prime to
-- one another or not: u1, u2 and v1 + v2 generate 1 since f is square-free (L1). So it is of the parts at a root of u (`part_valid`, `rest_valid`, `split_sum`), with their weights.
use Prim.Native.Nat.{ℕ, ◌+◌, ◌≤◌}
use mathlib.Core.Path.{◌≡◌, refl, sym, ap, ap₂, ◌∙◌, subst}
use mathlib.Core.List.{List, [], ◌∷◌}
use native.Mathlib.Omega.{arith}
use lib.ListN.{length}
use Rattle.algebra.proofs.Ring.CRing.{CRing, mul-one}
use Rattle.algebra.proofs.Ring.Quote.{ring, quote, by}
use Rattle.algebra.proofs.Ring.Divides.{Divides}
use Rattle.algebra.proofs.Poly.Degree.{Degree, degree_mul}
use Rattle.algebra.proofs.List.Ops.{whole, quotient, remainder, monic}
use Rattle.algebra.proofs.List.Value.{pol, mon, pol_whole, mon_inj, mon_monic}
use Rattle.algebra.proofs.Poly.Divide.{monic_cancel}
use Rattle.algebra.proofs.List.Division.{length_remainder, divided, exact}
use Rattle.algebra.proofs.List.Euclid.{mon_degree}
use Rattle.algebra.proofs.Ideal.Composed.{Composed}
use Rattle.algebra.proofs.Ideal.Smooth.{Smooth}
use Rattle.rules.specs.Roots.Roots.{value}
use Rattle.rules.proofs.Roots.Value.{root_iff, value_is}
use Rattle.rules.proofs.Roots.Count.{degree_same}
use Rattle.rules.specs.Curve.{Curve, Kx, f}
use Rattle.rules.specs.Pair.{Pair, Valid, u_of, v_of}
use Rattle.rules.specs.Sum.{sum}
use Rattle.rules.specs.Split.{point, part_at, rest_at}
use Rattle.rules.proofs.Cantor.Accepted.{OverField, Accepted, field_of}
use Rattle.rules.proofs.Cantor.SquareFree.{smooth_at}
use Rattle.rules.proofs.Cantor.Composition.{already_monic}
use Rattle.rules.proofs.IsSum.{is_sum, here}

-- ---- in any ring
module _ (R : CRing) where
  open R use {El as A, add as ◌+◌, mul as ◌*◌, neg, one as 𝟙}

  infixl 65 ◌+◌
  infixl 70 ◌*◌
  module _ (f u1 v1 u2 v2 v w k1 k2 : A) (hf : f ≡ v * v + u1 * (u2 * w)) (h1 : v ≡ k1 * u1 + v1) (h2 : v ≡ k2 * u2 + v2) where
    left_divides : f + neg (v1 * v1) ≡ (k1 * (v + v1) + u2 * w) * u1
    left_divides = by R 𝟙 hf (by R (v + v1) h1 (ring R (f ∷ u1 ∷ v1 ∷ u2 ∷ v ∷ w ∷ k1 ∷ []) (search quote depth 40) refl))

    whole_one : (α β γ : A) → α * u1 + β * (v + v) + γ * (u2 * w) ≡ 𝟙 → 𝟙 ≡ (α + β * k1) * u1 + (β * k2 + γ * w) * u2 + β * (v1 + v2)
    whole_one α β γ s = by R (neg 𝟙) s (by R β h1 (by R β h2 (ring R (u1 ∷ v1 ∷ u2 ∷ v2 ∷ v ∷ w ∷ k1 ∷ k2 ∷ α ∷ β ∷ γ ∷ []) (search quote depth 40) refl)))

    composed_by_parts : (s1 s2 s3 : A) → 𝟙 ≡ s1 * u1 + s2 * u2 + s3 * (v1 + v2) → Composed R f u1 v1 u2 v2 (u1 * u2) v
    composed_by_parts s1 s2 s3 one = record {
      d = 𝟙;
      s1 = s1;
      s2 = s2;
      s3 = s3;
      bezout = one;
      in_u1 = record { factor = u1; is = sym (mul-one R u1) };
      in_u2 = record { factor = u2; is = sym (mul-one R u2) };
      in_v = record { factor = v1 + v2; is = sym (mul-one R (v1 + v2)) };
      u_is = ring R (u1 ∷ u2 ∷ []) (search quote depth 40) refl;
      v = s1 * u1 * v2 + s2 * u2 * v1 + s3 * (v1 * v2 + f);
      v_is = R.one-mul (s1 * u1 * v2 + s2 * u2 * v1 + s3 * (v1 * v2 + f));
      v_mod = record {
        factor = s1 * k2 + s2 * k1 + neg (s3 * (k1 * k2)) + neg (s3 * w);
        is = by R v one (by R (s1 * u1 + neg (s3 * (k1 * u1))) h2 (by R (s2 * u2 + neg (s3 * (v + neg v2))) h1 (by R (neg s3) hf
            (ring R (f ∷ u1 ∷ v1 ∷ u2 ∷ v2 ∷ v ∷ w ∷ k1 ∷ k2 ∷ s1 ∷ s2 ∷ s3 ∷ []) (search quote depth 40) refl))));
      };
    }

-- ---- parts of a pair
-- x's u is the product of a's and b's, and its v is theirs modulo their u
pub record Parts (E : Curve) (x a b : Pair E.K) : Type 0 where
  pub product : u_of E x ≡ (Kx E).mul (u_of E a) (u_of E b)
  pub k1 : (Kx E).El
  pub left : v_of E x ≡ (Kx E).add ((Kx E).mul k1 (u_of E a)) (v_of E a)
  pub k2 : (Kx E).El
  pub right : v_of E x ≡ (Kx E).add ((Kx E).mul k2 (u_of E b)) (v_of E b)
  pub fits_a : length a.v ≡ length a.u
  pub fits_b : length b.v ≡ length b.u
  pub small_a : length a.u ≤ E.g
  pub small_b : length b.u ≤ E.g

module _ (E : Curve) {x a b : Pair E.K} (h : Parts E x a b) where
  pub parts_turned : Parts E x b a
  parts_turned = record { product = h.product ∙ (Kx E).mul_comm (u_of E a) (u_of E b); k1 = h.k2; left = h.right; k2 = h.k1; right = h.left; fits_a = h.fits_b; fits_b = h.fits_a; small_a = h.small_b; small_b = h.small_a }

  module _ (v : Valid E x) where
    open Kx E use {El as P, add as ◌+◌, mul as ◌*◌, neg, one as 1P}

    infixl 65 ◌+◌
    infixl 70 ◌*◌
    pub whole_is : f E ≡ v_of E x * v_of E x + u_of E a * (u_of E b * v.divides.factor)
    whole_is = by (Kx E) 1P v.divides.is (by (Kx E) v.divides.factor h.product (ring (Kx E) (f E ∷ u_of E x ∷ v_of E x ∷ u_of E a ∷ u_of E b ∷ v.divides.factor ∷ []) (search quote depth 40) refl))

    pub parts_valid : Valid E a
    parts_valid = record {
      fits = h.fits_a;
      small = h.small_a;
      divides = record {
        factor = h.k1 * (v_of E x + v_of E a) + u_of E b * v.divides.factor;
        is = left_divides (Kx E) (f E) (u_of E a) (v_of E a) (u_of E b) (v_of E b) (v_of E x) v.divides.factor h.k1 h.k2 whole_is h.left h.right;
      };
    }

pub parts_sum : (E : Curve) → Accepted E → {x a b : Pair E.K} → Parts E x a b → Valid E x → sum E a b ≡ x
parts_sum E acc {x} {a} {b} h v = is_sum E acc a b x (parts_valid E h v) (parts_valid E (parts_turned E h) v) v
    (subst (λ t. Composed (Kx E) (f E) (u_of E a) (v_of E a) (u_of E b) (v_of E b) t (v_of E x)) (sym h.product) composed) here
  where
    open_smooth : Smooth (Kx E) (u_of E a) (v_of E x) ((Kx E).mul (u_of E b) v.divides.factor)
    open_smooth = smooth_at E acc (u_of E a) (v_of E x) ((Kx E).mul (u_of E b) v.divides.factor) (whole_is E h v)

    composed : Composed (Kx E) (f E) (u_of E a) (v_of E a) (u_of E b) (v_of E b) ((Kx E).mul (u_of E a) (u_of E b)) (v_of E x)
    composed = composed_by_parts (Kx E) (f E) (u_of E a) (v_of E a) (u_of E b) (v_of E b) (v_of E x) v.divides.factor h.k1 h.k2 (whole_is E h v) h.left h.right _ _ _
        (whole_one (Kx E) (f E) (u_of E a) (v_of E a) (u_of E b) (v_of E b) (v_of E x) v.divides.factor h.k1 h.k2 (whole_is E h v) h.left h.right open_smooth.α open_smooth.β open_smooth.γ open_smooth.is)

-- ---- at a root of u
module _ (E : Curve) (o : OverField E) (x : Pair E.K) (y : E.K.base.El) (root : value E.K.base x.u y ≡ E.K.base.zer) where
  open E.K use {base as F}

  abbrev pub part : Pair E.K
  part = part_at E.K y x

  abbrev pub rest : Pair E.K
  rest = rest_at E.K y x

  out : Divides (Kx E) (mon F (point E.K y)) (mon F x.u)
  out = (root_iff F y (mon F x.u)).1 (sym (value_is F y x.u) ∙ root)

  quotient_is : pol F (quotient F (point E.K y) (whole F x.u)) ≡ out.factor
  quotient_is = exact F (point E.K y) (whole F x.u) out.factor (pol_whole F x.u ∙ out.is)

  rest_u : u_of E rest ≡ out.factor
  unfolding rest_at
  rest_u = already_monic E o x.u (point E.K y) (point E.K y) (quotient F (point E.K y) (whole F x.u))
      (ap (λ t. (Kx E).mul t (mon F (point E.K y))) (out.is ∙ ap (λ t. (Kx E).mul t (mon F (point E.K y))) (sym quotient_is)) ∙ sort (pol F (quotient F (point E.K y) (whole F x.u))) (mon F (point E.K y))) ∙ quotient_is
    where
      sort : (q l : (Kx E).El) → (Kx E).mul ((Kx E).mul q l) l ≡ (Kx E).mul ((Kx E).mul l l) q
      sort q l = ring (Kx E) (q ∷ l ∷ []) (search quote depth 40) refl

  pub part_u : u_of E part ≡ mon F (point E.K y)
  unfolding part_at
  part_u = refl

  pub product_is : u_of E x ≡ (Kx E).mul (u_of E part) (u_of E rest)
  product_is = out.is ∙ (Kx E).mul_comm out.factor (mon F (point E.K y)) ∙ ap₂ (Kx E).mul (sym part_u) (sym rest_u)

  -- the weights
  pub part_weight : length part.u ≡ 1
  unfolding part_at
  part_weight = refl

  pub rest_weight : length x.u ≡ 1 + length rest.u
  rest_weight = degree_same (field_of E o) (length x.u) (1 + length rest.u) (u_of E x) (mon_degree (field_of E o) x.u)
      (subst (Degree (field_of E o) (1 + length rest.u)) (sym product_is) (degree_mul (field_of E o) (u_of E part) (u_of E rest) (subst (λ (n : ℕ). Degree (field_of E o) n (u_of E part)) part_weight (mon_degree (field_of E o) part.u)) (mon_degree (field_of E o) rest.u)))

  pub part_v : v_of E x ≡ (Kx E).add ((Kx E).mul (pol F (quotient F part.u x.v)) (u_of E part)) (v_of E part)
  unfolding part_at
  part_v = divided F (point E.K y) x.v

  pub rest_v : v_of E x ≡ (Kx E).add ((Kx E).mul (pol F (quotient F rest.u x.v)) (u_of E rest)) (v_of E rest)
  unfolding rest_at
  rest_v = divided F (monic E.K (quotient F (point E.K y) (whole F x.u))) x.v

  pub part_fits : length part.v ≡ length part.u
  unfolding part_at
  part_fits = length_remainder F (point E.K y) x.v

  pub rest_fits : length rest.v ≡ length rest.u
  unfolding rest_at
  rest_fits = length_remainder F (monic E.K (quotient F (point E.K y) (whole F x.u))) x.v

  -- the rest's u is the other factor, whatever it was found by
  pub rest_is : (l : List F.El) → length x.u ≡ 1 + length l → u_of E x ≡ (Kx E).mul (mon F (point E.K y)) (mon F l) → rest ≡ record { u = l; v = remainder F l x.v }
  unfolding rest_at part_at
  rest_is l n e = ap (λ (s : List F.El). record { u = s; v = remainder F s x.v }) u_same
    where
      u_same : monic E.K (quotient F (point E.K y) (whole F x.u)) ≡ l
      u_same = mon_inj F (monic E.K (quotient F (point E.K y) (whole F x.u))) l (omega (arith, n, rest_weight))
          (monic_cancel F 1 (mon F (point E.K y)) (u_of E rest) (mon F l) (mon_monic F (point E.K y)) (sym product_is ∙ e))

-- ---- of a valid pair on an accepted curve
module _ (E : Curve) (acc : Accepted E) (x : Pair E.K) (v : Valid E x) (y : E.K.base.El) (root : value E.K.base x.u y ≡ E.K.base.zer) where
  open E.K use {base as F}

  pub split_parts : Parts E x (part_at E.K y x) (rest_at E.K y x)
  split_parts = record {
    product = product_is E acc.over x y root;
    k1 = pol F (quotient F (part_at E.K y x).u x.v);
    left = part_v E acc.over x y root;
    k2 = pol F (quotient F (rest_at E.K y x).u x.v);
    right = rest_v E acc.over x y root;
    fits_a = part_fits E acc.over x y root;
    fits_b = rest_fits E acc.over x y root;
    small_a = omega (arith, part_weight E acc.over x y root, rest_weight E acc.over x y root, v.small);
    small_b = omega (arith, part_weight E acc.over x y root, rest_weight E acc.over x y root, v.small);
  }

  pub part_valid : Valid E (part_at E.K y x)
  part_valid = parts_valid E split_parts v

  pub rest_valid : Valid E (rest_at E.K y x)
  rest_valid = parts_valid E (parts_turned E split_parts) v

  -- splitting, then adding, gives the divisor back
  pub split_sum : sum E (part_at E.K y x) (rest_at E.K y x) ≡ x
  split_sum = parts_sum E acc split_parts v
