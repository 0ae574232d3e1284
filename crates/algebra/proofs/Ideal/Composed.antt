-- L3 as the rule says it: d divides u1, u2 and v1 + v2 and is s1·u1 + s2·u2 + s3·(v1 + v2); U = u1·u2 / d²; V counts modulo U. Gives: `Composed`,
-- these equations in any ring, whoever found them; and the two cases that formulae in closed form take, with
-- d = 1: `composed_coprime` of u1 and u2 prime to one another, `composed_tangent` of a pair with itself.
use mathlib.Core.Path.{◌≡◌, refl, sym}
use mathlib.Core.List.{[], ◌∷◌}
use Rattle.algebra.proofs.Ring.CRing.{CRing, mul-one}
use Rattle.algebra.proofs.Ring.Quote.{ring, quote, by}
use Rattle.algebra.proofs.Ring.Divides.{Divides}

module _ (R : CRing) where
  open R use {El as P, add as ◌+◌, mul as ◌*◌, neg, zer as 0P, one as 1P}

  infixl 65 ◌+◌
  infixl 70 ◌*◌
  pub record Composed (f u1 v1 u2 v2 U V' : P) : Type 0 where
    pub d : P
    pub s1 : P
    pub s2 : P
    pub s3 : P
    pub bezout : d ≡ s1 * u1 + s2 * u2 + s3 * (v1 + v2)
    pub in_u1 : Divides R d u1
    pub in_u2 : Divides R d u2
    pub in_v : Divides R d (v1 + v2)
    pub u_is : u1 * u2 ≡ d * d * U
    -- v before it is reduced modulo U
    pub v : P
    pub v_is : d * v ≡ s1 * u1 * v2 + s2 * u2 * v1 + s3 * (v1 * v2 + f)
    pub v_mod : Divides R U (V' + neg v)

  -- ---- for formulae in closed form, where d = 1: no triple need be calculated, only shown to exist
  -- u1 and u2 prime to one another: any l that is v1 modulo u1 and v2 modulo u2
  pub composed_coprime : (f u1 v1 u2 v2 s1 s2 l : P) → s1 * u1 + s2 * u2 ≡ 1P → Divides R u1 (l + neg v1) → Divides R u2 (l + neg v2)
      → Composed f u1 v1 u2 v2 (u1 * u2) l
  composed_coprime f u1 v1 u2 v2 s1 s2 l one h1 h2 = record {
    d = 1P;
    s1 = s1;
    s2 = s2;
    s3 = 0P;
    bezout = by R (neg 1P) one (ring R (u1 ∷ v1 ∷ u2 ∷ v2 ∷ s1 ∷ s2 ∷ []) (search quote depth 40) refl);
    in_u1 = record { factor = u1; is = sym (mul-one R u1) };
    in_u2 = record { factor = u2; is = sym (mul-one R u2) };
    in_v = record { factor = v1 + v2; is = sym (mul-one R (v1 + v2)) };
    u_is = ring R (u1 ∷ u2 ∷ []) (search quote depth 40) refl;
    v = s1 * u1 * v2 + s2 * u2 * v1;
    v_is = ring R (f ∷ u1 ∷ v1 ∷ u2 ∷ v2 ∷ s1 ∷ s2 ∷ []) (search quote depth 40) refl;
    v_mod = record {
      factor = s1 * h2.factor + s2 * h1.factor;
      is = by R (neg l) one (by R (s1 * u1) h2.is (by R (s2 * u2) h1.is
          (ring R (u1 ∷ v1 ∷ u2 ∷ v2 ∷ s1 ∷ s2 ∷ l ∷ h1.factor ∷ h2.factor ∷ []) (search quote depth 40) refl)));
    };
  }

  -- a pair with itself, u prime to 2v: any l that is v modulo u with f - l² a multiple of u²
  pub composed_tangent : (f u v s t l : P) → s * u + t * (v + v) ≡ 1P → Divides R u (l + neg v) → Divides R (u * u) (f + neg (l * l))
      → Composed f u v u v (u * u) l
  composed_tangent f u v s t l one h k = record {
    d = 1P;
    s1 = s;
    s2 = 0P;
    s3 = t;
    bezout = by R (neg 1P) one (ring R (u ∷ v ∷ s ∷ t ∷ []) (search quote depth 40) refl);
    in_u1 = record { factor = u; is = sym (mul-one R u) };
    in_u2 = record { factor = u; is = sym (mul-one R u) };
    in_v = record { factor = v + v; is = sym (mul-one R (v + v)) };
    u_is = ring R (u ∷ []) (search quote depth 40) refl;
    v = s * u * v + t * (v * v + f);
    v_is = ring R (f ∷ u ∷ v ∷ s ∷ t ∷ []) (search quote depth 40) refl;
    v_mod = record {
      factor = s * h.factor + neg (t * k.factor) + neg (t * (h.factor * h.factor));
      is = by R (neg l) one (by R (s * u + neg (t * (l + neg v + h.factor * u))) h.is (by R (neg t) k.is
          (ring R (f ∷ u ∷ v ∷ s ∷ t ∷ l ∷ h.factor ∷ k.factor ∷ []) (search quote depth 40) refl)));
    };
  }
