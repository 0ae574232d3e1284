-- L6, second half: where I(u2, v2) and I(u1, v1) are in one class and (u3, v3) is composed of (u2, v2) and the opposite of (u1, v1), with
-- deg u3 at most 2g, u3 is a unit. That the two pairs are one then follows by division (rules, proofs/Cantor/Unique).
use Prim.Native.Nat.{ℕ, suc, ◌+◌, ◌≤◌}
use mathlib.Core.Path.{◌≡◌, refl}
use mathlib.Core.List.{[], ◌∷◌}
use mathlib.Core.Logic.{◌≢◌}
use Rattle.algebra.proofs.Ring.CRing.{CRing}
use Rattle.algebra.proofs.Ring.Quote.{ring, quote, by}
use Rattle.algebra.proofs.Ring.Divides.{Divides}
use Rattle.algebra.proofs.Ring.Field.{Field}
use Rattle.algebra.proofs.Poly.Poly.{poly}
use Rattle.algebra.proofs.Poly.Degree.{Degree}
use Rattle.algebra.proofs.Ideal.Quad.{quad, ι, rea, ima, norm}
use Rattle.algebra.proofs.Ideal.Member.{Mumford, member}
use Rattle.algebra.proofs.Ideal.Smooth.{Smooth}
use Rattle.algebra.proofs.Ideal.Joined.{OnCurve, Joined, joined_on}
use Rattle.algebra.proofs.Ideal.Class.{Same, mul_regular}
use Rattle.algebra.proofs.Ideal.Product.{join_in, join_out, conj_to, conj_from}
use Rattle.algebra.proofs.Ideal.Principal.{Principal, principal, norm∣u, unit}
use Rattle.algebra.proofs.Ideal.Norm.{no_y}
use Rattle.algebra.proofs.Ideal.Domain.{ι_regular}

module _ (K : Field) (g : ℕ) (f : (poly K.arith.base).El) (hf : Degree K (suc (g + g)) f)
    (sm : (u v w : (poly K.arith.base).El) → f ≡ (poly K.arith.base).add ((poly K.arith.base).mul v v) ((poly K.arith.base).mul u w)
    → Smooth (poly K.arith.base) u v w) where
  abbrev R : CRing
  R = poly K.arith.base

  open R use {El as P, add as ◌⊕◌, mul as ◌*◌, neg, zer as 0P, one as 1P}

  infixl 65 ◌⊕◌
  infixl 70 ◌*◌
  abbrev S : CRing
  S = quad R f

  pub unit_part : (u1 v1 u2 v2 u3 v3 : P) (e : ℕ) (H : Joined R f u2 v2 u1 (neg v1) u3 v3) → H.d ≢ 0P → OnCurve R f u1 v1 → Degree K e u3 → e ≤ g + g
      → Same S (Mumford R f u2 v2) (Mumford R f u1 v1) → Divides R u3 1P
  unit_part u1 v1 u2 v2 u3 v3 e H nd on1 du3 le h = go (norm∣u R f u3 v3 pri (conj_to R f sm u3 v3 on3.0 on3.1) (conj_from R f sm u3 v3 on3.0 on3.1))
    where
      pri : Principal S (Mumford R f u3 v3)
      pri = principal S h.a h.b (ι R f H.d) (ι R f u1) h.to h.from
          (join_in R f sm u2 v2 u1 (neg v1) u3 v3 H) (join_out R f sm u2 v2 u1 (neg v1) u3 v3 H)
          (conj_to R f sm u1 v1 on1.0 on1.1) (conj_from R f sm u1 v1 on1.0 on1.1)
          (mul_regular S h.a (ι R f H.d) h.ra (ι_regular K g f hf H.d nd))

      on3 : OnCurve R f u3 v3
      on3 = joined_on R f u2 v2 u1 (neg v1) u3 v3 H

      go : Divides R (norm R f pri.gen) u3 → Divides R u3 1P
      go n = last (unit R f u3 v3 pri (conj_to R f sm u3 v3 on3.0 on3.1) (conj_from R f sm u3 v3 on3.0 on3.1) no_im)
          (member R f u3 v3 on3.0 on3.1 pri.gen pri.gen_in)
        where
          no_im : ima R f pri.gen ≡ 0P
          no_im = no_y K g f hf e u3 n.factor pri.gen du3 le n.is

          last : Divides R (rea R f pri.gen) 1P → Divides R u3 (rea R f pri.gen ⊕ ima R f pri.gen * v3) → Divides R u3 1P
          last p q = record {
            factor = p.factor * q.factor;
            is = by R 1P p.is (by R p.factor q.is (by R (neg (p.factor * v3)) no_im
                (ring R (p.factor ∷ q.factor ∷ rea R f pri.gen ∷ ima R f pri.gen ∷ u3 ∷ v3 ∷ []) (search quote depth 40) refl)));
          }
