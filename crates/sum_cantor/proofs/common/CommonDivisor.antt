-- The greatest common divisor of three, from Euclid's of two. Where the first two are coprime, the third isn't looked at; where they are
-- one, two ways are enough.
use Prim.Native.Nat.{◌+◌, ◌-◌, ◌<◌}
use mathlib.Core.Path.{◌≡◌, refl, sym, ap, ◌∙◌}
use mathlib.Core.List.{[], ◌∷◌}
use native.Mathlib.Omega.{arith}
use native.Mathlib.Decide.{ℕ_discrete}
use Rattle.algebra.proofs.Ring.CRing.{mul-one, mul_zer}
use Rattle.algebra.proofs.Ring.Quote.{ring, quote}
use Rattle.algebra.proofs.Ring.Divides.{Divides, divides_trans}
use Rattle.field.specs.declared.Modulus.{Modulus}
use Rattle.poly.specs.declared.Poly.{Poly}
use Rattle.poly.specs.Polys.{P, pol, Ok, Is}
use Rattle.poly.specs.Operations.{IsMonic}
use Rattle.poly.proofs.Lengths.{none_is}
use Rattle.poly.proofs.Monic.{monic_ne, monic_one}
use Rattle.poly_euclid.specs.declared.Line.{Line}
use Rattle.poly_euclid.specs.declared.RightLine.{RightLine}
use Rattle.poly_euclid.specs.Euclid.{Xgcd, XgcdRight}
use Rattle.sum_cantor.specs.common.Common.{ToCommon, Common}

module _ (m : Modulus) where
  open P m use {add as ◌+P◌, mul as ◌*P◌, zer as 0P}

  infixl 65 ◌+P◌
  infixl 70 ◌*P◌
  -- a divisor of a monic one isn't zero
  some_of : {a d : Poly} → Ok m a → IsMonic m a → Ok m d → Divides (P m) (pol m d) (pol m a) → 0 < d.n
  some_of {a} {d} h o k v = go (ℕ_discrete d.n 0)
    where
      go : Dec (d.n ≡ 0) → 0 < d.n
      go (yes e) = absurd (monic_ne m h o (v.is ∙ ap (λ t. v.factor *P t) (none_is m k e) ∙ mul_zer (P m) v.factor))
      go (no n) = omega arith

  module _ (u1 u2 w : Poly) (to : ToCommon m u1 u2 w) where
    module _ (e : RightLine) (he : XgcdRight m u1 u2 e) where
      pub first_monic : IsMonic m e.r
      first_monic = he.gcd.lead (some_of to.ok_1 to.monic he.gcd.ok he.gcd.left)

      -- coprime: w isn't looked at
      pub coprime_is : (z : Poly) → Is m z 0P 0 → e.r.n ≡ 1 → Common m u1 u2 w (record { d = e.r; s2 = e.t; s3 = z })
      coprime_is z hz l = record {
        ok_d = he.gcd.ok;
        ok_2 = he.ok_t;
        ok_3 = hz.ok;
        monic = first_monic;
        s1 = he.s;
        is = he.is ∙ ring (P m) (he.s ∷ pol m u1 ∷ pol m e.t ∷ pol m u2 ∷ pol m w ∷ []) (search quote depth 40) refl
            ∙ ap (λ t. he.s *P pol m u1 +P pol m e.t *P pol m u2 +P t *P pol m w) (sym hz.is);
        of_1 = he.gcd.left;
        of_2 = he.gcd.right;
        of_w = record { factor = pol m w; is = sym (ap (λ t. pol m w *P t) (monic_one m he.gcd.ok l first_monic) ∙ mul-one (P m) (pol m w)) };
        n_2 = omega (arith, he.short_t, to.n_1);
        n_3 = omega (arith, hz.short);
      }

      -- the gcd of the first two, and w
      pub common_is : (h : Line) (s2 : Poly) → Xgcd m e.r w h → Is m s2 (pol m h.s *P pol m e.t) (h.s.n + e.t.n - 1)
          → Common m u1 u2 w (record { d = h.r; s2 = s2; s3 = h.t })
      common_is h s2 hh h2 = record {
        ok_d = hh.gcd.ok;
        ok_2 = h2.ok;
        ok_3 = hh.ok_t;
        monic = hh.gcd.lead (some_of he.gcd.ok first_monic hh.gcd.ok hh.gcd.left);
        s1 = pol m h.s *P he.s;
        is = hh.is ∙ ap (λ t. pol m h.s *P t +P pol m h.t *P pol m w) he.is
            ∙ ring (P m) (pol m h.s ∷ pol m h.t ∷ he.s ∷ pol m e.t ∷ pol m u1 ∷ pol m u2 ∷ pol m w ∷ []) (search quote depth 40) refl
            ∙ ap (λ t. pol m h.s *P he.s *P pol m u1 +P t *P pol m u2 +P pol m h.t *P pol m w) (sym h2.is);
        of_1 = divides_trans (P m) hh.gcd.left he.gcd.left;
        of_2 = divides_trans (P m) hh.gcd.left he.gcd.right;
        of_w = hh.gcd.right;
        n_2 = omega (arith, h2.short, hh.short_s, he.short_t, to.n_1, to.n_w);
        n_3 = omega (arith, hh.short_t, he.gcd.short, to.n_1, to.n_2);
      }

      pub common_fits : (h : Line) → Xgcd m e.r w h → h.s.n + e.t.n < 12
      common_fits h hh = omega (arith, hh.short_s, he.short_t, to.n_1, to.n_w)

  -- both pairs are one
  pub twice_is : (u w : Poly) (h : RightLine) (z : Poly) → ToCommon m u u w → XgcdRight m u w h → Is m z 0P 0 → Common m u u w (record { d = h.r; s2 = z; s3 = h.t })
  twice_is u w h z to hh hz = record {
    ok_d = hh.gcd.ok;
    ok_2 = hz.ok;
    ok_3 = hh.ok_t;
    monic = hh.gcd.lead (some_of to.ok_1 to.monic hh.gcd.ok hh.gcd.left);
    s1 = hh.s;
    is = hh.is ∙ ring (P m) (hh.s ∷ pol m h.t ∷ pol m u ∷ pol m w ∷ []) (search quote depth 40) refl
        ∙ ap (λ t. hh.s *P pol m u +P t *P pol m u +P pol m h.t *P pol m w) (sym hz.is);
    of_1 = hh.gcd.left;
    of_2 = hh.gcd.left;
    of_w = hh.gcd.right;
    n_2 = omega (arith, hz.short);
    n_3 = omega (arith, hh.short_t, to.n_1);
  }
