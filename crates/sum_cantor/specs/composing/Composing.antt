-- What the steps of the composition ask and promise. The bounds are those of genus 3: three coefficients of v, four of u, eight of f.
use Rattle.std.specs.Prelude.{◌≤◌, ◌+◌, ◌≡◌}
use Rattle.algebra.proofs.Ideal.Joined.{Joined}
use Rattle.field.specs.declared.Modulus.{Modulus}
use Rattle.poly.specs.declared.Poly.{Poly}
use Rattle.poly.specs.Polys.{P, pol, Ok}
use Rattle.poly.specs.Operations.{IsMonic}
use Rattle.sum_cantor.specs.declared.composing.Mumford.{Mumford}
use Rattle.sum_cantor.specs.declared.common.Bezout3.{Bezout3}
use Rattle.sum_cantor.specs.common.Common.{Common}
use Rattle.sum_cantor.specs.composing.Pairs.{OnCurvePair}

module _ (m : Modulus) where
  open P m use {El as Po, add as ◌+P◌, mul as ◌*P◌, neg as negP}

  infixl 65 ◌+P◌
  infixl 70 ◌*P◌
  pub record ToSlope (f v1 : Poly) (b : Mumford) (t : Bezout3) : Type 0 where
    pub ok_f : Ok m f
    pub ok_v : Ok m v1
    pub fine : OnCurvePair m f b
    pub ok_2 : Ok m t.s2
    pub ok_3 : Ok m t.s3
    pub n_f : f.n ≤ 8
    pub n_v : v1.n ≤ 3
    pub n_b : b.u.n ≤ 4
    pub n_2 : t.s2.n ≤ 6
    pub n_3 : t.s3.n ≤ 4

  pub record Slope (f v1 : Poly) (b : Mumford) (t : Bezout3) (r : Poly) : Type 0 where
    pub w2 : Po
    pub w2_is : pol m f ≡ pol m b.v *P pol m b.v +P pol m b.u *P w2
    pub ok : Ok m r
    pub is : pol m r ≡ pol m t.s2 *P (pol m v1 +P negP (pol m b.v)) +P pol m t.s3 *P w2

  pub record ToLift (v2 e1 e2 k : Poly) : Type 0 where
    pub ok_v : Ok m v2
    pub ok_1 : Ok m e1
    pub ok_2 : Ok m e2
    pub ok_k : Ok m k
    pub monic : IsMonic m e1
    pub n_1 : e1.n ≤ 4
    pub n_2 : e2.n ≤ 4

  -- v2 + e2 · k, less a multiple of e1 · e2
  pub record Lift (v2 e1 e2 k r : Poly) : Type 0 where
    pub ok : Ok m r
    pub q : Po
    pub is : pol m v2 +P pol m e2 *P pol m k ≡ q *P (pol m e1 *P pol m e2) +P pol m r

  pub record ToCompose (f : Poly) (a b : Mumford) : Type 0 where
    pub ok_f : Ok m f
    pub n_f : f.n ≤ 8
    pub left : OnCurvePair m f a
    pub right : OnCurvePair m f b
    pub n_a : a.u.n ≤ 4
    pub n_b : b.u.n ≤ 4

  pub record ToComposeBy (f : Poly) (a b : Mumford) (t : Bezout3) : Type 0 where
    pub to : ToCompose f a b
    pub w : Poly
    pub w_is : pol m w ≡ pol m a.v +P pol m b.v
    pub common : Common m a.u b.u w t

  -- the equations of the composition (algebra's `Joined`), with v reduced modulo u
  pub record Composed (f : Poly) (a b r : Mumford) : Type 0 where
    pub v0 : Po
    pub k : Po
    pub joined : Joined (P m) (pol m f) (pol m a.u) (pol m a.v) (pol m b.u) (pol m b.v) (pol m r.u) v0
    pub v_is : v0 ≡ k *P pol m r.u +P pol m r.v
    pub fine : OnCurvePair m f r
    pub n_u : r.u.n + 1 ≤ a.u.n + b.u.n
