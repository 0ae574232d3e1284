-- What the greatest common divisor of a composition asks and promises. The bounds are those of genus 3: three coefficients of v, four of u.
use Rattle.std.specs.Prelude.{◌≤◌, ◌≡◌}
use Rattle.algebra.proofs.Ring.Divides.{Divides}
use Rattle.field.specs.declared.Modulus.{Modulus}
use Rattle.poly.specs.declared.Poly.{Poly}
use Rattle.poly.specs.Polys.{P, pol, Ok}
use Rattle.poly.specs.Operations.{IsMonic}
use Rattle.sum_cantor.specs.declared.common.Bezout3.{Bezout3}

module _ (m : Modulus) where
  open P m use {El as Po, add as ◌+P◌, mul as ◌*P◌}

  infixl 65 ◌+P◌
  infixl 70 ◌*P◌
  pub record ToCommon (u1 u2 w : Poly) : Type 0 where
    pub ok_1 : Ok m u1
    pub ok_2 : Ok m u2
    pub ok_w : Ok m w
    pub monic : IsMonic m u1
    pub n_1 : u1.n ≤ 4
    pub n_2 : u2.n ≤ 4
    pub n_w : w.n ≤ 3

  -- d, monic, divides u1, u2 and w, and is s1 · u1 + s2 · u2 + s3 · w
  pub record Common (u1 u2 w : Poly) (r : Bezout3) : Type 0 where
    pub ok_d : Ok m r.d
    pub ok_2 : Ok m r.s2
    pub ok_3 : Ok m r.s3
    pub monic : IsMonic m r.d
    pub s1 : Po
    pub is : pol m r.d ≡ s1 *P pol m u1 +P pol m r.s2 *P pol m u2 +P pol m r.s3 *P pol m w
    pub of_1 : Divides (P m) (pol m r.d) (pol m u1)
    pub of_2 : Divides (P m) (pol m r.d) (pol m u2)
    pub of_w : Divides (P m) (pol m r.d) (pol m w)
    pub n_2 : r.s2.n ≤ 6
    pub n_3 : r.s3.n ≤ 4
