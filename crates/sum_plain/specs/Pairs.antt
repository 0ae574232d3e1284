-- A divisor and its two polynomials in code.
use Rattle.std.specs.Prelude.{◌+◌, ◌<◌, ◌≤◌, ◌≡◌}
use Rattle.algebra.proofs.Zmod.Zmod.{zmod}
use Rattle.algebra.proofs.List.Value.{pol as list-pol, mon}
use Rattle.field.specs.declared.Modulus.{Modulus}
use Rattle.poly.specs.Polys.{pol, Ok}
use Rattle.poly.specs.Operations.{IsMonic}
use Rattle.divisor.specs.declared.Divisor.{Divisor}
use Rattle.divisor.specs.Divisors.{weight_of, us, vs, elements, Held}
use Rattle.sum_cantor.specs.declared.composing.Mumford.{Mumford}

-- x has the polynomials u and v of d
pub record AsPair (m : Modulus) (d : Divisor) (x : Mumford) : Type 0 where
  pub ok_u : Ok m x.u
  pub ok_v : Ok m x.v
  pub monic : IsMonic m x.u
  pub n_u : x.u.n ≡ weight_of d + 1
  pub n_v : x.v.n ≤ weight_of d
  pub u_is : pol m x.u ≡ mon (zmod m.p) (elements m (us d))
  pub v_is : pol m x.v ≡ list-pol (zmod m.p) (elements m (vs d))

-- what can be held as one of the four cases
pub record ToDivisor (m : Modulus) (x : Mumford) : Type 0 where
  pub ok_u : Ok m x.u
  pub ok_v : Ok m x.v
  pub monic : IsMonic m x.u
  pub shorter : x.v.n < x.u.n
  pub short : x.u.n ≤ 4

pub record FromPair (m : Modulus) (x : Mumford) (d : Divisor) : Type 0 where
  pub held : Held m d
  pub is : AsPair m d x
