-- Pairs of polynomials in code, as the contracts speak of them.
use Rattle.std.specs.Prelude.{◌<◌}
use Rattle.algebra.proofs.Ideal.Joined.{OnCurve}
use Rattle.field.specs.declared.Modulus.{Modulus}
use Rattle.poly.specs.declared.Poly.{Poly}
use Rattle.poly.specs.Polys.{P, pol, Ok}
use Rattle.poly.specs.Operations.{IsMonic}
use Rattle.sum_cantor.specs.declared.composing.Mumford.{Mumford}

-- u monic, v shorter than u, u divides f - v²
pub record OnCurvePair (m : Modulus) (f : Poly) (x : Mumford) : Type 0 where
  pub ok_u : Ok m x.u
  pub ok_v : Ok m x.v
  pub monic : IsMonic m x.u
  pub shorter : x.v.n < x.u.n
  pub on : OnCurve (P m) (pol m f) (pol m x.u) (pol m x.v)
