-- Document 01, "The records": a curve y² = f(x), f monic of degree 2g + 1; and, of "Numbers the tablet shows", what 7 refuses: f and its
-- derivative share a factor of degree 1 or more. K may be the whole numbers modulo any p: no law of it is asked here.
use Rattle.std.specs.Prelude.{ℕ, List}
use Rattle.algebra.proofs.Ring.CRing.{CRing}
use Rattle.algebra.proofs.Ring.Field.{Arith}
use Rattle.algebra.proofs.Poly.Poly.{poly}
use Rattle.algebra.proofs.Poly.Derivative.{der_p}
use Rattle.algebra.proofs.Poly.Common.{SharesNoFactor}
use Rattle.algebra.proofs.List.Value.{mon}

-- low: f_0 up to f_2g. The leading 1 isn't stored. (That they are 2g + 1 isn't in the type: `read_curve` takes that many.)
pub record Curve : Type 1 where
  pub K : Arith
  pub g : ℕ
  pub low : List K.base.El

module _ (E : Curve) where
  open E.K use {base as F}

  -- the ring K[x], and f in it
  abbrev pub Kx : CRing
  Kx = poly F

  abbrev pub f : Kx.El
  f = mon F E.low

  -- f and its derivative share no factor of degree 1 or more
  abbrev pub SquareFree : Type 0
  SquareFree = SharesNoFactor F f (der_p F f)
