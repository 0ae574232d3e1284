-- An equation's f as a polynomial of code.
use Rattle.std.specs.Prelude.{◌+◌, ◌≡◌}
use Rattle.rules.specs.Curve.{f}
use Rattle.poly.specs.declared.Poly.{Poly}
use Rattle.poly.specs.Polys.{pol, Ok}
use Rattle.poly.specs.Operations.{IsMonic}
use Rattle.curve.specs.declared.Equation.{Equation}
use Rattle.curve.specs.Equations.{equation}

pub record OfEquation (e : Equation) (x : Poly) : Type 0 where
  pub ok : Ok e.prime.m x
  pub odd : x.n ≡ e.g + e.g + 2
  pub monic : IsMonic e.prime.m x
  pub is : pol e.prime.m x ≡ f (equation e.prime.m e.g e.f0 e.f1 e.f2 e.f3 e.f4 e.f5 e.f6)
