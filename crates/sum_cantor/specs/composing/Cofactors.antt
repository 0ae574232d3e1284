-- What the cofactor w with f = v² + u · w asks and promises.
use Rattle.std.specs.Prelude.{◌≤◌, ◌+◌, ◌-◌, max, ◌≡◌}
use Rattle.field.specs.declared.Modulus.{Modulus}
use Rattle.poly.specs.declared.Poly.{Poly}
use Rattle.poly.specs.Polys.{P, pol, Ok}
use Rattle.sum_cantor.specs.declared.composing.Mumford.{Mumford}
use Rattle.sum_cantor.specs.composing.Pairs.{OnCurvePair}

module _ (m : Modulus) where
  open P m use {add as ◌+P◌, mul as ◌*P◌}

  infixl 65 ◌+P◌
  infixl 70 ◌*P◌
  pub record ToCofactor (f : Poly) (x : Mumford) : Type 0 where
    pub ok_f : Ok m f
    pub fine : OnCurvePair m f x
    pub n_f : f.n ≤ 8
    pub n_u : x.u.n ≤ 7

  -- f = v² + u · w
  pub record Cofactor (f : Poly) (x : Mumford) (w : Poly) : Type 0 where
    pub ok : Ok m w
    pub is : pol m f ≡ pol m x.v *P pol m x.v +P pol m x.u *P pol m w
    pub short : w.n ≤ max f.n (x.v.n + x.v.n - 1) + 1 - x.u.n
