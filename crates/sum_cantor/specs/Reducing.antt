-- What the steps of the reduction ask and promise, and the sum: composed, then reduced.
use Rattle.std.specs.Prelude.{ℕ, ◌≤◌, ◌+◌, ◌-◌, max, ◌≡◌}
use Rattle.algebra.proofs.Poly.Term.{C}
use Rattle.field.specs.declared.Modulus.{Modulus}
use Rattle.poly.specs.declared.Poly.{Poly}
use Rattle.poly.specs.Polys.{K, P, pol, Ok}
use Rattle.sum_cantor.specs.declared.composing.Mumford.{Mumford}
use Rattle.sum_cantor.specs.composing.Pairs.{OnCurvePair}
use Rattle.sum_cantor.specs.composing.Cofactors.{ToCofactor}
use Rattle.sum_cantor.specs.composing.Composing.{Composed}

module _ (m : Modulus) where
  open P m use {El as Po, add as ◌+P◌, mul as ◌*P◌, neg as negP}

  infixl 65 ◌+P◌
  infixl 70 ◌*P◌
  -- f has degree 2g + 1
  pub record ToStep (f : Poly) (x : Mumford) : Type 0 where
    pub to : ToCofactor m f x
    pub g : ℕ
    pub odd : f.n ≡ g + g + 2

  -- the new u is the cofactor w times a constant that has an inverse, and the new v is -v less a multiple of it
  pub record Stepped (f : Poly) (x r : Mumford) : Type 0 where
    pub w : Po
    pub w_is : pol m f ≡ pol m x.v *P pol m x.v +P pol m x.u *P w
    pub up : (K m).El
    pub down : (K m).El
    pub unit : (K m).mul down up ≡ (K m).one
    pub u_is : pol m r.u ≡ C (K m) up *P w
    pub k : Po
    pub v_is : negP (pol m x.v) ≡ k *P pol m r.u +P pol m r.v
    pub fine : OnCurvePair m f r
    pub n_u : r.u.n ≤ max f.n (x.v.n + x.v.n - 1) + 1 - x.u.n

  -- any number of steps
  pub data Steps (f : Poly) : Mumford → Mumford → Type 0 where
    none : {x : Mumford} → Steps f x x
    more : {x y z : Mumford} → Steps f x y → Stepped f y z → Steps f x z

  pub record ToReduce (f : Poly) (g : ℕ) (x : Mumford) : Type 0 where
    pub to : ToCofactor m f x
    pub odd : f.n ≡ g + g + 2

  pub record Reduced (f : Poly) (g : ℕ) (x r : Mumford) : Type 0 where
    pub steps : Steps f x r
    pub fine : OnCurvePair m f r
    pub short : r.u.n ≤ g + 1

  pub record ToSum (f : Poly) (g : ℕ) (a b : Mumford) : Type 0 where
    pub ok_f : Ok m f
    pub genus : g ≤ 3
    pub odd : f.n ≡ g + g + 2
    pub left : OnCurvePair m f a
    pub right : OnCurvePair m f b
    pub n_a : a.u.n ≤ g + 1
    pub n_b : b.u.n ≤ g + 1

  pub record Summed (f : Poly) (g : ℕ) (a b r : Mumford) : Type 0 where
    pub mid : Mumford
    pub composed : Composed m f a b mid
    pub reduced : Reduced f g mid r
