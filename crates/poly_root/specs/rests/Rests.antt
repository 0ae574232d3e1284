-- W-213: what is left modulo a monic cubic, three coefficients, and what it stands for in K[x].
use Rattle.std.specs.Prelude.{◌≡◌, List, [], ◌∷◌}
use Rattle.algebra.proofs.Ring.CRing.{CRing}
use Rattle.algebra.proofs.Zmod.Zmod.{zmod}
use Rattle.algebra.proofs.Poly.Poly.{poly}
use Rattle.algebra.proofs.List.Value.{pol, mon}
use Rattle.field.specs.declared.Modulus.{Modulus}
use Rattle.field.specs.Residues.{el, Kept, Settled}
use Rattle.poly_root.specs.declared.rests.MonicCubic.{MonicCubic}
use Rattle.poly_root.specs.declared.rests.Rest.{Rest}

abbrev pub K : Modulus → CRing
K m = zmod m.p

abbrev pub P : Modulus → CRing
P m = poly (zmod m.p)

-- the lower coefficients of a cubic, and the cubic; a rest
abbrev pub lows : (m : Modulus) → MonicCubic → List (K m).El
lows m u = el m u.u0 ∷ el m u.u1 ∷ el m u.u2 ∷ []

abbrev pub cubic : (m : Modulus) → MonicCubic → (P m).El
cubic m u = mon (K m) (lows m u)

abbrev pub rest : (m : Modulus) → Rest → (P m).El
rest m r = pol (K m) (el m r.c0 ∷ el m r.c1 ∷ el m r.c2 ∷ [])

pub record SettledCubic (m : Modulus) (u : MonicCubic) : Type 0 where
  pub s0 : Settled m u.u0
  pub s1 : Settled m u.u1
  pub s2 : Settled m u.u2

pub record KeptRest (m : Modulus) (r : Rest) : Type 0 where
  pub k0 : Kept m r.c0
  pub k1 : Kept m r.c1
  pub k2 : Kept m r.c2

-- r is what v leaves modulo u
pub record Leaves (m : Modulus) (u : MonicCubic) (v : (P m).El) (r : Rest) : Type 0 where
  pub kept : KeptRest m r
  pub q : (P m).El
  pub is : v ≡ (P m).add ((P m).mul q (cubic m u)) (rest m r)

pub record ToMultiply (m : Modulus) (u : MonicCubic) (a b : Rest) : Type 0 where
  pub by : SettledCubic m u
  pub left : KeptRest m a
  pub right : KeptRest m b

pub record ToRaise (m : Modulus) (u : MonicCubic) (a : Rest) : Type 0 where
  pub by : SettledCubic m u
  pub base : KeptRest m a
