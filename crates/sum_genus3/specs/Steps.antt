-- Genus 3 after the division: what each step promises, in K[x]. s = s'/r is w·S with S = x² + s1 x + s0; (u, v) is the pair a, the base; b is the other one.
use Rattle.std.specs.Prelude.{◌≡◌, [], ◌∷◌}
use Rattle.algebra.proofs.Poly.Bound.{Below}
use Rattle.algebra.proofs.Poly.Poly.{poly, coef}
use Rattle.algebra.proofs.Poly.Term.{C}
use Rattle.algebra.proofs.List.Value.{pol, mon}
use Rattle.field.specs.declared.Modulus.{Modulus}
use Rattle.field.specs.declared.Residue.{Residue}
use Rattle.field.specs.Residues.{el, Kept, Stands, Settles}
use Rattle.divisor.specs.declared.Cubic.{Cubic}
use Rattle.divisor.specs.declared.Divisor.TheVariants.{Three}
use Rattle.divisor.specs.Divisors.{Held}
use Rattle.sum_genus3_open.specs.declared.Opened.{Opened}
use Rattle.sum_genus3_open.specs.Opens.{K, tri_of, u_of, v_of, twice, f_with, Ready}
use Rattle.sum_genus3.specs.declared.Four.{Four}
use Rattle.sum_genus3.specs.declared.Five.{Five}
use Rattle.sum_genus3.specs.declared.Slope.{Slope}

module _ (m : Modulus) where
  open K m use {El as A, add as ◌+◌, mul as ◌*◌, neg, zer as 𝟘, one as 𝟙}
  open poly (K m) use {El as P, add as ◌⊕◌, mul as ◌⊗◌, neg as negP, one as 1P}

  infixl 65 ◌+◌
  infixl 70 ◌*◌
  infixl 65 ◌⊕◌
  infixl 65 ◌⊖◌
  infixl 70 ◌⊗◌
  abbrev ◌⊖◌ : P → P → P
  a ⊖ b = a ⊕ negP b

  abbrev pub cst : Residue → P
  cst x = C (K m) (el m x)

  pub record KeptFour (d : Four) : Type 0 where
    pub c0 : Kept m d.c0
    pub c1 : Kept m d.c1
    pub c2 : Kept m d.c2
    pub c3 : Kept m d.c3

  pub record KeptFive (d : Five) : Type 0 where
    pub c0 : Kept m d.c0
    pub c1 : Kept m d.c1
    pub c2 : Kept m d.c2
    pub c3 : Kept m d.c3
    pub c4 : Kept m d.c4

  pub record KeptSlope (x : Slope) : Type 0 where
    pub w : Kept m x.w
    pub wi : Kept m x.wi
    pub s0 : Kept m x.s0
    pub s1 : Kept m x.s1

  -- c3 x³ + c2 x² + c1 x + c0
  abbrev pub four_of : Four → P
  four_of d = pol (K m) (el m d.c0 ∷ el m d.c1 ∷ el m d.c2 ∷ el m d.c3 ∷ [])

  -- x⁴ + c3 x³ + ..
  abbrev pub quartic_of : Four → P
  quartic_of d = mon (K m) (el m d.c0 ∷ el m d.c1 ∷ el m d.c2 ∷ el m d.c3 ∷ [])

  -- x⁵ + c4 x⁴ + ..
  abbrev pub quintic_of : Five → P
  quintic_of d = mon (K m) (el m d.c0 ∷ el m d.c1 ∷ el m d.c2 ∷ el m d.c3 ∷ el m d.c4 ∷ [])

  -- S
  abbrev pub slope_of : Slope → P
  slope_of x = mon (K m) (el m x.s0 ∷ el m x.s1 ∷ [])

  -- (f - v²)/u from place 3 on
  abbrev pub top_of : Residue → Cubic → P
  top_of f6 a = pol (K m) (𝟘 ∷ 𝟘 ∷ 𝟘 ∷ (el m f6 + neg (el m a.u2)) ∷ 𝟙 ∷ [])

  -- i = 1/(r·s'2)
  pub record Divisible (o : Opened) (i : Residue) : Type 0 where
    pub ready : Ready m o
    pub kept : Kept m i
    pub is : el m o.r * el m o.s.c2 * el m i ≡ 𝟙

  pub record Slopes (o : Opened) (x : Slope) : Type 0 where
    pub kept : KeptSlope x
    pub unit : cst x.w ⊗ cst x.wi ≡ 1P
    pub is : cst o.r ⊗ (cst x.w ⊗ slope_of x) ≡ tri_of m o.s

  pub record Stretched (a : Cubic) (x : Slope) (z : Five) : Type 0 where
    pub kept : KeptFive z
    pub is : slope_of x ⊗ u_of m a ≡ quintic_of z

  -- z is S·u: S·(S·u + 2v/w) - ((f - v²)/u)/w² is u'·n from place 3 on
  pub record Quotient (f6 : Residue) (a b : Cubic) (x : Slope) (z : P) (n : Four) : Type 0 where
    pub kept : KeptFour n
    pub tops : Below (K m) 3 (coef (K m) (slope_of x ⊗ (z ⊕ cst x.wi ⊗ twice m a) ⊖ cst x.wi ⊗ (cst x.wi ⊗ top_of f6 a) ⊖ u_of m b ⊗ quartic_of n))

  -- n's coefficients 1 and 0, each from those above it; d is 2·v2
  abbrev pub Quotient1 : Cubic → Slope → Five → Residue → Residue → Residue → Residue → Type 0
  Quotient1 b x z d n2 n3 n1 = Stands m n1 (el m z.c2 + neg (el m b.u0) + (el m x.s0 * el m z.c4 + el m x.s1 * el m z.c3) + neg (el m b.u2 * el m n2 + el m b.u1 * el m n3) + el m x.wi * (el m d + neg (el m x.wi)))

  abbrev pub Quotient0 : Residue → Cubic → Cubic → Slope → Five → Residue → Residue → Residue → Residue → Residue → Type 0
  Quotient0 f6 a b x z d n1 n2 n3 n0 = Stands m n0 (el m z.c1 + (el m x.s0 * el m z.c3 + neg (el m b.u1 * el m n2)) + (el m x.s1 * el m z.c2 + el m x.wi * (el m d * el m x.s1 + el m x.wi * (el m a.u2 + neg (el m f6)) + (el m a.v1 + el m a.v1))) + neg (el m b.u2 * el m n1 + el m b.u0 * el m n3))

  -- (S·2v - ((f - v²)/u)/w)/u at place 0
  abbrev pub OverU : Residue → Cubic → Slope → Residue → Residue → Type 0
  OverU f6 a x d q = Stands m q ((el m x.s1 + neg (el m a.u2)) * el m d + el m x.wi * (el m a.u2 + el m a.u2 + neg (el m f6)) + (el m a.v1 + el m a.v1))

  -- v + s·u modulo n
  pub record Rest (a : Cubic) (x : Slope) (z : Five) (n t : Four) : Type 0 where
    pub kept : KeptFour t
    pub q : P
    pub is : v_of m a ⊕ cst x.w ⊗ quintic_of z ≡ q ⊗ quartic_of n ⊕ four_of t

  -- the coefficient 0 of (f - t²)/n, from t1 = 2·t3 and those above it
  abbrev pub SecondU0 : Four → Four → Residue → Residue → Residue → Residue → Residue → Type 0
  SecondU0 n t t1 e1 e2 f4 e0 = Settles m e0 (el m f4 + neg (el m n.c1) + neg (el m t.c2 * el m t.c2 + el m e2 * el m n.c2) + neg (el m e1 * el m n.c3 + el m t1 * el m t.c1))

  -- u is x³ + e2 x² + .., v is t modulo u
  pub record SecondV (e0 e1 e2 : Residue) (t : Four) (d : Cubic) : Type 0 where
    pub held : Held m (Three d)
    pub u : u_of m d ≡ mon (K m) (el m e0 ∷ el m e1 ∷ el m e2 ∷ [])
    pub q : P
    pub is : four_of t ≡ q ⊗ u_of m d ⊕ v_of m d

  -- p is (f - t²)/n from place 4 on
  abbrev pub SecondTops : Four → Four → Residue → Residue → Residue → P → Type 0
  SecondTops n t f4 f5 f6 p = (g0 g1 g2 g3 : A) → Below (K m) 4 (coef (K m) (f_with m g0 g1 g2 g3 f4 f5 f6 ⊖ four_of t ⊗ four_of t ⊖ quartic_of n ⊗ p))

  -- (f - t²)/n, and t modulo it
  pub record Second (n t : Four) (f4 f5 f6 : Residue) (d : Cubic) : Type 0 where
    pub held : Held m (Three d)
    pub tops : SecondTops n t f4 f5 f6 (u_of m d)
    pub q : P
    pub is : four_of t ≡ q ⊗ u_of m d ⊕ v_of m d
