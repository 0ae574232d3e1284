-- What the steps of the formulae of genus 2 promise, in K[x]: an equation each, or that a difference is below 2. (u, v) is the pair a, the other one is b.
use Rattle.std.specs.Prelude.{◌≡◌, [], ◌∷◌}
use Rattle.algebra.proofs.Ring.CRing.{CRing}
use Rattle.algebra.proofs.Zmod.Zmod.{zmod}
use Rattle.algebra.proofs.Poly.Bound.{Below}
use Rattle.algebra.proofs.Poly.Poly.{poly, coef}
use Rattle.algebra.proofs.Poly.Term.{C}
use Rattle.algebra.proofs.List.Value.{pol, mon}
use Rattle.sum_formulas.specs.Conditions.{Coprime}
use Rattle.field.specs.declared.Modulus.{Modulus}
use Rattle.field.specs.declared.Residue.{Residue}
use Rattle.field.specs.Residues.{el, Kept, Settled, Stands}
use Rattle.divisor.specs.declared.Quadratic.{Quadratic}
use Rattle.divisor.specs.declared.Linear.{Linear}
use Rattle.divisor.specs.declared.Divisor.TheVariants.{One, Two}
use Rattle.divisor.specs.Divisors.{Held}
use Rattle.divisor.specs.declared.Duo.{Duo}
use Rattle.sum_genus2_steps.specs.declared.Bezout.{Bezout}
use Rattle.sum_genus2_steps.specs.declared.Slope.{Slope}

module _ (m : Modulus) where
  abbrev pub K : CRing
  K = zmod m.p

  open K use {El as A, add as ◌+◌, mul as ◌*◌, neg, zer as 𝟘, one as 𝟙}
  open poly K use {El as P, add as ◌⊕◌, mul as ◌⊗◌, neg as negP, one as 1P}

  infixl 65 ◌+◌
  infixl 65 ◌-◌
  infixl 70 ◌*◌
  abbrev ◌-◌ : A → A → A
  a - b = a + neg b

  infixl 65 ◌⊕◌
  infixl 65 ◌⊖◌
  infixl 70 ◌⊗◌
  abbrev ◌⊖◌ : P → P → P
  a ⊖ b = a ⊕ negP b

  pub record KeptDuo (d : Duo) : Type 0 where
    pub c0 : Kept m d.c0
    pub c1 : Kept m d.c1

  pub record KeptSlope (x : Slope) : Type 0 where
    pub w : Kept m x.w
    pub wi : Kept m x.wi
    pub t : Kept m x.t

  -- c0 + c1 x, and x² + c1 x + c0
  abbrev pub lo : Duo → P
  lo d = pol K (el m d.c0 ∷ el m d.c1 ∷ [])

  abbrev pub mo : Duo → P
  mo d = mon K (el m d.c0 ∷ el m d.c1 ∷ [])

  -- u, v and 2v of a pair
  abbrev pub ux : Quadratic → P
  ux a = mon K (el m a.u0 ∷ el m a.u1 ∷ [])

  abbrev pub vx : Quadratic → P
  vx a = pol K (el m a.v0 ∷ el m a.v1 ∷ [])

  abbrev pub twice : Quadratic → P
  twice a = vx a ⊕ vx a

  -- x + t, of the slope w·(x + t)
  abbrev pub sx : Slope → P
  sx x = mon K (el m x.t ∷ [])

  -- (f - v²)/u from place 2 on
  abbrev pub top : Quadratic → Residue → P
  top a f4 = pol K (𝟘 ∷ 𝟘 ∷ (el m f4 - el m a.u1) ∷ 𝟙 ∷ [])

  abbrev pub fx : A → A → A → A → Residue → P
  fx f0 f1 f2 f3 f4 = mon K (f0 ∷ f1 ∷ f2 ∷ f3 ∷ el m f4 ∷ [])

  -- i0 = u1·i1 + e, so that a product modulo u needs no product by u1
  pub record Eased (b : Quadratic) (x : Bezout) : Type 0 where
    pub i : KeptDuo x.i
    pub e : Kept m x.e
    pub is : el m x.i.c0 ≡ el m b.u1 * el m x.i.c1 + el m x.e

  -- i·h = r modulo u of b; r is 0 only where h isn't coprime to it
  pub record Inverted (h : P) (b : Quadratic) (x : Bezout) : Type 0 where
    pub eased : Eased b x
    pub settled : Settled m x.r
    pub j : P
    pub is : lo x.i ⊗ h ⊕ j ⊗ ux b ≡ C K (el m x.r)
    pub none : el m x.r ≡ 𝟘 → Coprime K h (ux b) → ⊥

  -- what i is of two pairs: the new u is found by it too
  pub record Apart (a b : Quadratic) (i : Duo) : Type 0 where
    pub c1 : el m i.c1 ≡ el m b.u1 - el m a.u1
    pub c0 : el m i.c0 ≡ el m b.u1 * el m i.c1 + (el m a.u0 - el m b.u0)

  pub record Gap (a b : Quadratic) (c : Duo) : Type 0 where
    pub kept : KeptDuo c
    pub is : lo c ≡ vx b ⊖ vx a

  -- y = v1²
  abbrev pub Square : Quadratic → Residue → Type 0
  Square a y = Stands m y (el m a.v1 * el m a.v1)

  -- (f - v²)/u modulo u
  pub record Right (a : Quadratic) (f2 f3 f4 : Residue) (c : Duo) : Type 0 where
    pub kept : KeptDuo c
    pub q : P
    pub tops : (f0 f1 : A) → Below K 2 (coef K (fx f0 f1 (el m f2) (el m f3) f4 ⊖ vx a ⊗ vx a ⊖ ux a ⊗ (q ⊗ ux a ⊕ lo c)))

  -- only the top coefficient is looked at
  pub record Times (c i : Duo) (b : Quadratic) (s : Duo) : Type 0 where
    pub c0 : Kept m s.c0
    pub c1 : Settled m s.c1
    pub q : P
    pub is : lo c ⊗ lo i ≡ q ⊗ ux b ⊕ lo s

  -- i is the inverse of r·s1
  pub record Undoes (r : Residue) (s : Duo) (i : Residue) : Type 0 where
    pub kept : Kept m i
    pub is : el m r * el m s.c1 * el m i ≡ 𝟙

  pub record Slopes (r : Residue) (s : Duo) (x : Slope) : Type 0 where
    pub kept : KeptSlope x
    pub unit : C K (el m x.w) ⊗ C K (el m x.wi) ≡ 1P
    pub is : C K (el m r) ⊗ (C K (el m x.w) ⊗ sx x) ≡ lo s

  pub record Quotient (a b : Quadratic) (x : Slope) (f4 : Residue) (n : Duo) : Type 0 where
    pub kept : KeptDuo n
    pub tops : Below K 2 (coef K (sx x ⊗ (sx x ⊗ ux a ⊕ C K (el m x.wi) ⊗ twice a) ⊖ C K (el m x.wi) ⊗ (C K (el m x.wi) ⊗ top a f4) ⊖ ux b ⊗ mo n))

  pub record Rest (a : Quadratic) (x : Slope) (n : Duo) (d : Quadratic) : Type 0 where
    pub held : Held m (Two d)
    pub u0 : el m d.u0 ≡ el m n.c0
    pub u1 : el m d.u1 ≡ el m n.c1
    pub q : P
    pub is : vx a ⊕ C K (el m x.w) ⊗ sx x ⊗ ux a ≡ q ⊗ mo n ⊖ vx d

  -- the slope is a constant
  pub record Line (a b : Quadratic) (s f4 : Residue) (d : Linear) : Type 0 where
    pub held : Held m (One d)
    pub tops : Below K 2 (coef K (top a f4 ⊖ C K (el m s) ⊗ (twice a ⊕ C K (el m s) ⊗ ux a) ⊖ C K 𝟙 ⊗ (ux b ⊗ mon K (el m d.u0 ∷ []))))
    pub q : P
    pub is : vx a ⊕ C K (el m s) ⊗ ux a ≡ q ⊗ mon K (el m d.u0 ∷ []) ⊖ pol K (el m d.v0 ∷ [])
