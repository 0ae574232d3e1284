-- Genus 3 before the division: what the steps promise, in K[x], and what r and s' are good for. (u, v) is the pair a, the base; b is the other one.
use Rattle.std.specs.Prelude.{◌≡◌, [], ◌∷◌, ◌≢◌}
use Rattle.algebra.proofs.Ring.CRing.{CRing}
use Rattle.algebra.proofs.Zmod.Zmod.{zmod}
use Rattle.algebra.proofs.Zmod.PrimeField.{modulo}
use Rattle.algebra.proofs.Poly.Bound.{Below}
use Rattle.algebra.proofs.Poly.Poly.{poly, coef}
use Rattle.algebra.proofs.Poly.Term.{C}
use Rattle.algebra.proofs.List.Value.{pol, mon}
use Rattle.algebra.proofs.Ideal.Composed.{Composed}
use Rattle.rules.specs.Curve.{Curve, f}
use Rattle.rules.specs.Pair.{Valid}
use Rattle.sum_formulas.specs.Conditions.{Coprime}
use Rattle.field.specs.declared.Modulus.{Modulus}
use Rattle.field.specs.declared.Residue.{Residue}
use Rattle.field.specs.Residues.{el, Kept, Settled, Stands, Settles}
use Rattle.divisor.specs.declared.Cubic.{Cubic}
use Rattle.divisor.specs.declared.Divisor.TheVariants.{Three}
use Rattle.divisor.specs.Divisors.{pair}
use Rattle.divisor.specs.declared.Trio.{Trio}
use Rattle.sum_genus3_open.specs.declared.Bezout.{Bezout}
use Rattle.sum_genus3_open.specs.declared.Opened.{Opened}

module _ (m : Modulus) where
  abbrev pub K : CRing
  K = zmod m.p

  open K use {El as A, add as ◌+◌, mul as ◌*◌, neg, zer as 𝟘}
  open poly K use {El as P, add as ◌⊕◌, mul as ◌⊗◌, neg as negP}

  infixl 65 ◌+◌
  infixl 70 ◌*◌
  infixl 65 ◌⊕◌
  infixl 65 ◌⊖◌
  infixl 70 ◌⊗◌
  abbrev ◌⊖◌ : P → P → P
  a ⊖ b = a ⊕ negP b

  abbrev pub tri_of : Trio → P
  tri_of d = pol K (el m d.c0 ∷ el m d.c1 ∷ el m d.c2 ∷ [])

  abbrev pub u_of : Cubic → P
  u_of a = mon K (el m a.u0 ∷ el m a.u1 ∷ el m a.u2 ∷ [])

  abbrev pub v_of : Cubic → P
  v_of a = pol K (el m a.v0 ∷ el m a.v1 ∷ el m a.v2 ∷ [])

  -- 2v
  abbrev pub twice : Cubic → P
  twice a = v_of a ⊕ v_of a

  -- a curve of genus 3 with these f4, f5 and f6
  abbrev pub curve_with : Residue → Residue → Residue → A → A → A → A → Curve
  curve_with f4 f5 f6 g0 g1 g2 g3 = record { K = modulo m.p; g = 3; low = g0 ∷ g1 ∷ g2 ∷ g3 ∷ el m f4 ∷ el m f5 ∷ el m f6 ∷ [] }

  -- its f
  abbrev pub f_with : A → A → A → A → Residue → Residue → Residue → P
  f_with g0 g1 g2 g3 f4 f5 f6 = mon K (g0 ∷ g1 ∷ g2 ∷ g3 ∷ el m f4 ∷ el m f5 ∷ el m f6 ∷ [])

  pub record KeptTrio (d : Trio) : Type 0 where
    pub c0 : Kept m d.c0
    pub c1 : Kept m d.c1
    pub c2 : Kept m d.c2

  -- i = e2 (x² + u2 x + u1) + e1 (x + u2) + e0, u of b
  abbrev pub inner : Cubic → Bezout → P
  inner b x = pol K (el m x.i0 ∷ (el m b.u2 * el m x.e2 + el m x.e1) ∷ el m x.e2 ∷ [])

  pub record Inner (b : Cubic) (x : Bezout) : Type 0 where
    pub e0 : Kept m x.e0
    pub e1 : Kept m x.e1
    pub e2 : Kept m x.e2
    pub i0 : Kept m x.i0
    pub low : el m x.i0 ≡ el m b.u1 * el m x.e2 + el m b.u2 * el m x.e1 + el m x.e0

  -- k is i·v modulo u at 0
  abbrev pub ProductV : Cubic → Residue → Residue → Residue → Residue → Type 0
  ProductV a e1 e2 i0 r =
      let k : A = el m a.v0 * el m i0 + neg (el m a.u0 * (el m e2 * el m a.v1 + el m e1 * el m a.v2)) in
      Settles m r (k + k)

  -- i·h = r modulo u; r is 0 only where h isn't coprime to u
  pub record Inverts (h : P) (b : Cubic) (x : Bezout) : Type 0 where
    pub inner_is : Inner b x
    pub settled : Settled m x.r
    pub j : P
    pub is : inner b x ⊗ h ⊕ j ⊗ u_of b ≡ C K (el m x.r)
    pub none : el m x.r ≡ 𝟘 → Coprime K h (u_of b) → ⊥

  pub record Gap (a b : Cubic) (c : Trio) : Type 0 where
    pub kept : KeptTrio c
    pub is : tri_of c ≡ v_of b ⊖ v_of a

  -- coefficients 1 and 0 of (f - v²)/u modulo u; t1, t2, t3 are 2·u0, 2·u1, u2², t5 is f5 + t3 - t2 - u2·f6
  abbrev pub Right1 : Cubic → Residue → Residue → Residue → Residue → Residue → Residue → Type 0
  Right1 a t1 t2 t5 f4 f6 k1 = Stands m k1 (el m a.u2 * (el m t2 + neg (el m t5)) + neg (el m t2 * el m f6) + (el m f4 + neg (el m t1 + el m a.v2 * el m a.v2)))

  abbrev pub Right0 : Cubic → Residue → Residue → Residue → Residue → Residue → Residue → Residue → Type 0
  Right0 a t1 t3 k1 f3 f5 f6 k0 = Stands m k0 (el m a.u2 * (el m t1 + neg (el m k1)) + el m a.u1 * (el m t3 + el m a.u1 + neg (el m f5)) + el m f3 + neg ((el m a.v2 + el m a.v2) * el m a.v1 + el m t1 * el m f6))

  -- (f - v²)/u modulo u
  pub record Right (a : Cubic) (f3 f4 f5 f6 : Residue) (c : Trio) : Type 0 where
    pub kept : KeptTrio c
    pub q : P
    pub tops : (g0 g1 g2 : A) → Below K 3 (coef K (f_with g0 g1 g2 (el m f3) f4 f5 f6 ⊖ v_of a ⊗ v_of a ⊖ u_of a ⊗ (q ⊗ u_of a ⊕ tri_of c)))

  -- only the top is tested for 0
  pub record TopSettled (d : Trio) : Type 0 where
    pub c0 : Kept m d.c0
    pub c1 : Kept m d.c1
    pub c2 : Settled m d.c2

  -- c·i modulo u
  pub record Times (c : Trio) (x : Bezout) (b : Cubic) (s : Trio) : Type 0 where
    pub settled : TopSettled s
    pub q : P
    pub is : tri_of c ⊗ inner b x ≡ q ⊗ u_of b ⊕ tri_of s

  pub record Ready (o : Opened) : Type 0 where
    pub r : Settled m o.r
    pub s : TopSettled o.s

  -- every σ = s'/r: v + σ·u over u·u' is the composition of a and b, on the curve of this f
  abbrev pub Joins : P → Cubic → Cubic → Opened → Type 0
  Joins f' a b o = (σ : P) → C K (el m o.r) ⊗ σ ≡ tri_of o.s → Composed (poly K) f' (u_of a) (v_of a) (u_of b) (v_of b) (u_of a ⊗ u_of b) (v_of a ⊕ σ ⊗ u_of a)

  pub record Opens (a b : Cubic) (o : Opened) : Type 0 where
    pub ready : Ready o
    pub none : el m o.r ≡ 𝟘 → Coprime K (u_of a) (u_of b) → ⊥
    pub joins : el m o.r ≢ 𝟘 → (f' : P) → Joins f' a b o

  -- on every curve with these f3, f4, f5, f6 that has a
  pub record OpensTwice (f3 f4 f5 f6 : Residue) (a : Cubic) (o : Opened) : Type 0 where
    pub ready : Ready o
    pub none : el m o.r ≡ 𝟘 → Coprime K (twice a) (u_of a) → ⊥
    pub joins : el m o.r ≢ 𝟘 → (g0 g1 g2 : A) → Valid (curve_with f4 f5 f6 g0 g1 g2 (el m f3)) (pair m (Three a)) → Joins (f (curve_with f4 f5 f6 g0 g1 g2 (el m f3))) a a o
