-- What a sum of genus 2 by formula promises, before it divides (`Opens`, `OpensTwice`), after (`Closes`), and as a whole (`Sum2`, `Double2`): of every curve with
-- these coefficients that is accepted and has the divisors.
use Rattle.std.specs.Prelude.{◌≡◌, [], ◌∷◌, ◌≢◌, Option, Some, None}
use Rattle.algebra.proofs.Zmod.PrimeField.{modulo}
use Rattle.algebra.proofs.Poly.Poly.{poly}
use Rattle.algebra.proofs.Poly.Term.{C}
use Rattle.rules.specs.Curve.{Curve, f}
use Rattle.rules.specs.Pair.{Valid}
use Rattle.rules.specs.Sum.{sum}
use Rattle.rules.proofs.Cantor.Accepted.{Accepted}
use Rattle.field.specs.declared.Modulus.{Modulus}
use Rattle.field.specs.declared.Residue.{Residue}
use Rattle.field.specs.Residues.{el, Kept, Settled}
use Rattle.divisor.specs.declared.Quadratic.{Quadratic}
use Rattle.divisor.specs.declared.Divisor.{Divisor}
use Rattle.divisor.specs.declared.Divisor.TheVariants.{Two}
use Rattle.divisor.specs.Divisors.{Held, pair}
use Rattle.sum_formulas.specs.Conditions.{Coprime, Unfit}
use Rattle.sum_formulas.proofs.Opened.{Through}
use Rattle.sum_genus2.specs.declared.Opened.{Opened}
use Rattle.sum_genus2_steps.specs.Steps.{K, KeptDuo, Apart, lo, ux, vx, twice}

module _ (m : Modulus) where
  open K m use {El as A, zer as 𝟘}
  open poly (K m) use {El as P, mul as ◌⊗◌}

  infixl 70 ◌⊗◌
  -- a curve of genus 2 with this f4
  abbrev pub curve : Residue → A → A → A → A → Curve
  curve f4 f0 f1 f2 f3 = record { K = modulo m.p; g = 2; low = f0 ∷ f1 ∷ f2 ∷ f3 ∷ el m f4 ∷ [] }

  pub record Ready (o : Opened) : Type 0 where
    pub r : Settled m o.r
    pub i : KeptDuo m o.i
    pub c0 : Kept m o.s.c0
    pub c1 : Settled m o.s.c1

  -- s' has degree below 1
  pub record Flat (o : Opened) : Type 0 where
    pub is : el m o.s.c1 ≡ 𝟘

  -- for every σ with r·σ = s', v + σ·u over u·u' is the composition
  abbrev pub Composing : P → Quadratic → Quadratic → Opened → Type 0
  Composing fE a b o = (σ : P) → C (K m) (el m o.r) ⊗ σ ≡ lo m o.s → Through (K m) fE (ux m a) (vx m a) (ux m b) (vx m b) σ

  pub record Opens (a b : Quadratic) (o : Opened) : Type 0 where
    pub ready : Ready o
    pub apart : Apart m a b o.i
    pub none : el m o.r ≡ 𝟘 → Coprime (K m) (ux m a) (ux m b) → ⊥
    pub through : el m o.r ≢ 𝟘 → (fE : P) → Composing fE a b o

  pub record OpensTwice (f2 f3 f4 : Residue) (a : Quadratic) (o : Opened) : Type 0 where
    pub ready : Ready o
    pub none : el m o.r ≡ 𝟘 → Coprime (K m) (twice m a) (ux m a) → ⊥
    pub through : el m o.r ≢ 𝟘 → (f0 f1 : A) → Valid (curve f4 f0 f1 (el m f2) (el m f3)) (pair m (Two a)) → Composing (f (curve f4 f0 f1 (el m f2) (el m f3))) a a o

  -- d is held, and is the sum of both on every such curve that has them, where what was opened is their composition
  pub record Closes (f4 : Residue) (a b : Quadratic) (o : Opened) (d : Divisor) : Type 0 where
    pub held : Held m d
    pub is : (f0 f1 f2 f3 : A) → Accepted (curve f4 f0 f1 f2 f3) → Valid (curve f4 f0 f1 f2 f3) (pair m (Two a)) → Valid (curve f4 f0 f1 f2 f3) (pair m (Two b))
        → Composing (f (curve f4 f0 f1 f2 f3)) a b o → sum (curve f4 f0 f1 f2 f3) (pair m (Two a)) (pair m (Two b)) ≡ pair m d

  -- the same without that condition
  pub record IsSum (f4 : Residue) (a b : Quadratic) (d : Divisor) : Type 0 where
    pub held : Held m d
    pub is : (f0 f1 f2 f3 : A) → Accepted (curve f4 f0 f1 f2 f3) → Valid (curve f4 f0 f1 f2 f3) (pair m (Two a)) → Valid (curve f4 f0 f1 f2 f3) (pair m (Two b))
        → sum (curve f4 f0 f1 f2 f3) (pair m (Two a)) (pair m (Two b)) ≡ pair m d

  pub record IsDouble (f2 f3 f4 : Residue) (a : Quadratic) (d : Divisor) : Type 0 where
    pub held : Held m d
    pub is : (f0 f1 : A) → Accepted (curve f4 f0 f1 (el m f2) (el m f3)) → Valid (curve f4 f0 f1 (el m f2) (el m f3)) (pair m (Two a))
        → sum (curve f4 f0 f1 (el m f2) (el m f3)) (pair m (Two a)) (pair m (Two a)) ≡ pair m d

  -- where nothing is found the two u, or 2v and u, aren't coprime: a slope of any degree is taken
  abbrev pub Sum2 : Residue → Quadratic → Quadratic → Option Divisor → Type 0
  Sum2 f4 a b (Some d) = IsSum f4 a b d
  Sum2 f4 a b None = Unfit m (ux m a) (ux m b) ⊥

  abbrev pub Double2 : Residue → Residue → Residue → Quadratic → Option Divisor → Type 0
  Double2 f2 f3 f4 a (Some d) = IsDouble f2 f3 f4 a d
  Double2 f2 f3 f4 a None = Unfit m (twice m a) (ux m a) ⊥
