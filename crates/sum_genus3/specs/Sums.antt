-- Genus 3: what a sum by formula promises, of every curve with these coefficients that accepts the divisors: the rule's sum, where it finds one.
use Rattle.std.specs.Prelude.{◌≡◌, ◌≢◌, Option, Some, None}
use Rattle.algebra.proofs.Zmod.Zmod.{zmod}
use Rattle.rules.specs.Curve.{f}
use Rattle.rules.specs.Pair.{Valid}
use Rattle.rules.specs.Sum.{sum}
use Rattle.rules.proofs.Cantor.Accepted.{Accepted}
use Rattle.field.specs.declared.Modulus.{Modulus}
use Rattle.field.specs.declared.Residue.{Residue}
use Rattle.field.specs.Residues.{el}
use Rattle.divisor.specs.declared.Cubic.{Cubic}
use Rattle.divisor.specs.declared.Divisor.{Divisor}
use Rattle.divisor.specs.declared.Divisor.TheVariants.{Three}
use Rattle.divisor.specs.Divisors.{Held, pair}
use Rattle.sum_formulas.specs.Conditions.{Unfit}
use Rattle.sum_genus3_open.specs.declared.Opened.{Opened}
use Rattle.sum_genus3_open.specs.Opens.{curve_with, u_of, twice, Joins, Opens, OpensTwice}

module _ (m : Modulus) where
  abbrev A : Type 0
  A = (zmod m.p).El

  -- wherever s'/r composes a and b
  pub record Closes (f4 f5 f6 : Residue) (a b : Cubic) (o : Opened) (d : Cubic) : Type 0 where
    pub held : Held m (Three d)
    pub is : (g0 g1 g2 g3 : A) → Accepted (curve_with m f4 f5 f6 g0 g1 g2 g3) → Valid (curve_with m f4 f5 f6 g0 g1 g2 g3) (pair m (Three a)) → Valid (curve_with m f4 f5 f6 g0 g1 g2 g3) (pair m (Three b))
        → Joins m (f (curve_with m f4 f5 f6 g0 g1 g2 g3)) a b o → sum (curve_with m f4 f5 f6 g0 g1 g2 g3) (pair m (Three a)) (pair m (Three b)) ≡ pair m (Three d)

  pub record Found3 (f4 f5 f6 : Residue) (a b : Cubic) (d : Divisor) : Type 0 where
    pub held : Held m d
    pub is : (g0 g1 g2 g3 : A) → Accepted (curve_with m f4 f5 f6 g0 g1 g2 g3) → Valid (curve_with m f4 f5 f6 g0 g1 g2 g3) (pair m (Three a)) → Valid (curve_with m f4 f5 f6 g0 g1 g2 g3) (pair m (Three b))
        → sum (curve_with m f4 f5 f6 g0 g1 g2 g3) (pair m (Three a)) (pair m (Three b)) ≡ pair m d

  -- the slope s'/r of two pairs, or of one with itself, has degree below 2: r isn't 0, and the top of s' is
  pub record Short (a b : Cubic) : Type 0 where
    pub o : Opened
    pub opens : Opens m a b o
    pub nonzero : el m o.r ≢ (zmod m.p).zer
    pub top : el m o.s.c2 ≡ (zmod m.p).zer

  pub record ShortTwice (f3 f4 f5 f6 : Residue) (a : Cubic) : Type 0 where
    pub o : Opened
    pub opens : OpensTwice m f3 f4 f5 f6 a o
    pub nonzero : el m o.r ≢ (zmod m.p).zer
    pub top : el m o.s.c2 ≡ (zmod m.p).zer

  -- where nothing is found the two u, or 2v and u, aren't coprime, or the slope is short
  abbrev pub Sum3 : Residue → Residue → Residue → Cubic → Cubic → Option Divisor → Type 0
  Sum3 f4 f5 f6 a b (Some d) = Found3 f4 f5 f6 a b d
  Sum3 f4 f5 f6 a b None = Unfit m (u_of m a) (u_of m b) (Short a b)

  pub record Twice3 (f3 f4 f5 f6 : Residue) (a : Cubic) (d : Divisor) : Type 0 where
    pub held : Held m d
    pub is : (g0 g1 g2 : A) → Accepted (curve_with m f4 f5 f6 g0 g1 g2 (el m f3)) → Valid (curve_with m f4 f5 f6 g0 g1 g2 (el m f3)) (pair m (Three a))
        → sum (curve_with m f4 f5 f6 g0 g1 g2 (el m f3)) (pair m (Three a)) (pair m (Three a)) ≡ pair m d

  abbrev pub Double3 : Residue → Residue → Residue → Residue → Cubic → Option Divisor → Type 0
  Double3 f3 f4 f5 f6 a (Some d) = Twice3 f3 f4 f5 f6 a d
  Double3 f3 f4 f5 f6 a None = Unfit m (twice m a) (u_of m a) (ShortTwice f3 f4 f5 f6 a)
