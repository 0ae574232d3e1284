-- A sum of two divisors opened: which two it was opened from, that what it divides by has an inverse, and what that is.
use Rattle.std.specs.Prelude.{◌≡◌, ◌≢◌, ◌⊎◌}
use Rattle.algebra.proofs.Zmod.Zmod.{zmod}
use Rattle.field.specs.declared.Modulus.{Modulus}
use Rattle.field.specs.declared.Residue.{Residue}
use Rattle.field.specs.Residues.{el, Kept, HasInverse}
use Rattle.divisor.specs.declared.Divisor.{Divisor}
use Rattle.divisor.specs.declared.Divisor.TheVariants.{Neutral, One, Two, Three}
use Rattle.divisor.specs.declared.Quadratic.{Quadratic}
use Rattle.sum_genus2.specs.declared.Opened.{Opened as Opened2}
use Rattle.sum_genus2.specs.Sums.{Opens as Opens2}
use Rattle.sum_genus3_open.specs.declared.Opened.{Opened as Opened3}
use Rattle.sum_genus3_open.specs.Opens.{Opens as Opens3}
use Rattle.curve.specs.declared.Curve.{Curve}
use Rattle.jacobian.specs.Tries.{UnfitSum}
use Rattle.sum_lanes.specs.declared.openings.Opening.{Opening}
use Rattle.sum_lanes.specs.declared.openings.Opening.TheVariants.{Special, ByTwo, ByThree}

-- by the formula of genus 2
pub record FromTwo (c : Curve) (a b : Quadratic) (o : Opened2) : Type 0 where
  pub genus : c.g ≡ 2
  pub opens : Opens2 c.prime.m a b o

module _ (c : Curve) where
  -- both of weight 2, both of weight 3
  abbrev pub is_two : Divisor → Divisor → Opened2 → Type 0
  is_two Neutral b o = ⊥
  is_two (One x) b o = ⊥
  is_two (Two x) Neutral o = ⊥
  is_two (Two x) (One y) o = ⊥
  is_two (Two x) (Two y) o = FromTwo c x y o
  is_two (Two x) (Three y) o = ⊥
  is_two (Three x) b o = ⊥

  abbrev pub is_three : Divisor → Divisor → Opened3 → Type 0
  is_three Neutral b o = ⊥
  is_three (One x) b o = ⊥
  is_three (Two x) b o = ⊥
  is_three (Three x) Neutral o = ⊥
  is_three (Three x) (One y) o = ⊥
  is_three (Three x) (Two y) o = ⊥
  is_three (Three x) (Three y) o = Opens3 c.prime.m x y o

  -- genus 2, the slope is short: its formula has an inverse of its own
  pub record ShortTwo (a b : Divisor) : Type 0 where
    pub o : Opened2
    pub opens : is_two a b o
    pub nonzero : el c.prime.m o.r ≢ (zmod c.prime.m.p).zer
    pub top : el c.prime.m o.s.c1 ≡ (zmod c.prime.m.p).zer

  -- nothing is opened only where no formula is to be taken, or that one
  abbrev pub From : Divisor → Divisor → Opening → Type 0
  From a b Special = UnfitSum c a b ⊎ ShortTwo a b
  From a b (ByTwo o) = is_two a b o
  From a b (ByThree o) = is_three a b o

module _ (m : Modulus) where
  open zmod m.p use {El as A, mul as ◌*◌, one as 𝟙}

  infixl 70 ◌*◌
  -- r and the top coefficient of s' have inverses
  abbrev pub Fit : Opening → Type 0
  Fit Special = Unit {0}
  Fit (ByTwo o) = HasInverse m o.r × HasInverse m o.s.c1
  Fit (ByThree o) = HasInverse m o.r × HasInverse m o.s.c2

  -- what is divided by: their product
  abbrev pub under : Opening → A
  under Special = 𝟙
  under (ByTwo o) = el m o.r * el m o.s.c1
  under (ByThree o) = el m o.r * el m o.s.c2

  -- i is 1 over it
  pub record Undoes (o : Opening) (i : Residue) : Type 0 where
    pub kept : Kept m i
    pub is : under o * el m i ≡ 𝟙

-- opened from a and b
pub record Opened (c : Curve) (a b : Divisor) (o : Opening) : Type 0 where
  pub from : From c a b o
  pub fit : Fit c.prime.m o

-- what is to be inverted
pub record Under (m : Modulus) (o : Opening) (r : Residue) : Type 0 where
  pub unit : HasInverse m r
  pub is : el m r ≡ under m o
