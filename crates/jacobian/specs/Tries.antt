-- What a try of the formulae promises: what is found is the sum; where nothing is found, one of the three conditions (crate sum_formulas) fails: both have weight g (1), what is inverted is coprime to u (2), and in genus 3 the slope isn't short (3).
use Rattle.std.specs.Prelude.{◌≡◌, Option, Some, None}
use Rattle.algebra.proofs.Zmod.PrimeField.{modulo}
use Rattle.rules.specs.Pair.{Pair}
use Rattle.divisor.specs.declared.Divisor.{Divisor}
use Rattle.divisor.specs.declared.Divisor.TheVariants.{Neutral, One, Two, Three}
use Rattle.sum_formulas.specs.Conditions.{Unfit}
use Rattle.sum_genus2_steps.specs.Steps.{ux, twice as twice2}
use Rattle.sum_genus3_open.specs.Opens.{u_of, twice as twice3}
use Rattle.sum_genus3.specs.Sums.{Short, ShortTwice}
use Rattle.curve.specs.declared.Curve.{Curve}
use Rattle.curve.specs.Curves.{Gives}

-- (weight 3 is genus 3's)
abbrev pub UnfitSum : Curve → Divisor → Divisor → Type 0
UnfitSum c Neutral b = Unit {0}
UnfitSum c (One x) b = Unit {0}
UnfitSum c (Two x) Neutral = Unit {0}
UnfitSum c (Two x) (One y) = Unit {0}
UnfitSum c (Two x) (Two y) = c.g ≡ 2 → Unfit c.prime.m (ux c.prime.m x) (ux c.prime.m y) ⊥
UnfitSum c (Two x) (Three y) = Unit {0}
UnfitSum c (Three x) Neutral = Unit {0}
UnfitSum c (Three x) (One y) = Unit {0}
UnfitSum c (Three x) (Two y) = Unit {0}
UnfitSum c (Three x) (Three y) = Unfit c.prime.m (u_of c.prime.m x) (u_of c.prime.m y) (Short c.prime.m x y)

abbrev pub UnfitDouble : Curve → Divisor → Type 0
UnfitDouble c Neutral = Unit {0}
UnfitDouble c (One x) = Unit {0}
UnfitDouble c (Two x) = c.g ≡ 2 → Unfit c.prime.m (twice2 c.prime.m x) (ux c.prime.m x) ⊥
UnfitDouble c (Three x) = Unfit c.prime.m (twice3 c.prime.m x) (u_of c.prime.m x) (ShortTwice c.prime.m c.f3 c.f4 c.f5 c.f6 x)

abbrev pub Tried : (c : Curve) → (unfit : Type 0) → Pair (modulo c.prime.m.p) → Option Divisor → Type 0
Tried c unfit a (Some d) = Gives c d a
Tried c unfit a None = unfit
