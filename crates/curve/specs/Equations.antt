-- An equation by its coefficients, as the rules have it.
use Rattle.std.specs.Prelude.{ℕ, ◌+◌, ◌-◌, ◌≤◌, [], ◌∷◌, take}
use Rattle.algebra.proofs.Zmod.PrimeField.{modulo}
use Rattle.rules.specs.Curve.{Curve as RuleCurve, SquareFree}
use Rattle.field.specs.declared.Modulus.{Modulus}
use Rattle.field.specs.declared.Residue.{Residue}
use Rattle.divisor.specs.Divisors.{elements}

pub record IsGenus (g : ℕ) : Type 0 where
  pub least : 2 ≤ g
  pub most : g ≤ 3

-- f_0 up to f_2g; the leading 1 isn't listed
abbrev pub equation : (m : Modulus) → ℕ → (f0 f1 f2 f3 f4 f5 f6 : Residue) → RuleCurve
equation m g f0 f1 f2 f3 f4 f5 f6 = record { K = modulo m.p; g = g; low = elements m (f0 ∷ f1 ∷ f2 ∷ f3 ∷ f4 ∷ take (g + g - 4) (f5 ∷ f6 ∷ [])) }

pub square_free-prop : (E : RuleCurve) → IsProp (SquareFree E)
square_free-prop E a b i h x y n l = E.K.base.is_set _ _ (a h x y n l) (b h x y n l) i
