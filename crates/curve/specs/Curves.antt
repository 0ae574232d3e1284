-- What a curve in code stands for, and which curves and divisors its calls take. Document 01, "What the tablet does": g is 2 or 3, f is
-- monic of degree 2g + 1 and has no repeated factor; "The sum": valid divisors.
use Rattle.std.specs.Prelude.{◌+◌, ◌-◌, ◌≡◌, List, [], ◌∷◌, take}
use Rattle.algebra.proofs.Ring.Divides.{Divides}
use Rattle.algebra.proofs.Zmod.PrimeField.{modulo}
use Rattle.rules.specs.Curve.{Curve as RuleCurve, Kx}
use Rattle.rules.specs.Pair.{Pair, Valid, u_of, f_minus_v²}
use Rattle.field.specs.declared.Residue.{Residue}
use Rattle.divisor.specs.declared.Divisor.{Divisor}
use Rattle.divisor.specs.Divisors.{pair, Held}
use Rattle.curve.specs.declared.Curve.{Curve}
use Rattle.curve.specs.declared.Equation.{Equation}
use Rattle.curve.specs.Equations.{equation}

-- f_5 and f_6, where there are any
abbrev pub above : Curve → List Residue
above c = take (c.g + c.g - 4) (c.f5 ∷ c.f6 ∷ [])

-- f_0 up to f_2g; the leading 1 isn't listed
abbrev pub lows : Curve → List Residue
lows c = c.f0 ∷ c.f1 ∷ c.f2 ∷ c.f3 ∷ c.f4 ∷ above c

abbrev pub curve_of : Curve → RuleCurve
curve_of c = equation c.prime.m c.g c.f0 c.f1 c.f2 c.f3 c.f4 c.f5 c.f6

-- a curve's equation, its test forgotten
abbrev pub equation_of : Curve → Equation
equation_of c = record { prime = c.prime; g = c.g; f0 = c.f0; f1 = c.f1; f2 = c.f2; f3 = c.f3; f4 = c.f4; f5 = c.f5; f6 = c.f6; genus = c.genus; settled = c.settled }

-- u divides f - v²
abbrev pub Divided : Curve → Divisor → Type 0
Divided c d = Divides (Kx (curve_of c)) (u_of (curve_of c) (pair c.prime.m d)) (f_minus_v² (curve_of c) (pair c.prime.m d))

-- a divisor held, and valid on the curve
pub record Holds (c : Curve) (d : Divisor) : Type 0 where
  pub held : Held c.prime.m d
  pub valid : Valid (curve_of c) (pair c.prime.m d)

-- an answer that is such a divisor, and stands for a
pub record Gives (c : Curve) (d : Divisor) (a : Pair (modulo c.prime.m.p)) : Type 0 where
  pub holds : Holds c d
  pub is : pair c.prime.m d ≡ a
