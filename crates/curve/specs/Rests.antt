-- What is left when f - v² is divided by u, found from the top coefficient down.
use Rattle.std.specs.Prelude.{◌≡◌, List, [], ◌∷◌, ◌++◌}
use Rattle.algebra.proofs.List.Value.{pol}
use Rattle.rules.specs.Pair.{f_minus_v²}
use Rattle.field.specs.declared.Residue.{Residue}
use Rattle.field.specs.Residues.{el}
use Rattle.divisor.specs.declared.Divisor.{Divisor}
use Rattle.divisor.specs.declared.Divisor.TheVariants.{One, Two}
use Rattle.divisor.specs.declared.Linear.{Linear}
use Rattle.divisor.specs.declared.Quadratic.{Quadratic}
use Rattle.divisor.specs.Divisors.{elements, pair}
use Rattle.divisor.specs.declared.Duo.{Duo}
use Rattle.curve.specs.division.Turns.{K, two, Leaves}
use Rattle.curve.specs.declared.Curve.{Curve}
use Rattle.curve.specs.Curves.{above, curve_of}

-- of f from f_5 on, and from f_4 on, the leading 1 behind them
abbrev pub TopOne : Curve → Linear → Residue → Type 0
TopOne c d r = Leaves c.prime.m (One d) (elements c.prime.m (above c) ++ ((K c.prime.m).one ∷ [])) (r ∷ [])

abbrev pub TopTwo : Curve → Quadratic → Duo → Type 0
TopTwo c d r = Leaves c.prime.m (Two d) (el c.prime.m c.f4 ∷ (elements c.prime.m (above c) ++ ((K c.prime.m).one ∷ []))) (two r)

-- r is what f - v² leaves
pub record Rests (c : Curve) (d : Divisor) (r : List Residue) : Type 0 where
  pub list : List (K c.prime.m).El
  pub is : pol (K c.prime.m) list ≡ f_minus_v² (curve_of c) (pair c.prime.m d)
  pub leaves : Leaves c.prime.m d list r
