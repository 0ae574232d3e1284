use native.Mathlib.Omega.{arith}
use mathlib.Core.Path.{refl, sym, subst}
use Prim.Native.Nat.{◌≤◌}
use Rattle.field.specs.Primes.{Decides}
use Rattle.divisor.specs.declared.Divisor.{Divisor}
use Rattle.divisor.specs.Divisors.{Held, weight_of}
use Rattle.curve.specs.Curves.{Divided}
use Rattle.curve.proofs.Contains.{neutral-holds, contains_by, contains_one}
use Rattle.curve.proofs.Curve.contains.Goals as goal

pub returns-in-Neutral : goal.returns-in-Neutral
returns-in-Neutral c = subst (Divided c.args.self) (sym c.in-Neutral.is) (neutral-holds c.args.self).valid.divides

pub returns-in-One : goal.returns-in-One
returns-in-One c = subst (λ (d : Divisor). Decides c.is_none.result (Divided c.args.self d)) (sym c.in-One.is) (contains_one c.args.self _ _ c.rest_one.ensures _ refl c.is_none.result c.is_none.ensures)

pub returns-in-Two : goal.returns-in-Two
returns-in-Two c = subst (λ (d : Divisor). Decides c.is_none_two.result (Divided c.args.self d)) (sym c.in-Two.is) (contains_by c.args.self _ _ c.rest_two.ensures c.is_none_two.result c.is_none_two.ensures)

pub returns-in-Three : goal.returns-in-Three
returns-in-Three c = subst (λ (d : Divisor). Decides c.is_none_three.result (Divided c.args.self d)) (sym c.in-Three.is) (contains_by c.args.self _ _ c.rest_three.ensures c.is_none_three.result c.is_none_three.ensures)
