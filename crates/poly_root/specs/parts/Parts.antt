-- W-213: the part of a cubic u that it shares with a polynomial d: its roots are those of u at which d is 0.
use Rattle.std.specs.Prelude.{◌-◌, ◌/◌, ◌≤◌, ◌≡◌, ◌↔◌}
use Rattle.algebra.proofs.Ring.Divides.{Divides}
use Rattle.algebra.proofs.Ring.Power.{power}
use Rattle.algebra.proofs.Poly.Term.{C, X}
use Rattle.field.specs.declared.Modulus.{Modulus}
use Rattle.field.specs.declared.Residue.{Residue}
use Rattle.field.specs.Residues.{Kept}
use Rattle.poly.specs.declared.Poly.{Poly}
use Rattle.poly.specs.Polys.{pol, Ok}
use Rattle.poly.specs.Operations.{IsMonic}
use Rattle.rules.proofs.Roots.Value.{ev}
use Rattle.poly_root.specs.declared.rests.MonicCubic.{MonicCubic}
use Rattle.poly_root.specs.declared.rests.Rest.{Rest}
use Rattle.poly_root.specs.rests.Rests.{K, P, cubic, rest, SettledCubic, KeptRest}

pub record ToShare (m : Modulus) (u : MonicCubic) (r : Rest) : Type 0 where
  pub by : SettledCubic m u
  pub kept : KeptRest m r

-- the monic gcd of u and a rest
pub record Shared (m : Modulus) (u : MonicCubic) (r : Rest) (g : Poly) : Type 0 where
  pub ok : Ok m g
  pub monic : IsMonic m g
  pub most : g.n ≤ 4
  pub left : Divides (P m) (pol m g) (cubic m u)
  pub right : Divides (P m) (pol m g) (rest m r)
  pub greatest : (h : (P m).El) → Divides (P m) h (cubic m u) → Divides (P m) h (rest m r) → Divides (P m) h (pol m g)

-- and of u and d
pub record Part (m : Modulus) (u : MonicCubic) (d : (P m).El) (g : Poly) : Type 0 where
  pub ok : Ok m g
  pub monic : IsMonic m g
  pub most : g.n ≤ 4
  pub divides : Divides (P m) (pol m g) (cubic m u)
  pub keeps : (y : (K m).El) → ev (K m) y (cubic m u) ≡ (K m).zer → (ev (K m) y (pol m g) ≡ (K m).zer) ↔ (ev (K m) y d ≡ (K m).zer)
  pub whole : g.n ≡ 4 → Divides (P m) (cubic m u) d

-- x^p - x
abbrev pub all_roots : (m : Modulus) → (P m).El
all_roots m = (P m).add (power (P m) (X (K m)) m.p) ((P m).neg (X (K m)))

-- (x + a)^((p-1)/2) - 1
abbrev pub shifted : (m : Modulus) → (K m).El → (P m).El
shifted m a = (P m).add (power (P m) ((P m).add (X (K m)) (C (K m) a)) ((m.p - 1) / 2)) ((P m).neg (P m).one)

pub record ToShift (m : Modulus) (u : MonicCubic) (a : Residue) : Type 0 where
  pub by : SettledCubic m u
  pub kept : Kept m a
