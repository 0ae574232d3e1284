-- The quotient of f - v² by a u of degree 3, below its leading 1 and x³'s coefficient f_6 - u_2: each coefficient is what those above it leave.
use Rattle.std.specs.Prelude.{◌≡◌}
use Rattle.field.specs.declared.Residue.{Residue}
use Rattle.field.specs.Residues.{el}
use Rattle.divisor.specs.declared.Cubic.{Cubic}
use Rattle.divisor.specs.declared.Trio.{Trio}
use Rattle.curve.specs.division.Turns.{K, AllKept, three}
use Rattle.curve.specs.declared.Curve.{Curve}

module _ (c : Curve) where
  open K c.prime.m use {El as A, add as ◌⊕◌, mul as ◌⊗◌, neg as opp}

  infixl 65 ◌⊕◌
  infixl 65 ◌⊟◌
  infixl 70 ◌⊗◌
  abbrev ◌⊟◌ : A → A → A
  a ⊟ b = a ⊕ opp b

  abbrev e : Residue → A
  e x = el c.prime.m x

  pub record Quotient (d : Cubic) (q : Trio) : Type 0 where
    pub kept : AllKept c.prime.m (three q)
    pub q2 : e q.c2 ≡ e c.f5 ⊟ e d.u1 ⊟ (e c.f6 ⊟ e d.u2) ⊗ e d.u2
    pub q1 : e q.c1 ≡ e c.f4 ⊟ e d.u0 ⊟ (e d.v2 ⊗ e d.v2 ⊕ (e c.f6 ⊟ e d.u2) ⊗ e d.u1) ⊟ e q.c2 ⊗ e d.u2
    pub q0 : e q.c0 ≡ e c.f3 ⊟ (e d.v1 ⊗ (e d.v2 ⊕ e d.v2) ⊕ (e c.f6 ⊟ e d.u2) ⊗ e d.u0) ⊟ (e q.c2 ⊗ e d.u1 ⊕ e q.c1 ⊗ e d.u2)
