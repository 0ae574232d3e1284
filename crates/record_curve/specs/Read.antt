-- What the functions that read a curve record promise: an answer of code is the rule's answer on the same bytes.
use Rattle.std.specs.Prelude.{ℕ, ◌+◌, ◌*◌, ◌≤◌, ◌≡◌, Result, Ok, Err, List, length}
use Rattle.refusals.specs.declared.Refusal.{Refusal}
use Rattle.refusals.specs.Refusal.{number_of}
use Rattle.rules.specs.Records.{refused, taken, CurveRecord, read_curve}
use Rattle.rules.specs.Curve.{SquareFree}
use Rattle.field.specs.declared.Modulus.{Modulus}
use Rattle.curve.specs.declared.Curve.{Curve}
use Rattle.curve.specs.declared.Equation.{Equation}
use Rattle.curve.specs.Equations.{equation}
use Rattle.curve.specs.Record.{record_of}
use Rattle.record_curve_head.specs.Heads.{low_rule}

abbrev pub CurveIs : List ℕ → Result Curve Refusal → Type 0
CurveIs s (Ok c) = read_curve s ≡ taken (record_of c)
CurveIs s (Err by) = read_curve s ≡ refused (number_of by) 0

-- ---- what stands behind p
pub record ToRead (s : List ℕ) (g : ℕ) : Type 0 where
  pub least : 2 ≤ g
  pub most : g ≤ 3
  pub long : 22 + 16 * g ≤ length s

-- where the earlier checks pass, and g and p are the record's own
abbrev pub CoefficientsIs : List ℕ → ℕ → Modulus → Result Curve Refusal → Type 0
CoefficientsIs s g m r = read_curve s ≡ low_rule s g m.p → CurveIs s r

-- the record of an equation, and the curve of one whose f has no repeated factor
abbrev pub as_record : Equation → CurveRecord
as_record e = record { p = e.prime.m.p; g = e.g; low = (equation e.prime.m e.g e.f0 e.f1 e.f2 e.f3 e.f4 e.f5 e.f6).low }

abbrev pub EquationIs : Equation → Result Curve Refusal → Type 0
EquationIs e (Ok c) = record_of c ≡ as_record e
EquationIs e (Err by) = (number_of by ≡ 7) × (SquareFree (equation e.prime.m e.g e.f0 e.f1 e.f2 e.f3 e.f4 e.f5 e.f6) → ⊥)
