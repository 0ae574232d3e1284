-- What every multiplication reads before its engine, and makes after it: its own two numbers are the counts, doublings and additions.
use Rattle.std.specs.Prelude.{ℕ, ◌≡◌, Result, Ok, Err, List, [], ◌∷◌}
use Rattle.rules.specs.Bytes.{number}
use Rattle.rules.specs.Multiple.{multiple, doublings, additions}
use Rattle.rules.specs.Records.{PairOf, curve, read_curve, read_divisor, divisor_bytes}
use Rattle.rules.specs.Tests.{is_weight}
use Rattle.rules.specs.Checks.{Checked, refused, taken, go_on, first_failed}
use Rattle.rules.specs.Calls.{Result as RuleResult, Reply, multiply_checks}
use Rattle.rules.proofs.Calls.Taken.{keyed}
use Rattle.field.specs.declared.Modulus.{Modulus}
use Rattle.divisor.specs.declared.Divisor.{Divisor}
use Rattle.divisor.specs.Divisors.{pair, Held}
use Rattle.curve.specs.declared.Curve.{Curve}
use Rattle.curve.specs.Record.{record_of}
use Rattle.multiple_affine.specs.declared.promise.Multiple.{Multiple}
use Rattle.multiple_affine.specs.promise.Contracts.{ToMultiply}
use Rattle.refusals.specs.declared.Refused.{Refused}
use Rattle.refusals.specs.Refusal.{number_of}
use Rattle.call_answer.specs.Answers.{reply}
use Rattle.call_multiply.specs.declared.Multiplied.{Multiplied}

-- the rule's, of a call that answers the length that it wrote, and the counts
abbrev pub MultipleIs : Result Multiplied Refused → List ℕ → Reply (ℕ × ℕ) → Type 0
MultipleIs r out rule = reply (0, 0) (λ t. (t.length, (t.doublings, t.additions))) r out ≡ rule

-- ---- a multiple with its counts: what is written of it
abbrev pub counts_of : Multiple → ℕ × ℕ
counts_of y = (y.doublings, y.additions)

abbrev pub multiple_result : Multiple → Modulus → RuleResult (ℕ × ℕ)
multiple_result y m = record { bytes = divisor_bytes m.p (pair m y.divisor); own = counts_of y }

-- what the call comes to, before it is delivered
abbrev pub multiplying : List ℕ → List ℕ → List ℕ → Checked (RuleResult (ℕ × ℕ))
multiplying s a scalar =
    go_on (read_curve s) (λ c.
    go_on (read_divisor c 1 a) (λ x.
    let y : PairOf c = multiple (curve c) (number scalar) x in
    first_failed (multiply_checks c scalar x y)
    (record { bytes = divisor_bytes c.p y; own = (doublings (number scalar), additions (number scalar)) })))

abbrev pub MultipleMade : Result (Curve × Multiple) Refused → Checked (RuleResult (ℕ × ℕ)) → Type 0
MultipleMade (Ok x) rule = Held x.0.prime.m x.1.divisor × (rule ≡ taken (multiple_result x.1 x.0.prime.m))
MultipleMade (Err r) rule = rule ≡ refused (number_of r.by) r.place

-- ---- a curve, a divisor and a scalar: the rule stops at them, or goes on to their multiple
pub record Factors (s a scalar : List ℕ) (c : Curve) (d : Divisor) : Type 0 where
  pub ready : ToMultiply c d scalar
  pub goes : multiplying s a scalar ≡ keyed (record_of c) (number scalar) (pair c.prime.m d)

abbrev pub FactorsIs : List ℕ → List ℕ → List ℕ → Result (Curve × Divisor) Refused → Type 0
FactorsIs s a scalar (Ok x) = Factors s a scalar x.0 x.1
FactorsIs s a scalar (Err r) = multiplying s a scalar ≡ refused (number_of r.by) r.place

-- ---- a multiple that can be a key, or 19 where it is neutral
abbrev pub KeyIs : Modulus → Result Multiple Refused → Checked (RuleResult (ℕ × ℕ)) → Type 0
KeyIs m (Ok y) rule = Held m y.divisor × (rule ≡ taken (multiple_result y m))
KeyIs m (Err r) rule = rule ≡ refused (number_of r.by) r.place

abbrev pub key_result : Multiple → Modulus → Checked (RuleResult (ℕ × ℕ))
key_result y m = first_failed ((is_weight (pair m y.divisor), 19, 0) ∷ []) (multiple_result y m)
