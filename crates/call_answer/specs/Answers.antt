-- Document 01, "Language form": a call's `Result` as the paper's number, place and values; one definition serves every call.
use Rattle.std.specs.Prelude.{◌⊎◌, ℕ, ◌≤◌, ◌<◌, ◌≡◌, Result, Ok, Err, List, [], length, false}
use Rattle.std.proofs.lemmas.List.Edits.{sets}
use Rattle.rules.specs.Checks.{Checked, refused, taken}
use Rattle.rules.specs.Records.{CurveRecord, read_curve, read_divisor, divisor_bytes}
use Rattle.rules.specs.Calls.{Answer as RuleAnswer, Result as RuleResult, Reply, done, stop, deliver, from_one}
use Rattle.rules.proofs.Calls.Written.{Written}
use Rattle.refusals.specs.declared.Refused.{Refused}
use Rattle.refusals.specs.Refusal.{number_of}
use Rattle.field.specs.declared.Modulus.{Modulus}
use Rattle.divisor.specs.declared.Divisor.{Divisor}
use Rattle.divisor.specs.Divisors.{pair, Held}
use Rattle.curve.specs.declared.Curve.{Curve}
use Rattle.curve.specs.Curves.{Holds}
use Rattle.curve.specs.Record.{record_of}
use Rattle.record_divisor.specs.Read.{DivisorIs}

-- ---- a call's whole reply, by what it answers and the output as it returns: `none` for its own numbers where it refuses
abbrev pub reply : {T N : Type 0} → N → (T → ℕ × N) → Result T Refused → List ℕ → Reply N
reply none view (Ok t) o = record { answer = done (view t).0; out = o; own = (view t).1 }
reply none view (Err r) o = stop none o (number_of r.by) r.place

-- the rule's, of a call that answers the length that it wrote; and of a check, which writes nothing
abbrev pub Wrote : Result ℕ Refused → List ℕ → Written → Type 0
Wrote r o rule = reply tt (λ n. (n, tt)) r o ≡ rule

-- ---- what a call makes, before it is delivered: a divisor under its modulus, or the rule's refusal; and as the rule has it
abbrev pub AllHeld : Result (Divisor × Modulus) Refused → Type 0
AllHeld (Ok x) = Held x.1 x.0
AllHeld (Err r) = Unit {0}

abbrev pub result_of : Result (Divisor × Modulus) Refused → Checked (RuleResult (Unit {0}))
result_of (Ok x) = taken (record { bytes = divisor_bytes x.1.p (pair x.1 x.0); own = tt })
result_of (Err r) = refused (number_of r.by) r.place

abbrev pub Makes : Result (Divisor × Modulus) Refused → Checked (RuleResult (Unit {0})) → Type 0
Makes made rule = AllHeld made × (rule ≡ result_of made)

-- delivered as the rule does: a refusal is handed on as it is, and leaves the output
abbrev pub Delivered : Result (Divisor × Modulus) Refused → List ℕ → Result ℕ Refused → List ℕ → Type 0
Delivered made out r o = Wrote r o (deliver tt out (result_of made))

-- the divisor that was read
abbrev pub same_divisor : List ℕ → List ℕ → Checked (RuleResult (Unit {0}))
same_divisor s a = from_one (λ c x. x) s a

abbrev pub CheckIs : Result (Unit {0}) Refused → RuleAnswer → Type 0
CheckIs r rule = (reply tt (λ x. (0, x)) r []).answer ≡ rule

-- bytes put at the front of an output where they fit; n is how many
pub record PutIs (out bytes o : List ℕ) (n : ℕ) : Type 0 where
  pub short : n ≡ 0 → length out < length bytes
  pub kept : n ≡ 0 → o ≡ out
  pub fits : (n ≡ 0 → ⊥) → length bytes ≤ length out
  pub all : (n ≡ 0 → ⊥) → n ≡ length bytes
  pub put : (n ≡ 0 → ⊥) → o ≡ sets out 0 bytes

-- ---- a divisor at a place; a curve and the first divisor on it
abbrev pub ReadIs : Curve → ℕ → List ℕ → Result Divisor Refused → Type 0
ReadIs c k a (Ok d) = Holds c d × (read_divisor (record_of c) k a ≡ taken (pair c.prime.m d))
ReadIs c k a (Err r) = read_divisor (record_of c) k a ≡ refused (number_of r.by) r.place

-- a record of a batch, at a place of its own
abbrev pub RecordIs : Curve → List ℕ → ℕ → ℕ → Result Divisor Refused → Type 0
RecordIs c s a k (Ok d) = DivisorIs c false s a (Ok d)
RecordIs c s a k (Err r) = DivisorIs c false s a (Err r.by) × (r.place ≡ k)

pub record Firsts (s a : List ℕ) (c : Curve) (d : Divisor) : Type 0 where
  pub holds : Holds c d
  pub curve : read_curve s ≡ taken (record_of c)
  pub divisor : read_divisor (record_of c) 1 a ≡ taken (pair c.prime.m d)

abbrev pub NoFirst : List ℕ → List ℕ → ℕ → ℕ → Type 0
NoFirst s a n k = (read_curve s ≡ refused n k) ⊎ ((c : CurveRecord) × (read_curve s ≡ taken c) × (read_divisor c 1 a ≡ refused n k))

abbrev pub OneIs : List ℕ → List ℕ → Result (Curve × Divisor) Refused → Type 0
OneIs s a (Ok x) = Firsts s a x.0 x.1
OneIs s a (Err r) = NoFirst s a (number_of r.by) r.place
