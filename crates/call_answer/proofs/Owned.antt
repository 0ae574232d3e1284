-- A divisor delivered by a call with numbers of its own: its reply is the rule's with them, `none` for them where the output is too short.
use Prim.Native.Nat.{ℕ}
use mathlib.Core.Path.{◌≡◌, ap, sym, ◌∙◌}
use mathlib.Core.Bool.{Bool, true, false}
use mathlib.Core.List.{List, []}
use native.Mathlib.Omega.{arith}
use lib.Dec.{ltb}
use lib.ListN.{length}
use lib.Seq.{sets}
use Rattle.std.specs.Prelude.{Result, Ok, Err}
use Rattle.rules.specs.Checks.{Checked, refused, taken, choose}
use Rattle.rules.specs.Records.{divisor_bytes}
use Rattle.rules.specs.Calls.{Result as RuleResult, Reply, done, stop, put, deliver, write}
use Rattle.field.specs.declared.Modulus.{Modulus}
use Rattle.divisor.specs.declared.Divisor.{Divisor}
use Rattle.divisor.specs.Divisors.{pair}
use Rattle.refusals.specs.declared.Refusal.{Refusal}
use Rattle.refusals.specs.declared.Refusal.TheVariants.{CurveLength, Mark, Version, Genus, Prime, CurveCoefficient, RepeatedFactor, DivisorLength, Weight, DivisorCoefficient, NotOnCurve, ScalarLength, OutputLength, Full, RunningTotal, FileLength, Unreadable, Witness, EmptyKey, OtherPole, PoleFileMark, PoleFileVersion, PoleFileLength, Last, NotForTraining, NoRoot, Order}
use Rattle.refusals.specs.declared.Refused.{Refused}
use Rattle.refusals.specs.Refusal.{number_of}
use Rattle.call_answer.specs.Answers.{reply, Wrote, Delivered}

-- no refusal has the number 0
pub not_zero : (by : Refusal) → number_of by ≡ 0 → ⊥
not_zero CurveLength e = absurd (omega (arith, e))
not_zero Mark e = absurd (omega (arith, e))
not_zero Version e = absurd (omega (arith, e))
not_zero Genus e = absurd (omega (arith, e))
not_zero Prime e = absurd (omega (arith, e))
not_zero CurveCoefficient e = absurd (omega (arith, e))
not_zero RepeatedFactor e = absurd (omega (arith, e))
not_zero DivisorLength e = absurd (omega (arith, e))
not_zero Weight e = absurd (omega (arith, e))
not_zero DivisorCoefficient e = absurd (omega (arith, e))
not_zero NotOnCurve e = absurd (omega (arith, e))
not_zero ScalarLength e = absurd (omega (arith, e))
not_zero OutputLength e = absurd (omega (arith, e))
not_zero Full e = absurd (omega (arith, e))
not_zero RunningTotal e = absurd (omega (arith, e))
not_zero FileLength e = absurd (omega (arith, e))
not_zero Unreadable e = absurd (omega (arith, e))
not_zero Witness e = absurd (omega (arith, e))
not_zero EmptyKey e = absurd (omega (arith, e))
not_zero OtherPole e = absurd (omega (arith, e))
not_zero PoleFileMark e = absurd (omega (arith, e))
not_zero PoleFileVersion e = absurd (omega (arith, e))
not_zero PoleFileLength e = absurd (omega (arith, e))
not_zero Last e = absurd (omega (arith, e))
not_zero NotForTraining e = absurd (omega (arith, e))
not_zero NoRoot e = absurd (omega (arith, e))
not_zero Order e = absurd (omega (arith, e))

module _ {N : Type 0} (none own : N) (out bytes : List ℕ) where
  -- whether the output is too short
  by_length : (b : Bool) (n : ℕ) (o : List ℕ) → ◌≡◌ {A = Reply (Unit {0})} (record { answer = done n; out = o; own = tt }) (choose b (stop tt out 13 0) (record { answer = done (length bytes); out = sets out 0 bytes; own = tt }))
      → ◌≡◌ {A = Reply N} (record { answer = done n; out = o; own = own }) (choose b (stop none out 13 0) (record { answer = done (length bytes); out = sets out 0 bytes; own = own }))
  by_length true n o e = absurd (omega (arith, ap (λ (r : Reply (Unit {0})). r.answer.number) e))
  by_length false n o e = ap (λ (r : Reply (Unit {0})). record { answer = r.answer; out = r.out; own = own }) e

  not_by_length : (b : Bool) (r : Refused) (o : List ℕ) → stop (tt {0}) o (number_of r.by) r.place ≡ choose b (stop tt out 13 0) (record { answer = done (length bytes); out = sets out 0 bytes; own = tt })
      → stop none o (number_of r.by) r.place ≡ choose b (stop none out 13 0) (record { answer = done (length bytes); out = sets out 0 bytes; own = own })
  not_by_length true r o e = ap (λ (r : Reply (Unit {0})). record { answer = r.answer; out = r.out; own = none }) e
  not_by_length false r o e = absurd (not_zero r.by (ap (λ (r : Reply (Unit {0})). r.answer.number) e))

  pub owned : {n : ℕ} {o : List ℕ} → Wrote (Ok n) o (write out bytes) → record { answer = done n; out = o; own = own } ≡ put none out (record { bytes = bytes; own = own })
  owned {n} {o} e = by_length (ltb (length out) (length bytes)) n o e

  pub not_owned : (r : Refused) {o : List ℕ} → Wrote (Err r) o (write out bytes) → stop none o (number_of r.by) r.place ≡ put none out (record { bytes = bytes; own = own })
  not_owned r {o} e = not_by_length (ltb (length out) (length bytes)) r o e

-- ---- what was made, delivered by a call with numbers of its own
module _ {N : Type 0} (none own : N) where
  abbrev pub own_result : Result (Divisor × Modulus) Refused → Checked (RuleResult N)
  own_result (Ok x) = taken (record { bytes = divisor_bytes x.1.p (pair x.1 x.0); own = own })
  own_result (Err r) = refused (number_of r.by) r.place

  abbrev pub view : ℕ → ℕ × N
  view n = (n, own)

  pub delivered_own : (out : List ℕ) {rule : Checked (RuleResult N)} (made : Result (Divisor × Modulus) Refused) (r : Result ℕ Refused) (o : List ℕ)
      → rule ≡ own_result made → Delivered made out r o → reply none view r o ≡ deliver none out rule
  delivered_own out (Ok x) (Ok n) o e h = owned none own out (divisor_bytes x.1.p (pair x.1 x.0)) h ∙ sym (ap (deliver none out) e)
  delivered_own out (Ok x) (Err r) o e h = not_owned none own out (divisor_bytes x.1.p (pair x.1 x.0)) r h ∙ sym (ap (deliver none out) e)
  delivered_own out (Err q) (Ok n) o e h = absurd (not_zero q.by (sym (ap (λ (r : Reply (Unit {0})). r.answer.number) h)))
  delivered_own out (Err q) (Err r) o e h = ap (λ (r : Reply (Unit {0})). record { answer = r.answer; out = r.out; own = none }) h ∙ sym (ap (deliver none out) e)
