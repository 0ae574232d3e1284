-- The lent scan's words leave nothing open: two programs that keep them on the same total and bytes report the same and leave the same total, bit for bit.
use Prim.Native.Nat.{ℕ}
use mathlib.Core.Path.{◌≡◌, refl, sym, ap, ◌∙◌}
use mathlib.Core.List.{List, [], ◌∷◌}
use lib.ListN.{get_or}
use Rattle.call_answer.proofs.Owned.{not_zero}
use Rattle.rules.specs.Calls.{Answer, Running as RuleRunning, Reply}
use Rattle.field.proofs.Raw.{same_raw}
use Rattle.divisor.specs.Divisors.{us, vs}
use Rattle.divisor.proofs.Laws.{same_coefficients}
use Rattle.scan_total.specs.declared.Running.{Running}
use Rattle.std.specs.Prelude.{Ok, Err}
use Rattle.refusals.specs.declared.Refusal.{Refusal}
use Rattle.refusals.specs.declared.Refusal.TheVariants.{CurveLength, Mark, Version, Genus, Prime, CurveCoefficient, RepeatedFactor, DivisorLength, Weight, DivisorCoefficient, NotOnCurve, ScalarLength, OutputLength, Full, RunningTotal, FileLength, Unreadable, Witness, EmptyKey, OtherPole, PoleFileMark, PoleFileVersion, PoleFileLength, Last, NotForTraining, NoRoot, Order}
use Rattle.refusals.specs.Refusal.{number_of}
use Rattle.refusals.specs.declared.Refused.{Refused}
use Rattle.scan_record.specs.Scans.{running_of}
use Rattle.scan_record.specs.lent.Lent.{Report, answer_of, ScanIs}

-- what the rule sees of a total is all of it
pub same_total : (x y : Running) → running_of x ≡ running_of y → x ≡ y
same_total x y e = λ i. record { divisor = divisors i; count = (e i).count; pole = (e i).pole }
  where
    divisors : x.divisor ≡ y.divisor
    divisors = same_coefficients x.divisor y.divisor
        (same_raw (us x.divisor) (us y.divisor) (ap (λ (t : RuleRunning). t.u) e))
        (same_raw (vs x.divisor) (vs y.divisor) (ap (λ (t : RuleRunning). t.v) e))

-- a refusal is known by its number
numbered : ℕ → Refusal
numbered n = get_or (CurveLength ∷ CurveLength ∷ Mark ∷ Version ∷ Genus ∷ Prime ∷ CurveCoefficient ∷ RepeatedFactor ∷ DivisorLength ∷ Weight ∷ DivisorCoefficient ∷ NotOnCurve ∷ ScalarLength ∷ OutputLength ∷ Full ∷ RunningTotal ∷ FileLength ∷ Unreadable ∷ Witness ∷ EmptyKey ∷ OtherPole ∷ PoleFileMark ∷ PoleFileVersion ∷ PoleFileLength ∷ Last ∷ NotForTraining ∷ NoRoot ∷ Order ∷ []) n CurveLength

known : (by : Refusal) → numbered (number_of by) ≡ by
unfolding numbered
known CurveLength = refl
known Mark = refl
known Version = refl
known Genus = refl
known Prime = refl
known CurveCoefficient = refl
known RepeatedFactor = refl
known DivisorLength = refl
known Weight = refl
known DivisorCoefficient = refl
known NotOnCurve = refl
known ScalarLength = refl
known OutputLength = refl
known Full = refl
known RunningTotal = refl
known FileLength = refl
known Unreadable = refl
known Witness = refl
known EmptyKey = refl
known OtherPole = refl
known PoleFileMark = refl
known PoleFileVersion = refl
known PoleFileLength = refl
known Last = refl
known NotForTraining = refl
known NoRoot = refl
known Order = refl

same_report : (r q : Report) → answer_of r ≡ answer_of q → r ≡ q
same_report (Ok x) (Ok y) e = refl
same_report (Ok x) (Err q) e = absurd (not_zero q.by (sym (ap (λ (w : Answer). w.number) e)))
same_report (Err r) (Ok y) e = absurd (not_zero r.by (ap (λ (w : Answer). w.number) e))
same_report (Err r) (Err q) e = λ i. Err (record { by = (sym (known r.by) ∙ ap (λ (w : Answer). numbered w.number) e ∙ known q.by) i; place = (e i).place })

pub one_lent_scan : (t : Running) (s a : List ℕ) (r q : Report) (x y : Running) → ScanIs t s a r x → ScanIs t s a q y → (r ≡ q) × (x ≡ y)
one_lent_scan t s a r q x y h k =
    let both = h.is ∙ sym k.is in
    (same_report r q (ap (λ (w : Reply RuleRunning). w.answer) both), same_total x y (ap (λ (w : Reply RuleRunning). w.own) both))
