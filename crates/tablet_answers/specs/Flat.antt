-- Document 01, "Numbers the tablet shows": each call answers a number, a place and the length written, and its counts. The rules' answers as the
-- exported structs have them; and a call's `Result` as its struct.
use Rattle.std.specs.Prelude.{ℕ, Option, Result, []}
use Rattle.rules.specs.Lists.{Repeat}
use Rattle.rules.specs.Calls.{Answer as RuleAnswer, Reply}
use Rattle.refusals.specs.declared.Refused.{Refused}
use Rattle.call_answer.specs.Answers.{reply}
use Rattle.call_multiply.specs.declared.Multiplied.{Multiplied}
use Rattle.call_total.specs.declared.Totalled.{Totalled}
use Rattle.call_batch.specs.declared.places.Repeat.{Repeat as Found}
use Rattle.call_batch.specs.repeat.Rows.{places_of}
use Rattle.call_batch.specs.repeat.Repeats.{no_repeat}
use Rattle.call_pole.specs.declared.PoleRead.{PoleRead}
use Rattle.tablet_answers.specs.declared.YubiAnswer.{YubiAnswer}
use Rattle.tablet_answers.specs.declared.YubiTotal.{YubiTotal}
use Rattle.tablet_answers.specs.declared.YubiRepeat.{YubiRepeat}
use Rattle.tablet_answers.specs.declared.YubiMultiple.{YubiMultiple}
use Rattle.tablet_answers.specs.declared.YubiPole.{YubiPole}

abbrev pub flat : RuleAnswer → YubiAnswer
flat a = record { number = a.number; place = a.place; length = a.length }

abbrev pub flat_multiple : Reply (ℕ × ℕ) → YubiMultiple
flat_multiple m = record { number = m.answer.number; place = m.answer.place; length = m.answer.length; doublings = m.own.0; additions = m.own.1 }

abbrev pub flat_total : Reply ℕ → YubiTotal
flat_total t = record { number = t.answer.number; place = t.answer.place; length = t.answer.length; count = t.own }

abbrev pub flat_repeat : Reply Repeat → YubiRepeat
flat_repeat r = record { number = r.answer.number; place = r.answer.place; length = r.answer.length; first = r.own.first; second = r.own.second }

-- the reader of a pole file (W-209): the pole's number, 0 on a refusal
abbrev pub flat_pole : Reply ℕ → YubiPole
flat_pole r = record { number = r.answer.number; place = r.answer.place; length = r.answer.length; pole = r.own }

-- ---- a call's result, which says nothing of the output
abbrev pub as_check : Result (Unit {0}) Refused → YubiAnswer
as_check r = flat (reply (tt {0}) (λ x. (0, x)) r []).answer

abbrev pub as_answer : Result ℕ Refused → YubiAnswer
as_answer r = flat (reply (tt {0}) (λ n. (n, tt)) r []).answer

abbrev pub as_multiple : Result Multiplied Refused → YubiMultiple
as_multiple r = flat_multiple (reply (0, 0) (λ t. (t.length, (t.doublings, t.additions))) r [])

abbrev pub as_total : Result Totalled Refused → YubiTotal
as_total r = flat_total (reply 0 (λ t. (t.length, t.count)) r [])

abbrev pub as_repeat : Result (Option Found) Refused → YubiRepeat
as_repeat r = flat_repeat (reply no_repeat (λ x. (0, places_of x)) r [])

abbrev pub as_pole : Result PoleRead Refused → YubiPole
as_pole r = flat_pole (reply 0 (λ x. (x.length, x.pole)) r [])
