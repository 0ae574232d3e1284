-- What was answered and what was written, each by the rule of the whole reply.
use Rattle.std.specs.Prelude.{◌≡◌, ℕ, Result, Ok, Err, List, []}
use Rattle.std.proofs.Common.{refl, sym, ap, ◌∙◌}
use Rattle.rules.specs.Calls.{Reply}
use Rattle.refusals.specs.declared.Refused.{Refused}
use Rattle.call_answer.specs.Answers.{reply, Wrote}
use Rattle.call_multiply.specs.declared.Multiplied.{Multiplied}
use Rattle.call_multiply.specs.factors.Multiples.{MultipleIs}
use Rattle.call_total.specs.declared.Totalled.{Totalled}
use Rattle.call_total.specs.Totals.{TotalAnswerIs}
use Rattle.call_pole.specs.declared.PoleRead.{PoleRead}
use Rattle.call_pole.specs.Files.{PoleIs}
use Rattle.tablet_answers.specs.Flat.{flat, flat_multiple, flat_total, flat_pole, as_answer, as_multiple, as_total, as_pole}

-- the output
out_is : {T N : Type 0} (none : N) (view : T → ℕ × N) (r : Result T Refused) (o : List ℕ) → (reply none view r o).out ≡ o
out_is none view (Ok t) o = refl
out_is none view (Err e) o = refl

module _ (r : Result ℕ Refused) (o : List ℕ) (rule : Reply (Unit {0})) (h : Wrote r o rule) where
  pub answer_out : o ≡ rule.out
  answer_out = sym (out_is (tt {0}) (λ n. (n, tt)) r o) ∙ ap (λ w. w.out) h

  at_any : (r : Result ℕ Refused) → as_answer r ≡ flat (reply (tt {0}) (λ n. (n, tt)) r o).answer
  at_any (Ok t) = refl
  at_any (Err e) = refl

  pub answer_is : as_answer r ≡ flat rule.answer
  answer_is = at_any r ∙ ap (λ w. flat w.answer) h

module _ (r : Result Multiplied Refused) (o : List ℕ) (rule : Reply (ℕ × ℕ)) (h : MultipleIs r o rule) where
  pub multiple_out : o ≡ rule.out
  multiple_out = sym (out_is (0, 0) (λ t. (t.length, (t.doublings, t.additions))) r o) ∙ ap (λ w. w.out) h

  multiple_at_any : (r : Result Multiplied Refused) → as_multiple r ≡ flat_multiple (reply (0, 0) (λ t. (t.length, (t.doublings, t.additions))) r o)
  multiple_at_any (Ok t) = refl
  multiple_at_any (Err e) = refl

  pub multiple_is : as_multiple r ≡ flat_multiple rule
  multiple_is = multiple_at_any r ∙ ap flat_multiple h

module _ (r : Result Totalled Refused) (o : List ℕ) (rule : Reply ℕ) (h : TotalAnswerIs r o rule) where
  pub total_out : o ≡ rule.out
  total_out = sym (out_is 0 (λ t. (t.length, t.count)) r o) ∙ ap (λ w. w.out) h

  total_at_any : (r : Result Totalled Refused) → as_total r ≡ flat_total (reply 0 (λ t. (t.length, t.count)) r o)
  total_at_any (Ok t) = refl
  total_at_any (Err e) = refl

  pub total_is : as_total r ≡ flat_total rule
  total_is = total_at_any r ∙ ap flat_total h

module _ (r : Result PoleRead Refused) (o : List ℕ) (rule : Reply ℕ) (h : PoleIs r o rule) where
  pub pole_out : o ≡ rule.out
  pole_out = sym (out_is 0 (λ x. (x.length, x.pole)) r o) ∙ ap (λ w. w.out) h

  pole_at_any : (r : Result PoleRead Refused) → as_pole r ≡ flat_pole (reply 0 (λ x. (x.length, x.pole)) r o)
  pole_at_any (Ok t) = refl
  pole_at_any (Err e) = refl

  pub pole_is : as_pole r ≡ flat_pole rule
  pole_is = pole_at_any r ∙ ap flat_pole h
