-- A pole file written: its length, its parts put one behind the other (`file_put`), 13 where they don't fit (`no_room`), and the writer's answer behind the check of the batch.
use Prim.Native.Nat.{ℕ, ◌+◌, ◌≤◌, ◌<◌}
use mathlib.Core.Path.{◌≡◌, sym, ap, ◌∙◌}
use mathlib.Core.List.{List, ◌++◌}
use native.Mathlib.Omega.{arith}
use lib.ListN.{length, length-append}
use lib.Seq.{sets}
use Rattle.rules.specs.Calls.{write, deliver}
use Rattle.record_bytes.proofs.Writing.{sets_append}
use Rattle.rules.proofs.Calls.Refusals.{on_taken}
use Rattle.rules.proofs.Calls.Written.{only}
use Rattle.rules.specs.Checks.{taken}
use Rattle.std.specs.Prelude.{Result as Outcome, Ok, Err}
use Rattle.refusals.specs.declared.Refused.{Refused}
use Rattle.call_batch.specs.Counts.{BatchIs}
use Rattle.refusals.specs.declared.Refusal.TheVariants.{OutputLength}
use Rattle.call_answer.specs.Answers.{Wrote}
use Rattle.call_answer.proofs.Written.{wrote_none, wrote_all}
use Rattle.rules.specs.Pole.PoleFile.{bytes16, head_bytes, file_bytes, write_file}

module _ (pole : ℕ) (s : List ℕ) (count : ℕ) (b out : List ℕ) where
  abbrev bytes : List ℕ
  bytes = file_bytes pole s count b

  file_length : length bytes ≡ 11 + length s + length b
  file_length = omega (arith, length-append s (bytes16 count ++ b))

  pub no_room : length out < 11 + length s + length b → Wrote (Err (record { by = OutputLength; place = 0 })) out (write out bytes)
  no_room l = wrote_none out bytes file_length l

  pub file_put : {o : List ℕ} (n : ℕ) → n ≡ 11 + length s + length b → n ≤ length out
      → o ≡ sets (sets (sets (sets out 0 (head_bytes pole)) 9 s) (9 + length s) (bytes16 count)) (11 + length s) b → Wrote (Ok n) o (write out bytes)
  file_put {o} n q l e = wrote_all out bytes (file_length ∙ sym q) l (e ∙ sym parts)
    where
      parts : sets out 0 bytes ≡ sets (sets (sets (sets out 0 (head_bytes pole)) 9 s) (9 + length s) (bytes16 count)) (11 + length s) b
      parts = sets_append out (head_bytes pole) (s ++ (bytes16 count ++ b)) 0 9 (omega arith)
          ∙ sets_append (sets out 0 (head_bytes pole)) s (bytes16 count ++ b) 9 (9 + length s) (omega arith)
          ∙ sets_append (sets (sets out 0 (head_bytes pole)) 9 s) (bytes16 count) b (9 + length s) (11 + length s) (omega arith)

-- ---- the writer
pub written : (pole : ℕ) (s b out : List ℕ) (k : ℕ) → BatchIs s b (Ok k) → (r : Outcome ℕ Refused) (o : List ℕ) → Wrote r o (write out (file_bytes pole s k b)) → Wrote r o (write_file pole s b out)
unfolding write_file
written pole s b out k h r o w = w ∙ sym (ap (deliver tt out) (on_taken _ (λ x. taken (only (file_bytes pole s x.count b))) h))
