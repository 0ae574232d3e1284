-- Records at the front of an output: 13 where it is shorter, and what stands there where it is not.
use Prim.Native.Nat.{ℕ, ◌+◌, ◌*◌, ◌≤◌, ◌<◌}
use mathlib.Core.Path.{◌≡◌, refl, sym, ap, ◌∙◌, subst}
use mathlib.Core.Bool.{Bool, true, false}
use mathlib.Core.List.{List, []}
use native.Mathlib.Omega.{arith}
use borrow.Author.Tests.{lt-ltb, le-ltb}
use lib.Dec.{ltb}
use lib.ListN.{length, length-append}
use lib.Seq.{sets}
use Rattle.rules.specs.Bytes.{all_bytes}
use Rattle.rules.specs.Records.{read_curve, numbers, CurveRecord, Form, curve_bytes, divisor_bytes}
use Rattle.rules.specs.Checks.{Checked, refused, taken, choose}
use Rattle.rules.specs.Calls.{Result as RuleResult, Reply, put, deliver, write, stop, done, rewrite_curve}
use Rattle.rules.proofs.Calls.Written.{Written}
use Rattle.rules.proofs.Calls.Bytes.{AreBytes, length-bytes}
use Rattle.rules.proofs.Calls.CurveWritten.{curve_written}
use Rattle.rules.proofs.Calls.Elements.{length_numbers}
use Rattle.divisor.specs.declared.Divisor.{Divisor}
use Rattle.divisor.specs.Divisors.{weight_of, pair, Held}
use Rattle.divisor.proofs.Laws.{weight_is, weight_is_v}
use Rattle.field.specs.declared.Modulus.{Modulus}
use Rattle.std.specs.Prelude.{Result, Ok, Err}
use Rattle.refusals.specs.declared.Refused.{Refused}
use Rattle.refusals.specs.declared.Refusal.TheVariants.{OutputLength}
use Rattle.refusals.specs.Refusal.{number_of}
use Rattle.call_answer.specs.Answers.{Wrote, Makes, Delivered, PutIs}

-- ---- the lengths of records
pub divisor_length : (m : Modulus) (d : Divisor) → length (divisor_bytes m.p (pair m d)) ≡ 1 + 16 * weight_of d
unfolding divisor_bytes
divisor_length m d = omega (arith, length-append (all_bytes (numbers m.p (pair m d).u)) (all_bytes (numbers m.p (pair m d).v)), length-bytes (numbers m.p (pair m d).u), length-bytes (numbers m.p (pair m d).v), length_numbers m.p (pair m d).u, length_numbers m.p (pair m d).v, weight_is m d, weight_is_v m d)

pub curve-some : (c : CurveRecord) (form : Form) → 0 < length (curve_bytes c form)
unfolding curve_bytes
curve-some c form = omega arith

-- ---- put where it fits
module _ (out bytes : List ℕ) where
  pub put_none : {n : ℕ} → length bytes ≡ n → length out < n → PutIs out bytes out 0
  put_none e l = record { short = λ z. omega arith; kept = λ z. refl; fits = λ z. absurd (z refl); all = λ z. absurd (z refl); put = λ z. absurd (z refl) }

  pub put_all : {n : ℕ} {o : List ℕ} → length bytes ≡ n → 0 < n → n ≤ length out → o ≡ sets out 0 bytes → PutIs out bytes o n
  put_all e p l h = record { short = λ z. absurd (omega arith); kept = λ z. absurd (omega arith); fits = λ z. omega arith; all = λ z. sym e; put = λ z. h }

  module _ {o : List ℕ} {n : ℕ} (h : PutIs out bytes o n) where
    -- with numbers of the call's own
    module _ {N : Type 0} (none own : N) where
      pub deliver_none : n ≡ 0 → put none out (record { bytes = bytes; own = own }) ≡ stop none out 13 0
      deliver_none e = rw (lt-ltb (length out) (length bytes) (h.short e)) refl

      pub deliver_all : (n ≡ 0 → ⊥) → put none out (record { bytes = bytes; own = own }) ≡ record { answer = done n; out = o; own = own }
      deliver_all e = rw (le-ltb (length out) (length bytes) (h.fits e)) (λ i. record { answer = record { number = 0; place = 0; length = (sym (h.all e)) i }; out = (sym (h.put e)) i; own = own })

-- ---- written, and the length of it
module _ (out bytes : List ℕ) {n : ℕ} (n_is : length bytes ≡ n) where
  pub wrote_none : length out < n → Wrote (Err (record { by = OutputLength; place = 0 })) out (write out bytes)
  wrote_none l = rw (lt-ltb (length out) (length bytes) (omega arith))

  pub wrote_all : {o : List ℕ} → n ≤ length out → o ≡ sets out 0 bytes → Wrote (Ok n) o (write out bytes)
  wrote_all l e = rw (le-ltb (length out) (length bytes) (omega arith), e, n_is)

module _ (out : List ℕ) (d : Divisor) (m : Modulus) {n : ℕ} (n_is : n ≡ 1 + 16 * weight_of d) where
  pub deliver_short : length out < n → Wrote (Err (record { by = OutputLength; place = 0 })) out (write out (divisor_bytes m.p (pair m d)))
  deliver_short l = wrote_none out (divisor_bytes m.p (pair m d)) (divisor_length m d ∙ sym n_is) l

  pub deliver_whole : {o : List ℕ} → n ≤ length out → o ≡ sets out 0 (divisor_bytes m.p (pair m d)) → Wrote (Ok n) o (write out (divisor_bytes m.p (pair m d)))
  deliver_whole l e = wrote_all out (divisor_bytes m.p (pair m d)) (divisor_length m d ∙ sym n_is) l e

-- ---- what was made, delivered: a refusal is handed on, a divisor is written, and both as the call's rule has it
pub deliver_refused : (out : List ℕ) (e : Refused) → Delivered (Err e) out (Err e) out
deliver_refused out e = refl

module _ (out : List ℕ) (r : Result ℕ Refused) (o : List ℕ) where
  pub deliver_divisor : (m : Modulus) (d : Divisor) → Delivered (Ok (d, m)) out r o → Wrote r o (write out (divisor_bytes m.p (pair m d)))
  deliver_divisor m d h = h

  pub delivered : {rule : Checked (RuleResult (Unit {0}))} (made : Result (Divisor × Modulus) Refused) → Makes made rule → Delivered made out r o
      → Wrote r o (deliver tt out rule)
  delivered made h w = w ∙ sym (ap (deliver tt out) h.1)

-- ---- a curve record that was read is written as it stood
pub rewritten : (s out : List ℕ) {c : CurveRecord} → AreBytes s → read_curve s ≡ taken c → rewrite_curve s out ≡ write out s
unfolding rewrite_curve
rewritten s out bytes e = rw e (ap (write out) (curve_written s bytes e))
