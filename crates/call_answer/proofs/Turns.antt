-- A batch under way in code, for any way `step` that a record goes in: the rule run from place a on, after k records that made `from`, is the
-- rule run from the start. Gives: what the rule comes to where too many follow, where a record is refused and at the end, and that a record
-- taken keeps it so.
use Prim.Native.Nat.{ℕ, suc, ◌+◌, ◌-◌, ◌*◌, ◌≤◌, ◌<◌}
use mathlib.Core.Path.{◌≡◌, refl, sym, ap, ◌∙◌, subst}
use mathlib.Core.List.{List}
use mathlib.Core.Bool.{false}
use native.Mathlib.Omega.{arith}
use lib.ListN.{get_or, length}
use Rattle.rules.specs.Records.{Checked, refused, taken, PairOf, divisor_at}
use Rattle.rules.specs.Lists.{Batch, batch_from, batch}
use Rattle.divisor.specs.declared.Divisor.{Divisor}
use Rattle.divisor.specs.Divisors.{pair}
use Rattle.curve.specs.declared.Curve.{Curve}
use Rattle.curve.specs.Curves.{Holds}
use Rattle.curve.specs.Record.{record_of}
use Rattle.std.specs.Prelude.{Result, Ok, Err}
use Rattle.refusals.specs.declared.Refusal.{Refusal}
use Rattle.refusals.specs.Refusal.{number_of}
use Rattle.record_divisor.specs.Read.{DivisorIs}
use Rattle.rules.proofs.Calls.Steps.{at_end, too_many, stops, goes_on}

-- ---- what a read record says, by its case
module _ (c : Curve) (s : List ℕ) (a : ℕ) (r : Result Divisor Refusal) (is : DivisorIs c false s a r) where
  pub read_taken : {d : Divisor} → r ≡ Ok d → Holds c d × ((k : ℕ) → divisor_at (record_of c) k false s a ≡ taken (pair c.prime.m d))
  read_taken e = subst (DivisorIs c false s a) e is

  read_refused : {by : Refusal} → r ≡ Err by → (k : ℕ) → divisor_at (record_of c) k false s a ≡ refused (number_of by) k
  read_refused e = subst (DivisorIs c false s a) e is

module _ {A : Type 0} (c : Curve) (step : A → PairOf (record_of c) → A) (s : List ℕ) (start : A) where
  pub record Going (k a : ℕ) (from : A) : Type 0 where
    pub room : k ≤ 4096
    pub runs : batch_from (record_of c) step s (4096 - k) a k from ≡ batch (record_of c) step s start

  pub begins : Going 0 0 start
  begins = record { room = omega arith; runs = refl }

module _ {A : Type 0} {c : Curve} {step : A → PairOf (record_of c) → A} {s : List ℕ} {start : A} {k a : ℕ} {from : A} (i : Going c step s start k a from) where
  abbrev whole : Checked (Batch A)
  whole = batch (record_of c) step s start

  with_left : (left : ℕ) → left ≡ 4096 - k → batch_from (record_of c) step s left a k from ≡ whole
  with_left left e = ap (λ (n : ℕ). batch_from (record_of c) step s n a k from) e ∙ i.runs

  pub ends : length s ≤ a → whole ≡ taken (record { result = from; count = k })
  ends h = sym i.runs ∙ at_end (record_of c) step s a k from (4096 - k) h

  module _ (more : a < length s) where
    pub full : k ≡ 4096 → whole ≡ refused 14 0
    full e = sym (with_left 0 (omega arith)) ∙ too_many (record_of c) step s a k from more

    module _ (room : k < 4096) (r : Result Divisor Refusal) (is : DivisorIs c false s a r) where
      pub refuses : {by : Refusal} → r ≡ Err by → whole ≡ refused (number_of by) (k + 1)
      refuses e = sym (with_left (suc (4096 - (k + 1))) (omega arith)) ∙ stops (record_of c) step s a k from more (4096 - (k + 1)) (read_refused c s a r is e (k + 1))

      pub turns : {d : Divisor} {w : ℕ} {next : A} → r ≡ Ok d → w ≡ get_or s a 0 → next ≡ step from (pair c.prime.m d) → Going c step s start (k + 1) (a + 1 + 16 * w) next
      turns e v n = record {
        room = omega arith;
        runs = rw (v, n) (sym (goes_on (record_of c) step s a k from more (4096 - (k + 1)) ((read_taken c s a r is e).1 (k + 1))) ∙ with_left (suc (4096 - (k + 1))) (omega arith));
      }
