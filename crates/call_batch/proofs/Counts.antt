-- A batch counted in code: k records stand before place a. Gives: the loop's start, a turn of it, and what is answered at each return.
use Prim.Native.Nat.{ℕ, ◌+◌, ◌*◌, ◌≤◌, ◌<◌}
use mathlib.Core.Path.{◌≡◌, refl}
use mathlib.Core.List.{List}
use mathlib.Core.Bool.{false}
use lib.ListN.{get_or, length}
use Rattle.std.specs.Prelude.{Ok, Err}
use Rattle.refusals.specs.declared.Refusal.TheVariants.{Full}
use Rattle.refusals.specs.declared.Refused.{Refused}
use Rattle.divisor.specs.declared.Divisor.{Divisor}
use Rattle.curve.specs.declared.Curve.{Curve}
use Rattle.record_divisor.specs.Read.{DivisorIs}
use Rattle.call_answer.proofs.Turns.{Going, begins, ends, full, refuses, turns}
use Rattle.call_answer.specs.Answers.{RecordIs}
use Rattle.call_batch.specs.Counts.{CountedIs}

pub record Counting (c : Curve) (s : List ℕ) (k a : ℕ) : Type 0 where
  pub going : Going c (λ (x : Unit {0}) d. x) s tt k a tt

module _ (c : Curve) (s : List ℕ) where
  pub count_begin : Counting c s 0 0
  count_begin = record { going = begins c (λ (x : Unit {0}) d. x) s tt }

  module _ (k a : ℕ) (i : Counting c s k a) where
    pub count_ends : length s ≤ a → CountedIs c s (Ok k)
    count_ends h = ends i.going h

    pub count_full : a < length s → k ≡ 4096 → CountedIs c s (Err (record { by = Full; place = 0 }))
    count_full = full i.going

    module _ (more : a < length s) (room : k < 4096) where
      pub count_refuses : (r : Refused) → RecordIs c s a (k + 1) (Err r) → CountedIs c s (Err r)
      count_refuses r is = rw is.1 (refuses i.going more room _ is.0 refl)

      pub count_turn : {d : Divisor} {w : ℕ} → DivisorIs c false s a (Ok d) → w ≡ get_or s a 0 → Counting c s (k + 1) (a + 1 + 16 * w)
      count_turn is v = record { going = turns i.going more room _ is refl v refl }
