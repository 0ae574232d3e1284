-- What is written to the output: on 0 the result stands at its front (`front_is`). (That the rest is as it was: Delivered.)
-- Open: `Written`, `only`, `front`, `answered`, `bare`.
use Prim.Native.Nat.{ℕ, ◌+◌, ◌≤◌}
use mathlib.Core.Path.{◌≡◌, refl, sym, ap, ◌∙◌, subst}
use mathlib.Core.List.{List, ◌++◌}
use mathlib.Core.Bool.{Bool, true, false}
use native.Mathlib.Omega.{arith}
use lib.Dec.{ltb}
use lib.ListN.{length, take, drop}
use lib.Seq.{sets, sets-eq, take_at}
use Rattle.rules.specs.Checks.{taken, choose}
use Rattle.rules.specs.Calls.{Result, Reply, stop, put, write}
use Rattle.rules.proofs.Calls.Tests.{taken_inj}
use Rattle.rules.proofs.Calls.Refusals.{numbered_taken}
use Rattle.rules.proofs.Calls.Delivered.{full, put_room, delivered}

-- a call with no numbers of its own: its answer and output; what it comes to
abbrev pub Written : Type 0
Written = Reply (Unit {0})

abbrev pub only : List ℕ → Result (Unit {0})
only bytes = record { bytes = bytes; own = tt }

-- as many bytes of the output as the answer says; the answer and the output alone
abbrev pub front : {N : Type 0} → Reply N → List ℕ
front w = take w.answer.length w.out

abbrev pub answered : {N : Type 0} → Reply N → ℕ
answered w = w.answer.number

abbrev pub bare : {N : Type 0} → Reply N → Written
bare w = record { answer = w.answer; out = w.out; own = tt }

pub bare_put : {N : Type 0} (none : N) (out : List ℕ) (r : Result N) → bare (put none out r) ≡ write out r.bytes
bare_put none out r = go (ltb (length out) (length r.bytes))
  where
    go : (t : Bool) → bare (choose t (stop none out 13 0) (full none out r)) ≡ choose t (stop tt out 13 0) (full tt out (only r.bytes))
    go true = refl
    go false = refl

module _ (out bytes : List ℕ) where
  room_of : (write out bytes).answer.number ≡ 0 → length bytes ≤ length out
  room_of zero = let k = delivered tt out (taken (only bytes)) (numbered_taken (only bytes)) zero in
      subst (λ (r : Result (Unit {0})). length r.bytes ≤ length out) (sym (taken_inj k.is)) k.room

  pub write_room : length bytes ≤ length out → write out bytes ≡ full tt out (only bytes)
  write_room l = put_room tt out (only bytes) l

  sets_is : length bytes ≤ length out → sets out 0 bytes ≡ bytes ++ drop (0 + length bytes) out
  sets_is l = sets-eq bytes out 0 (omega arith)

  pub front_room : length bytes ≤ length out → front (write out bytes) ≡ bytes
  front_room l = ap front (write_room l) ∙ ap (take (length bytes)) (sets_is l) ∙ take_at bytes (drop (0 + length bytes) out) (length bytes) refl

  pub front_is : answered (write out bytes) ≡ 0 → front (write out bytes) ≡ bytes
  front_is zero = front_room (room_of zero)
