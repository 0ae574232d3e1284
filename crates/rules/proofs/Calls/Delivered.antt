-- One way to refuse, of every call at once: a call's rule is `deliver` of what its checks and its result come to. Gives: on a number other
-- than 0 the length is 0, the output is as it was and the call's own numbers are `none` (`refused_kept`); whatever it answers, the rest of the output is as it was (`rest_kept`), and 13 says that it is too short (`put_short`); what it comes to where it answers 0 (`delivered`, `came_on`); that its place
-- is that of what was refused (`delivered_place`).
-- Open: `Kept`, `RestKept`, `full`.
use Prim.Native.Nat.{ℕ, ◌+◌, ◌≤◌, ◌<◌}
use mathlib.Core.Path.{◌≡◌, refl, ap, ◌∙◌}
use mathlib.Core.List.{List}
use mathlib.Core.Bool.{Bool, true, false}
use mathlib.Core.Logic.{◌↔◌}
use native.Mathlib.Omega.{arith}
use lib.Dec.{ltb}
use lib.ListN.{length, drop}
use lib.Seq.{sets, sets-eq, drop_at}
use borrow.Author.Tests.{ltb-true, lt-ltb, ltb-false, le-ltb}
use Rattle.rules.specs.Checks.{Checked, refused, taken, choose, go_on}
use Rattle.rules.specs.Calls.{done, Result, Reply, stop, put, deliver}
use Rattle.rules.proofs.Calls.Refusals.{Numbered, check}
use Rattle.rules.proofs.Calls.Places.{At, Placed, elsewhere}

module _ {N : Type 0} (none : N) (out : List ℕ) where
  abbrev pub Kept : Reply N → Type 0
  Kept r = (r.answer.number ≡ 0 → ⊥) → (r.answer.length ≡ 0) × (r.out ≡ out) × (r.own ≡ none)

  abbrev pub full : Result N → Reply N
  full r = record { answer = done (length r.bytes); out = sets out 0 r.bytes; own = r.own }

  -- one reading after another
  pub deliver_on : {A : Type 0} (x : Checked A) (go : A → Checked (Result N)) → deliver none out (go_on x go) ≡ check x (stop none out) (λ a. deliver none out (go a))
  deliver_on (refused n k) go = refl
  deliver_on (taken a) go = refl

  -- where there is room
  pub put_room : (r : Result N) → length r.bytes ≤ length out → put none out r ≡ full r
  put_room r l = ap (λ t. choose t (stop none out 13 0) (full r)) (le-ltb (length out) (length r.bytes) l)

  pub put_done : (r : Result N) → (put none out r).answer.number ≡ 0 → put none out r ≡ full r
  put_done r = go (ltb (length out) (length r.bytes))
    where
      go : (t : Bool) → (choose t (stop none out 13 0) (full r)).answer.number ≡ 0 → choose t (stop none out 13 0) (full r) ≡ full r
      go true e = absurd (omega (arith, e))
      go false e = refl

  -- 13 exactly where there isn't
  pub put_short : (r : Result N) → ((put none out r).answer.number ≡ 13) ↔ (length out < length r.bytes)
  put_short r = (go (ltb (length out) (length r.bytes)) refl, λ l. ap (λ t. (choose t (stop none out 13 0) (full r)).answer.number) (lt-ltb (length out) (length r.bytes) l))
    where
      go : (t : Bool) → ltb (length out) (length r.bytes) ≡ t → (choose t (stop none out 13 0) (full r)).answer.number ≡ 13 → length out < length r.bytes
      go true e h = ltb-true _ _ e
      go false e h = absurd (omega (arith, h))

  pub refused_kept : (x : Checked (Result N)) → Kept (deliver none out x)
  refused_kept (refused n k) = λ h. (refl, refl, refl)
  refused_kept (taken r) = go (ltb (length out) (length r.bytes))
    where
      go : (t : Bool) → Kept (choose t (stop none out 13 0) (full r))
      go true h = (refl, refl, refl)
      go false h = absurd (h refl)

  -- whatever it answers, behind the length that it answers the output is as it was
  abbrev pub RestKept : Reply N → Type 0
  RestKept w = drop w.answer.length w.out ≡ drop w.answer.length out

  pub rest_kept : (x : Checked (Result N)) → RestKept (deliver none out x)
  rest_kept (refused n k) = refl
  rest_kept (taken r) = go (ltb (length out) (length r.bytes)) refl
    where
      go : (t : Bool) → ltb (length out) (length r.bytes) ≡ t → RestKept (choose t (stop none out 13 0) (full r))
      go true q = refl
      go false q = ap (drop (length r.bytes)) (sets-eq r.bytes out 0 (omega (arith, ltb-false (length out) (length r.bytes) q)))
          ∙ drop_at r.bytes (drop (0 + length r.bytes) out) (length r.bytes) refl ∙ ap (λ (n : ℕ). drop n out) {x = 0 + length r.bytes} {y = length r.bytes} (omega arith)

  -- it answered 0: nothing was refused, and there was room
  pub record Came (x : Checked (Result N)) (w : Reply N) : Type 0 where
    pub result : Result N
    pub is : x ≡ taken result
    pub room : length result.bytes ≤ length out
    pub reply : w ≡ full result

  pub delivered : (x : Checked (Result N)) → Numbered x → (deliver none out x).answer.number ≡ 0 → Came x (deliver none out x)
  delivered (refused n k) h e = absurd (omega (arith, h n k refl, e))
  delivered (taken r) h e = go (ltb (length out) (length r.bytes)) refl e
    where
      go : (t : Bool) → ltb (length out) (length r.bytes) ≡ t → (choose t (stop none out 13 0) (full r)).answer.number ≡ 0 → Came (taken r) (put none out r)
      go true q e = absurd (omega arith)
      go false q e = record { result = r; is = refl; room = ltb-false (length out) (length r.bytes) q; reply = ap (λ t. choose t (stop none out 13 0) (full r)) q }

  -- what was read first was taken
  pub came_on : {A : Type 0} (x : Checked A) (go : A → Checked (Result N)) → Numbered x → (deliver none out (go_on x go)).answer.number ≡ 0
      → (a : A) × (x ≡ taken a) × ((deliver none out (go a)).answer.number ≡ 0)
  came_on (refused n k) go h e = absurd (omega (arith, h n k refl, e))
  came_on (taken a) go h e = (a, refl, e)

  pub delivered_place : (K : ℕ → ℕ → Type 0) (x : Checked (Result N)) → Placed K x → At K (deliver none out x).answer.number (deliver none out x).answer.place
  delivered_place K (refused n k) p = p n k refl
  delivered_place K (taken r) p = go (ltb (length out) (length r.bytes))
    where
      go : (t : Bool) → At K (choose t (stop none out 13 0) (full r)).answer.number (choose t (stop none out 13 0) (full r)).answer.place
      go true = elsewhere K (λ l u. omega arith) refl
      go false = elsewhere K (λ l u. omega arith) refl
