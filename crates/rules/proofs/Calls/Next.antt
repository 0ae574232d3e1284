-- W-211, the next divisor of a training curve. Gives what the call answers: 25 on a curve with p over 13, whatever the divisor's bytes are (`next_large`); else what refuses the divisor (`next_no_divisor`); else 24 exactly where no valid divisor
-- is above the one given (`next_last`), and otherwise the record of the least one above it, or 13 (`next_record`); so 25 and 24 are given exactly then (`next_given_25`, `next_given_24`). From the neutral record on, each call given what the last one wrote, the records written are those of the census (`calls_census`), and then
-- 24 comes (`call_ends`). (The place is in CallPlaces.)
use Prim.Native.Nat.{ℕ, zero, suc, ◌+◌, ◌*◌, ◌≤◌, ◌<◌}
use mathlib.Core.Path.{◌≡◌, refl, sym, ap, ◌∙◌, subst}
use mathlib.Core.List.Memᴰ
use mathlib.Core.List.{List, [], ◌∷◌, ◌++◌, map, Memᴰ}
use mathlib.Core.Bool.{true}
use mathlib.Core.Logic.{◌↔◌}
use native.Mathlib.Omega.{arith}
use lib.ListN.{length}
use borrow.Author.Tests.{le-leb, lt-leb}
use Rattle.rules.specs.Pair.{Valid, neutral}
use Rattle.rules.specs.Checks.{Checked, refused, taken, choose, first_failed, go_on}
use Rattle.rules.specs.Records.{CurveRecord, curve, PairOf, read_curve, read_divisor, divisor_bytes}
use Rattle.rules.specs.Census.{census, next}
use Rattle.rules.specs.Calls.{Result, Reply, stop, deliver, write, training_checks, read_training, next_call}
use Rattle.rules.proofs.Calls.Refusals.{on_taken, on_refused, on_on}
use Rattle.rules.proofs.Calls.CurveRecords.{accepts}
use Rattle.rules.proofs.Calls.DivisorRecords.{divisor_valid, length_divisor, divisor_reread}
use Rattle.rules.proofs.Cantor.Pairs.{neutral_valid}
use Rattle.rules.proofs.Calls.Written.{front, only, answered, write_room, front_room}
use Rattle.rules.proofs.Calls.Given.{◌and◌, ask, Decides, always, given-some}
use Rattle.rules.proofs.Calls.Decided.{le_decides}
use Rattle.rules.proofs.Calls.Reached.{TookCurve, through, second, third, took_as, Says, says_as, refused_here, checks_reached, curve_reached, divisor_reached, put_says}
use Rattle.rules.proofs.Calls.Splits.{pos_of}
use Rattle.rules.proofs.Calls.Sums.{neutral-bytes}
use Rattle.rules.proofs.Census.Census.{Least, Last, Answers, census_valid, next_at, next_answers, next_least, next_none, next-number, walk, walk_census}

module _ (s : List ℕ) {c : CurveRecord} (ec : read_curve s ≡ taken c) where
  pub some : 0 < c.p
  some = pos_of c (accepts s ec)

  pub most : c.p ≤ 18446744073709551616
  most = omega (arith, (accepts s ec).prime.small)

  pub not_training : 13 < c.p → read_training s ≡ refused 25 0
  not_training h = on_taken _ _ ec ∙ ap (λ b. choose b (taken c) (refused 25 0)) (lt-leb c.p 13 h)

  pub for_training : c.p ≤ 13 → read_training s ≡ taken c
  for_training h = on_taken _ _ ec ∙ ap (λ b. choose b (taken c) (refused 25 0)) (le-leb c.p 13 h)

  pub next_large : 13 < c.p → (a out : List ℕ) → next_call s a out ≡ stop tt out 25 0
  unfolding next_call
  next_large h a out = ap (deliver tt out) (on_refused _ _ (not_training h))

  module _ (small : c.p ≤ 13) (a out : List ℕ) where
    pub next_no_divisor : {n k : ℕ} → read_divisor c 1 a ≡ refused n k → next_call s a out ≡ stop tt out n k
    unfolding next_call
    next_no_divisor e = ap (deliver tt out) (on_taken _ _ (for_training small) ∙ on_refused _ _ e)

    module _ {x : PairOf c} (ea : read_divisor c 1 a ≡ taken x) where
      valid : Valid (curve c) x
      valid = divisor_valid c 1 true a 0 ea

      pub next_last : Last c x → next_call s a out ≡ stop tt out 24 0
      unfolding next_call
      next_last h = ap (deliver tt out) (on_taken _ _ (for_training small) ∙ on_taken _ _ ea ∙ on_refused _ _ ((next_none c some most x valid).1 h))

      pub next_record : (y : PairOf c) → Least c x y → next_call s a out ≡ write out (divisor_bytes c.p y)
      unfolding next_call
      next_record y h = ap (deliver tt out) (on_taken _ _ (for_training small) ∙ on_taken _ _ ea ∙ on_taken _ _ ((next_least c some most x valid y).1 h))

-- ---- 25 and 24, exactly when
training_decides : (c : CurveRecord) → Decides (always 0) (training_checks c) (ask (c.p ≤ 13) 25 ∷ [])
training_decides c = (le_decides _ _, refl, refl, λ l. tt)

module _ (s a out : List ℕ) where
  -- what follows the curve, and the training checks
  abbrev behind_curve : CurveRecord → Checked (Result (Unit {0}))
  behind_curve c = go_on (read_divisor c 1 a) (λ x. go_on (next c x) (λ y. taken (only (divisor_bytes c.p y))))

  abbrev trained : CurveRecord → Checked (Result (Unit {0}))
  trained c = go_on (first_failed (training_checks c) c) behind_curve

  from_curve : (n : ℕ) → 18 < n → (answered (next_call s a out) ≡ n) ↔ TookCurve s (λ c. Says tt out n (trained c))
  unfolding next_call
  from_curve n l = through (says_as tt out n (on_on (read_curve s) (λ c. first_failed (training_checks c) c) behind_curve)) (curve_reached tt out n (omega arith) (λ e. omega arith) s trained)

  pub next_given_25 : (answered (next_call s a out) ≡ 25) ↔ TookCurve s (λ c. ¬ (c.p ≤ 13))
  next_given_25 = through (from_curve 25 (omega arith)) (took_as s (λ c ec.
      through (refused_here tt out 25 (first_failed (training_checks c) c) behind_curve (later c)) (given-some c (always 0) 25 (training_checks c) (ask (c.p ≤ 13) 25 ∷ []) (training_decides c))))
    where
      later : (c b : CurveRecord) → first_failed (training_checks c) c ≡ taken b → Says tt out 25 (behind_curve b) → ⊥
      later c b q e =
          let d = (divisor_reached tt out 25 (omega arith) b a _).0 e in
          let k = (refused_here tt out 25 (next b d.0) _ (λ y z. put_says tt out 25 (λ e. omega arith) (λ e. omega arith) (only (divisor_bytes b.p y)))).0 d.2 in
          omega (arith, (next-number b d.0 k.1).0)

  pub next_given_24 : (answered (next_call s a out) ≡ 24) ↔ TookCurve s (λ c. (c.p ≤ 13) and ((x : PairOf c) × (read_divisor c 1 a ≡ taken x) × Last c x))
  next_given_24 = through (from_curve 24 (omega arith)) (took_as s (λ c ec.
      through (checks_reached tt out 24 (always 0) (training_checks c) (ask (c.p ≤ 13) 25 ∷ []) c behind_curve (training_decides c) (λ g. g.1)) (second (last c ec))))
    where
      last : (c : CurveRecord) → read_curve s ≡ taken c → Says tt out 24 (behind_curve c) ↔ ((x : PairOf c) × (read_divisor c 1 a ≡ taken x) × Last c x)
      last c ec = through (divisor_reached tt out 24 (omega arith) c a _) (third (λ x ea.
          through (refused_here tt out 24 (next c x) _ (λ y z. put_says tt out 24 (λ e. omega arith) (λ e. omega arith) (only (divisor_bytes c.p y))))
          (let n = next_none c (some s ec) (most s ec) x (divisor_valid c 1 true a 0 ea) in (λ t. n.0 (t.1 ∙ ap (refused 24) (next-number c x t.1).1), λ h. (0, n.1 h)))))

-- ---- from call to call: a record, and what the call writes of it, as long as it answers 0; at most n in all
abbrev pub onward : (List ℕ → List (List ℕ)) → Reply (Unit {0}) → List (List ℕ)
onward go w = elim (answered w) [ zero ↦ go (front w) | suc k ↦ [] ]

unfoldable pub call_walk : List ℕ → List ℕ → ℕ → List ℕ → List (List ℕ)
unfolding next_call
call_walk s out zero a = []
call_walk s out (suc n) a = a ∷ onward (λ b. call_walk s out n b) (next_call s a out)

module _ (s : List ℕ) {c : CurveRecord} (ec : read_curve s ≡ taken c) (small : c.p ≤ 13) (out : List ℕ) where
  abbrev bytes : PairOf c → List ℕ
  bytes x = divisor_bytes c.p x

  read_back : (x : PairOf c) → Valid (curve c) x → read_divisor c 1 (bytes x) ≡ taken x
  read_back x v = divisor_reread c (accepts s ec) x v 1

  pub call_ends : (l : List (PairOf c)) (x : PairOf c) → census c ≡ l ++ (x ∷ []) → next_call s (bytes x) out ≡ stop tt out 24 0
  call_ends l x e =
      let v = (census_valid c (some s ec) (most s ec) x).0 (subst (Memᴰ x) (sym e) (Memᴰ.append_right l (Memᴰ.head refl))) in
      next_last s ec small (bytes x) out (read_back x v) ((next_none c (some s ec) (most s ec) x v).0 (next_at c (some s ec) (most s ec) l x [] e))

  module _ (room : 1 + 16 * c.g ≤ length out) where
    calls_from : (n : ℕ) (x : PairOf c) → Valid (curve c) x → call_walk s out n (bytes x) ≡ map bytes (walk c n x)
    unfolding call_walk walk
    calls_from zero x v = refl
    calls_from (suc n) x v = ap (λ t. bytes x ∷ t) (go (next c x) refl (next_answers c (some s ec) (most s ec) x v) (calls_from n))
      where
        stops : {w : Reply (Unit {0})} → w ≡ stop tt out 24 0 → onward (call_walk s out n) w ≡ []
        stops e = ap (onward (call_walk s out n)) e

        writes : (y : PairOf c) → Valid (curve c) y → {w : Reply (Unit {0})} → w ≡ write out (bytes y) → onward (call_walk s out n) w ≡ call_walk s out n (bytes y)
        writes y k {w} e =
            let fits : length (bytes y) ≤ length out = omega (arith, length_divisor c (accepts s ec) y k, k.small, room) in
            ap (onward (call_walk s out n)) (e ∙ write_room out (bytes y) fits) ∙ ap (call_walk s out n) (ap front (sym (write_room out (bytes y) fits)) ∙ front_room out (bytes y) fits)

        go : (r : Checked (PairOf c)) → next c x ≡ r → Answers c x r → ((y : PairOf c) → Valid (curve c) y → call_walk s out n (bytes y) ≡ map bytes (walk c n y))
            → onward (call_walk s out n) (next_call s (bytes x) out) ≡ map bytes (elim r [ refused m k ↦ [] | taken y ↦ walk c n y ])
        go (refused m k) e h rec = stops (next_last s ec small (bytes x) out (read_back x v) h.2)
        go (taken y) e h rec = writes y h.valid (next_record s ec small (bytes x) out (read_back x v) y h) ∙ rec y h.valid

    pub calls_census : (n : ℕ) → length (census c) ≤ n → call_walk s out n (0 ∷ []) ≡ map bytes (census c)
    calls_census n l = ap (call_walk s out n) (sym (neutral-bytes c.p)) ∙ calls_from n neutral (neutral_valid (curve c)) ∙ ap (map bytes) (walk_census c (some s ec) (most s ec) n l)
