-- The records of a batch by their places. Gives: the loop's start, a turn of it, and what is answered at each return.
use Prim.Native.Nat.{ℕ, ◌+◌, ◌*◌, ◌≤◌, ◌<◌}
use mathlib.Core.Path.{◌≡◌, refl, sym, ap, ◌∙◌, subst, subst₂}
use mathlib.Core.List.{List, [], ◌∷◌, ◌++◌}
use mathlib.Core.Bool.{false}
use native.Mathlib.Omega.{arith}
use borrow.Author.Count.{below_more}
use lib.ListN.{get_or, length, set, length-set, length-append, get_or-append}
use lib.Seq.{get_or-set_same, get_or-set_other, get_or_at}
use Rattle.rules.specs.Pair.{neutral}
use Rattle.rules.specs.Records.{Checked, PairOf}
use Rattle.rules.specs.First.{FirstIs}
use Rattle.rules.specs.Lists.{Batch, Repeat, Same, first_repeat}
use Rattle.rules.specs.Calls.{done, deliver}
use Rattle.rules.proofs.Calls.Repeats.{SameAt, first_is_as, found_is}
use Rattle.std.specs.Prelude.{Option, Ok, Err}
use Rattle.refusals.specs.declared.Refused.{Refused}
use Rattle.refusals.specs.declared.Refusal.TheVariants.{Full}
use Rattle.divisor.specs.declared.Divisor.{Divisor}
use Rattle.divisor.specs.Divisors.{pair}
use Rattle.curve.specs.declared.Curve.{Curve}
use Rattle.curve.specs.Record.{record_of}
use Rattle.record_divisor.specs.Read.{DivisorIs}
use Rattle.call_answer.proofs.Turns.{Going, begins, ends, full, refuses, turns}
use Rattle.call_batch.specs.declared.places.Repeat.{Repeat as Found}
use Rattle.call_answer.specs.Answers.{RecordIs}
use Rattle.call_batch.specs.repeat.Rows.{pair_at, SameIn, Row, Rows, places_of}
use Rattle.call_batch.specs.repeat.Repeats.{list_rule, no_repeat, repeat_of, repeat_on, RepeatIs}
use Rattle.call_batch.proofs.repeat.Chains.{stands}

abbrev snoc : {A : Type 0} → List A → A → List A
snoc l x = l ++ (x ∷ [])

pub record Listing (c : Curve) (s places : List ℕ) (k a : ℕ) : Type 0 where
  pub rows : Rows c s places k
  pub l : List (PairOf (record_of c))
  pub long : length l ≡ k
  pub at : (x : ℕ) → x < k → get_or l x neutral ≡ pair_at c s (get_or places x 0)
  pub going : Going c snoc s [] k a l

module _ (c : Curve) (s : List ℕ) where
  pub list_begin : (places : List ℕ) → length places ≡ 4096 → Listing c s places 0 0
  list_begin places p = record { rows = record { room = omega arith; long = p; row = λ x i. absurd (omega arith) }; l = []; long = refl; at = λ x i. absurd (omega arith); going = begins c snoc s [] }

  module _ (places : List ℕ) (k a : ℕ) (i : Listing c s places k a) where
    -- what the call goes on with
    as_rule : {x : Checked (Batch (List (PairOf (record_of c))))} → list_rule c s ≡ x → repeat_on c s ≡ deliver no_repeat [] (repeat_of c x)
    as_rule e = ap (λ x. deliver no_repeat [] (repeat_of c x)) e

    pub list_full : a < length s → k ≡ 4096 → RepeatIs (Err (record { by = Full; place = 0 })) (repeat_on c s)
    list_full more e = sym (as_rule (full i.going more e))

    pub list_refuses : (r : Refused) → a < length s → k < 4096 → RecordIs c s a (k + 1) (Err r) → RepeatIs (Err r) (repeat_on c s)
    list_refuses r more room is = rw is.1 (sym (as_rule (refuses i.going more room _ is.0 refl)))

    pub list_turn : {x : Divisor} {w : ℕ} → a < length s → k < 4096 → DivisorIs c false s a (Ok x) → w ≡ get_or s a 0 → Listing c s (set places k a) (k + 1) (a + 1 + 16 * w)
    list_turn {x} more room is v = record {
      rows = record {
        room = omega arith;
        long = length-set places k a ∙ i.rows.long;
        row = below_more (λ j. Row c s (get_or (set places k a) j 0)) k
            (λ j l. subst (Row c s) (sym (get_or-set_other places k j a 0 (λ p. omega arith))) (i.rows.row j l))
            (subst (Row c s) (sym here) (record { stands_for = pair c.prime.m x; is = is.1 }));
      };
      l = snoc i.l (pair c.prime.m x);
      long = length-append i.l (pair c.prime.m x ∷ []) ∙ ap (λ (t : ℕ). t + 1) i.long;
      at = below_more (λ j. get_or (snoc i.l (pair c.prime.m x)) j neutral ≡ pair_at c s (get_or (set places k a) j 0)) k
          (λ j l. get_or-append i.l (pair c.prime.m x ∷ []) neutral j (omega (arith, l, i.long)) ∙ i.at j l ∙ ap (pair_at c s) (sym (get_or-set_other places k j a 0 (λ p. omega arith))))
          (get_or_at i.l (pair c.prime.m x) [] neutral k i.long ∙ sym (stands c s a is.1) ∙ ap (pair_at c s) (sym here));
      going = turns i.going more room _ is refl v refl;
    }
      where
        here : get_or (set places k a) k 0 ≡ a
        here = get_or-set_same places k a 0 (omega (arith, i.rows.long))

    module _ (over : length s ≤ a) (f : Option Found) (is : FirstIs (SameIn c s places) k (places_of f)) where
      found : first_repeat c.prime.m.p i.l ≡ places_of f
      found = found_is c.prime.m.p i.l (places_of f) (subst (λ n. FirstIs (SameAt i.l) n (places_of f)) (sym i.long) (first_is_as (SameIn c s places) (SameAt i.l) k to from (places_of f) is))
        where
          to : (a b : ℕ) → a < b → b < k → SameIn c s places a b → SameAt i.l a b
          to a b l h q = subst₂ Same (sym (i.at a (omega arith))) (sym (i.at b h)) q

          from : (a b : ℕ) → a < b → b < k → SameAt i.l a b → SameIn c s places a b
          from a b l h q = subst₂ Same (i.at a (omega arith)) (i.at b h) q

      pub list_searched : RepeatIs (Ok f) (repeat_on c s)
      list_searched = sym (as_rule (ends i.going over) ∙ ap (λ (t : Repeat). record { answer = done 0; out = []; own = t }) found)
