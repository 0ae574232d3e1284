-- Document 01, "The sum" and "Numbers the tablet shows": a batch, records one after the other, 14 after 4,096 good ones and before the next
-- is looked at; and "The pole's list" with document 02's W-205: which meters are the same, and the first repeat, least j, then least i < j.
use Prim.Native.Nat.{ℕ, zero, suc, ◌+◌, ◌*◌}
use mathlib.Core.List.{List, [], ◌∷◌, ◌++◌}
use Rattle.std.specs.Prelude.{Bool, ◌≡◌, ◌⊎◌, leb, length}
use Rattle.std.proofs.Math.Bool.{true, false}
use Rattle.std.proofs.Math.ListN.{get_or}
use Rattle.algebra.proofs.Ring.Field.{Arith}
use Rattle.algebra.proofs.Zmod.Zmod.{zmod, zmod_dec}
use Rattle.algebra.proofs.Zmod.PrimeField.{modulo}
use Rattle.rules.specs.Pair.{Pair, opposite}
pub use Rattle.rules.specs.First.{Repeat}
use Rattle.rules.specs.Checks.{Checked, taken, choose, first_failed, go_on}
use Rattle.rules.specs.Records.{both, either, CurveRecord, PairOf, divisor_at}

abbrev pub most_records : ℕ
most_records = 4096

-- what a batch comes to, and how many records it has: from `from`, each record goes in by `step`
pub record Batch (A : Type 0) : Type 0 where
  pub result : A
  pub count : ℕ

module _ {A : Type 0} (c : CurveRecord) (step : A → PairOf c → A) (s : List ℕ) where
  -- k records stand before byte a; `left` more may follow
  unfoldable pub batch_from : ℕ → ℕ → ℕ → A → Checked (Batch A)
  unfolding divisor_at
  batch_from zero a k from = first_failed ((leb (length s) a, 14, 0) ∷ []) (record { result = from; count = k })
  batch_from (suc left) a k from =
      choose (leb (length s) a) (taken (record { result = from; count = k }))
      (go_on (divisor_at c (k + 1) false s a) (λ d. batch_from left (a + 1 + 16 * get_or s a 0) (k + 1) (step from d)))

  abbrev pub batch : A → Checked (Batch A)
  batch from = batch_from most_records 0 0 from

-- ---- two meters are the same when their divisors are equal or opposite (document 02, W-205)
abbrev pub Same : {K : Arith} → Pair K → Pair K → Type 0
Same a b = (a ≡ b) ⊎ (a ≡ opposite b)

module _ (p : ℕ) where
  unfoldable pub is_same_list : List (zmod p).El → List (zmod p).El → Bool
  unfolding zmod_dec
  is_same_list [] [] = true
  is_same_list [] (y ∷ m) = false
  is_same_list (x ∷ l) [] = false
  is_same_list (x ∷ l) (y ∷ m) = elim (zmod_dec p x y) [ yes e ↦ is_same_list l m | no n ↦ false ]

  abbrev pub is_equal : Pair (modulo p) → Pair (modulo p) → Bool
  is_equal a b = both (is_same_list a.u b.u) (is_same_list a.v b.v)

  unfoldable pub is_same : Pair (modulo p) → Pair (modulo p) → Bool
  unfolding is_same_list opposite
  is_same a b = either (is_equal a b) (is_equal a (opposite b))

-- ---- the first repeat, whatever the test of two being the same: places are counted from 1, and 0 says none
module _ {A : Type 0} (alike? : A → A → Bool) where
  -- the place of the first of l that is the same as a
  unfoldable pub place_of : A → List A → ℕ
  place_of a [] = 0
  place_of a (b ∷ l) = choose (alike? b a) 1 (elim (place_of a l) [ zero ↦ 0 | suc k ↦ suc (suc k) ])

  -- no two of `seen` are the same
  unfoldable pub repeat_from : List A → List A → Repeat
  unfolding place_of
  repeat_from seen [] = record { first = 0; second = 0 }
  repeat_from seen (a ∷ l) = elim (place_of a seen) [ zero ↦ repeat_from (seen ++ (a ∷ [])) l | suc i ↦ record { first = suc i; second = suc (length seen) } ]

abbrev pub first_repeat : (p : ℕ) → List (Pair (modulo p)) → Repeat
first_repeat p l = repeat_from (is_same p) [] l
