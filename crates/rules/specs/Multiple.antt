-- Document 01, "The sum": the n-fold multiple, the batch total; W-208: the two counts of a multiple.
use Prim.Native.Nat.{ℕ, zero, suc, ◌-◌}
use mathlib.Core.List.{List, foldl}
use Rattle.std.specs.Prelude.{length}
use Rattle.rules.specs.Signed.Digits.{recode, nonzeros}
use Rattle.rules.specs.Curve.{Curve}
use Rattle.rules.specs.Pair.{Pair, neutral}
use Rattle.rules.specs.Sum.{sum}

module _ (E : Curve) where
  -- n copies summed, neutral for n = 0
  unfoldable pub multiple : ℕ → Pair E.K → Pair E.K
  unfolding sum
  multiple zero a = neutral
  multiple (suc n) a = sum E (multiple n a) a

  -- neutral, then each added from first to last
  unfoldable pub total : List (Pair E.K) → Pair E.K
  unfolding sum
  total l = foldl (sum E) neutral l

-- of left-to-right double-and-add over the non-adjacent form: the highest digit costs nothing
-- (a difference of numbers is never below 0, so both are 0 for n = 0)
unfoldable pub doublings : ℕ → ℕ
unfolding recode
doublings n = length (recode n) - 1

unfoldable pub additions : ℕ → ℕ
unfolding recode
additions n = nonzeros (recode n) - 1
