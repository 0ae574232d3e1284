-- Document 02, W-211: the census of a training curve. Every divisor that the curve's records can name, in order of weight and then of record bytes; of these the valid ones; and the next one after a given one, or 24. (The call, with 25, is in Calls.)
use Rattle.std.specs.Prelude.{ℕ, zero, suc, ◌+◌, ◌<◌, ◌≡◌, ◌⊎◌, Bool, take, drop}
use mathlib.Core.List.{List, [], ◌∷◌, map, flat_map}
use Rattle.algebra.proofs.Zmod.PrimeField.{modulo}
use Rattle.rules.specs.Pair.{Pair}
use Rattle.rules.specs.Tests.{is_on_curve}
use Rattle.rules.specs.Checks.{Checked, refused, taken, choose}
use Rattle.rules.specs.Records.{CurveRecord, curve, PairOf, made_of, elements, divisor_bytes}
use Rattle.rules.specs.Lists.{is_same_list, is_equal}

-- k numbers, from n on
unfoldable pub run : ℕ → ℕ → List ℕ
run n zero = []
run n (suc k) = n ∷ run (suc n) k

-- every row of n numbers below p, in order: the first number weighs most
unfoldable pub rows : ℕ → ℕ → List (List ℕ)
unfolding run flat_map
rows p zero = [] ∷ []
rows p (suc n) = flat_map (λ x. map (λ r. x ∷ r) (rows p n)) (run 0 p)

-- those that pass a test
unfoldable pub passing : {A : Type 0} → (A → Bool) → List A → List A
passing test? [] = []
passing test? (x ∷ l) = choose (test? x) (x ∷ passing test? l) (passing test? l)

-- the first of a list; 24 where there is none
abbrev pub first : {A : Type 0} → List A → Checked A
first [] = refused 24 0
first (x ∷ l) = taken x

-- the one right behind the one that the test finds
unfoldable pub behind : {A : Type 0} → (A → Bool) → List A → Checked A
behind here? [] = refused 24 0
behind here? (x ∷ l) = choose (here? x) (first l) (behind here? l)

module _ (c : CurveRecord) where
  -- the pair whose record has these numbers: u_0 to u_(w-1), then v_0 to v_(w-1)
  unfoldable pub pair_from : ℕ → List ℕ → PairOf c
  unfolding elements
  pair_from w r = made_of c (take w r) (drop w r)

  -- every pair of weight w, and of weight 0 up to g
  unfoldable pub weighing : ℕ → List (PairOf c)
  unfolding rows pair_from
  weighing w = map (pair_from w) (rows c.p (w + w))

  unfoldable pub pairs : List (PairOf c)
  unfolding weighing run flat_map
  pairs = flat_map weighing (run 0 (suc c.g))

  -- u divides f - v²
  unfoldable pub census : List (PairOf c)
  unfolding pairs passing is_on_curve
  census = passing (is_on_curve (curve c)) pairs

  unfoldable pub next : PairOf c → Checked (PairOf c)
  unfolding census behind is_same_list
  next x = behind (is_equal c.p x) census

-- ---- the order: of rows of numbers the first that differs decides; of pairs that of their records' bytes, the first of which is the weight
unfoldable pub Lower : List ℕ → List ℕ → Type 0
Lower [] [] = ⊥
Lower [] (y ∷ m) = Unit {0}
Lower (x ∷ l) [] = ⊥
Lower (x ∷ l) (y ∷ m) = (x < y) ⊎ ((x ≡ y) × Lower l m)

abbrev pub Below : (p : ℕ) → Pair (modulo p) → Pair (modulo p) → Type 0
Below p a b = Lower (divisor_bytes p a) (divisor_bytes p b)
