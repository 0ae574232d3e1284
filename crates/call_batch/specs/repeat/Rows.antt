-- The records of a batch by where each begins: what is found by these is found among the divisors that the records stand for. Places in the list are
-- counted from 0 in code.
use Rattle.std.specs.Prelude.{ℕ, ◌≤◌, ◌<◌, ◌≡◌, false, Option, Some, None, List, get_or, length}
use Rattle.rules.specs.Checks.{Checked, refused, taken}
use Rattle.rules.specs.Pair.{neutral}
use Rattle.rules.specs.Records.{PairOf, divisor_at}
use Rattle.rules.specs.First.{Repeat as Places}
use Rattle.rules.specs.Lists.{Same}
use Rattle.curve.specs.declared.Curve.{Curve}
use Rattle.curve.specs.Record.{record_of}
use Rattle.call_batch.specs.declared.places.Repeat.{Repeat}

abbrev pub taken_or : {A : Type 0} → A → Checked A → A
taken_or z (refused n k) = z
taken_or z (taken x) = x

-- what the record at a stands for
abbrev pub pair_at : (c : Curve) → List ℕ → ℕ → PairOf (record_of c)
pair_at c s a = taken_or neutral (divisor_at (record_of c) 0 false s a)

-- those at a and b are the same meter, and those at the places x and y of the list
abbrev pub SameAs : Curve → List ℕ → ℕ → ℕ → Type 0
SameAs c s a b = Same (pair_at c s a) (pair_at c s b)

abbrev pub SameIn : Curve → List ℕ → List ℕ → ℕ → ℕ → Type 0
SameIn c s places x y = SameAs c s (get_or places x 0) (get_or places y 0)

-- a good record begins at a
pub record Row (c : Curve) (s : List ℕ) (a : ℕ) : Type 0 where
  pub stands_for : PairOf (record_of c)
  pub is : (n : ℕ) → divisor_at (record_of c) n false s a ≡ taken stands_for

-- the first n of the room for 4,096
pub record Rows (c : Curve) (s places : List ℕ) (n : ℕ) : Type 0 where
  pub room : n ≤ 4096
  pub long : length places ≡ 4096
  pub row : (x : ℕ) → x < n → Row c s (get_or places x 0)

-- what was found, as the rules have it: 0 and 0 for nothing
abbrev pub places_of : Option Repeat → Places
places_of (Some x) = record { first = x.first; second = x.second }
places_of None = record { first = 0; second = 0 }
