-- W-214: which folds of a divisor in code are neutral, by the rule's own test.
use Rattle.std.specs.Prelude.{ℕ, ◌≡◌, Bool, List}
use Rattle.rules.specs.Orders.Tests.{is_none_below}
use Rattle.rules.specs.Calls.{is_neutral_fold}
use Rattle.divisor.specs.declared.Divisor.{Divisor}
use Rattle.divisor.specs.Divisors.{pair}
use Rattle.curve.specs.declared.Curve.{Curve}
use Rattle.curve.specs.Curves.{Holds}
use Rattle.curve.specs.Record.{record_of}
use Rattle.field_witness.specs.Witness.{AllSome}

abbrev pub is_neutral_fold_by : Curve → Divisor → ℕ → Bool
is_neutral_fold_by c a = is_neutral_fold (record_of c) (pair c.prime.m a)

-- with listed numbers above 0
pub record ToLook (c : Curve) (a : Divisor) (l : List ℕ) : Type 0 where
  pub holds : Holds c a
  pub some : AllSome l

pub record Folded (c : Curve) (a : Divisor) (n : ℕ) (r : Bool) : Type 0 where
  pub is : r ≡ is_neutral_fold_by c a n

-- the rules' test, of the folds of a
pub record NoneBelow (c : Curve) (a : Divisor) (n : ℕ) (l : List ℕ) (r : Bool) : Type 0 where
  pub is : r ≡ is_none_below (is_neutral_fold_by c a) n l
