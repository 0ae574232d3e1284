-- Runs of steps on tuples alone, and the step after them. Gives: what a run keeps (`Going`) over each digit; the next digit by the plain sum (`further_by`).
use Prim.Native.Nat.{ℕ, ◌-◌, ◌≤◌, ◌<◌}
use mathlib.Core.Path.{◌≡◌, sym, subst}
use mathlib.Core.List.{List}
use native.Mathlib.Omega.{arith}
use lib.ListN.{length, get_or}
use Rattle.divisor.specs.declared.Divisor.{Divisor}
use Rattle.divisor.specs.declared.Divisor.TheVariants.{Two}
use Rattle.divisor.specs.declared.Quadratic.{Quadratic}
use Rattle.divisor.specs.Divisors.{pair}
use Rattle.curve.specs.declared.Curve.{Curve}
use Rattle.multiple_affine.specs.promise.Contracts.{Stepped as StepsPlain}
use Rattle.multiple_tuple.specs.declared.Tuple.{Tuple}
use Rattle.multiple_tuple_step.specs.declared.State.{State}
use Rattle.multiple_tuple_step.specs.declared.State.TheVariants.{Free}
use Rattle.multiple.specs.declared.Run.{Run}
use Rattle.multiple_tuple_step.specs.States.{Means, SomeFree, GivesIt, Stepped}
use Rattle.multiple.specs.Runs.{Reaches, Ran, GoneOn}
use Rattle.multiple.proofs.Running.{one_digit}

pub record Going (c : Curve) (q : Quadratic) (d : List ℕ) (k : ℕ) (r : Tuple) (j : ℕ) : Type 0 where
  pub at_most : j ≤ k
  pub reaches : Reaches c (Two q) d (Free r) j

module _ (c : Curve) (q : Quadratic) (d : List ℕ) (k : ℕ) where
  pub going_on : (r y : Tuple) (j : ℕ) → Going c q d k r j → 0 < j → j ≤ length d → Stepped c (Two q) (Free r) (get_or d (j - 1) 0) (Free y) → Going c q d k y (j - 1)
  going_on r y j v more room s = record { at_most = omega (arith, v.at_most); reaches = one_digit c (Two q) d (Free r) (Free y) j v.reaches more room s }

  pub some_going : (r : Tuple) (j : ℕ) → Going c q d k r j → SomeFree c r
  some_going r j v = record { x = _; free = v.reaches }

  pub gone : (r : Tuple) (i j : ℕ) → i ≡ j → Going c q d k r j → Ran c (Two q) d k (record { state = Free r; k = i })
  gone r i j e v = record { at_most = omega (arith, e, v.at_most); reaches = subst (λ (n : ℕ). Reaches c (Two q) d (Free r) n) (sym e) v.reaches }

-- a step by the plain sum
plain_step : (c : Curve) (a : Divisor) (s : State) (b : ℕ) (d e : Divisor) (t : State) → GivesIt c s d → StepsPlain c a d b e → Means c t (pair c.prime.m e) → Stepped c a s b t
plain_step c a s b d e t hd he ht k hs = subst (Means c t) (he k (hd _ hs).is).is ht

pub further_by : (c : Curve) (a : Divisor) (l : List ℕ) (k : ℕ) (y : Run) → Ran c a l k y → 0 < y.k → k ≤ length l → (d e : Divisor) (t : State) → GivesIt c y.state d
    → StepsPlain c a d (get_or l (y.k - 1) 0) e → Means c t (pair c.prime.m e) → GoneOn c a l k (record { state = t; k = y.k - 1 })
further_by c a l k y v more room d e t hd he ht = record {
  less = omega (arith, v.at_most);
  reaches = one_digit c a l y.state t y.k v.reaches more (omega (arith, v.at_most)) (plain_step c a y.state (get_or l (y.k - 1) 0) d e t hd he ht);
}

pub further_all : (c : Curve) (a : Divisor) (l : List ℕ) (k : ℕ) (y : Run) → Ran c a l k y → y.k ≡ 0 → 0 < k → GoneOn c a l k y
further_all c a l k y v z more = record { less = omega arith; reaches = v.reaches }
