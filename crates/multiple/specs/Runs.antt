-- What a run of digits promises.
use Rattle.std.specs.Prelude.{ℕ, ◌≤◌, ◌<◌, List, length}
use Rattle.rules.proofs.Cantor.Signed.{wholes}
use Rattle.divisor.specs.declared.Divisor.{Divisor}
use Rattle.divisor.specs.Divisors.{pair}
use Rattle.curve.specs.declared.Curve.{Curve}
use Rattle.curve.specs.Curves.{curve_of, Holds}
use Rattle.scalar.specs.Recoded.{upper}
use Rattle.multiple_tuple_step.specs.declared.State.{State}
use Rattle.multiple_tuple_step.specs.States.{Means, Opposes}
use Rattle.multiple.specs.declared.Run.{Run}

module _ (c : Curve) where
  -- s stands for the multiple of a by the digits from place k on
  abbrev pub Reaches : Divisor → List ℕ → State → ℕ → Type 0
  Reaches a d s k = Means c s (wholes (curve_of c) (upper d k) (pair c.prime.m a))

  pub record ToRun (a b : Divisor) (d : List ℕ) (r : State) (k : ℕ) : Type 0 where
    pub right : Holds c a
    pub opposed : Opposes c a b
    pub place : k ≤ length d
    pub reaches : Reaches a d r k

  -- some digits taken, or none
  pub record Ran (a : Divisor) (d : List ℕ) (k : ℕ) (x : Run) : Type 0 where
    pub at_most : x.k ≤ k
    pub reaches : Reaches a d x.state x.k

  -- one at least
  pub record GoneOn (a : Divisor) (d : List ℕ) (k : ℕ) (x : Run) : Type 0 where
    pub less : x.k < k
    pub reaches : Reaches a d x.state x.k
