-- The multiple by the digits passed so far, as the engine keeps it: what the loop over a scalar's digits keeps, from the highest to the lowest.
use Prim.Native.Nat.{ℕ, ◌-◌, ◌≤◌, ◌<◌}
use mathlib.Core.Path.{◌≡◌, sym, ap, ◌∙◌, subst}
use mathlib.Core.List.{List}
use native.Mathlib.Omega.{arith}
use lib.ListN.{length, get_or}
use lib.IntN.{ℤ}
use Rattle.rules.specs.Multiple.{multiple}
use Rattle.rules.proofs.Cantor.Signed.{wholes}
use Rattle.divisor.specs.declared.Divisor.{Divisor}
use Rattle.divisor.specs.Divisors.{pair}
use Rattle.curve.specs.declared.Curve.{Curve}
use Rattle.curve.specs.Curves.{curve_of, Holds, Gives}
use Rattle.scalar.specs.declared.Digits.{Digits}
use Rattle.scalar.specs.Recoded.{upper, Recoded}
use Rattle.scalar.proofs.Upper.{upper-more, upper_all, upper_first}
use Rattle.multiple_affine.proofs.promise.Folds.{itself}
use Rattle.multiple_tuple_step.specs.declared.State.{State}
use Rattle.multiple.specs.declared.Run.{Run}
use Rattle.multiple_tuple_step.specs.States.{Means, Some, GivesIt, Stepped}
use Rattle.multiple.specs.Runs.{Reaches, GoneOn}

pub record Running (c : Curve) (a : Divisor) (d : List ℕ) (l : ℕ) (r : State) (k : ℕ) : Type 0 where
  pub place : k < l
  pub means : Reaches c a d r k

module _ (c : Curve) (a : Divisor) where
  same : (r : State) {x y : ℤ} → x ≡ y → Means c r (wholes (curve_of c) x (pair c.prime.m a)) → Means c r (wholes (curve_of c) y (pair c.prime.m a))
  same r e g = subst (λ (k : ℤ). Means c r (wholes (curve_of c) k (pair c.prime.m a))) e g

  module _ (d : List ℕ) where
    pub one_digit : (r t : State) (k : ℕ) → Reaches c a d r k → 0 < k → k ≤ length d → Stepped c a r (get_or d (k - 1) 0) t → Reaches c a d t (k - 1)
    one_digit r t k v more room s = same t (upper-more d k more room) (s (upper d k) v)

    pub some_at : (r : State) (k : ℕ) → Reaches c a d r k → Some c r
    some_at r k v = record { x = _; means = v }

    pub turn : (l : ℕ) (r : State) (k : ℕ) → Running c a d l r k → (x : Run) → GoneOn c a d k x → Running c a d l x.state x.k
    turn l r k v x g = record { place = omega (arith, v.place, g.less); means = g.reaches }

  module _ (n : ℕ) (x : Digits) (hx : Recoded n x) where
    pub begin : Holds c a → 0 < x.length → (r : State) → Means c r (pair c.prime.m a) → Running c a x.at x.length r (x.length - 1)
    begin ha some r y = record { place = omega arith; means = same r (sym (upper_first n x hx some)) (subst (Means c r) (itself c a ha).is y) }

    pub end : (r : State) (k : ℕ) → Running c a x.at x.length r k → k ≤ 0 → (d : Divisor) → GivesIt c r d → Gives c d (multiple (curve_of c) n (pair c.prime.m a))
    end r k v z d g = g _ (same r (ap (upper x.at) {x = k} {y = 0} (omega arith) ∙ upper_all n x hx) v.means)
