-- L4, the rule's reduction. Gives: `Reduces n a b`, that the while loop goes from a to b in exactly n turns, which doesn't speak of a bound
-- on the turns; that `reduction` is that loop, ends on the curve with a degree of at most g, and stays in the class; from degree
-- at most 2g it takes at most ⌈g/2⌉ turns (`few`), which is at most g - 1 for g ≥ 2.
use Prim.Native.Nat.{ℕ, zero, suc, ◌+◌, ◌/◌, ◌≤◌, ◌<◌, zero-le}
use mathlib.Core.Path.{◌≡◌}
use native.Mathlib.Omega.{arith}
use native.Mathlib.Decide.{dec_le}
use lib.ListN.{length}
use Rattle.algebra.proofs.Ideal.Class.{Same, same_of, same_trans}
use Rattle.rules.specs.Curve.{Curve}
use Rattle.rules.specs.Pair.{Pair}
use Rattle.rules.specs.Sum.{step, reduce_at_most, reduction}
use Rattle.rules.proofs.Cantor.Accepted.{OverField}
use Rattle.rules.proofs.Cantor.Pairs.{On}
use Rattle.rules.proofs.Cantor.Step.{Kxy, ideal_of, step_on, step_class, step_small}

pub data Reduces (E : Curve) : ℕ → Pair E.K → Pair E.K → Type 0 where
  stop : {a : Pair E.K} → length a.u ≤ E.g → Reduces E 0 a a
  turn : {n : ℕ} {a b : Pair E.K} → E.g < length a.u → Reduces E n (step E a) b → Reduces E (suc n) a b

module _ (E : Curve) (o : OverField E) (odd : length E.low ≡ suc (E.g + E.g)) where
  -- from degree at most g + 2t, at most t turns
  pub record Reduced (t : ℕ) (a b : Pair E.K) : Type 0 where
    pub turns : ℕ
    pub loop : Reduces E turns a b
    pub at_most : turns ≤ t
    pub on_curve : On E b
    pub short : length b.u ≤ E.g
    pub same : Same (Kxy E) (ideal_of E a) (ideal_of E b)

  done : (t : ℕ) (a : Pair E.K) → On E a → length a.u ≤ E.g → Reduced t a a
  done t a h l = record { turns = 0; loop = stop l; at_most = zero-le; on_curve = h; short = l; same = same_of (Kxy E) (λ x i. i) (λ x i. i) }

  reduce_at_most_is : (n t : ℕ) (a : Pair E.K) → On E a → length a.u ≤ E.g + (n + n) → length a.u ≤ E.g + (t + t) → Reduced t a (reduce_at_most E n a)
  unfolding reduce_at_most
  reduce_at_most_is zero t a h ln lt = done t a h (omega arith)
  reduce_at_most_is (suc n) zero a h ln lt = go (dec_le (length a.u) E.g)
    where
      go : (d : Dec (length a.u ≤ E.g)) → Reduced zero a (elim d [ yes l ↦ a | no l ↦ reduce_at_most E n (step E a) ])
      go (yes s) = done zero a h s
      go (no s) = absurd (omega arith)
  reduce_at_most_is (suc n) (suc t) a h ln lt = go (dec_le (length a.u) E.g)
      (λ big. reduce_at_most_is n t (step E a) (step_on E o odd a h) (step_small E o odd a h n big ln) (step_small E o odd a h t big lt))
    where
      go : (d : Dec (length a.u ≤ E.g)) → (E.g < length a.u → Reduced t (step E a) (reduce_at_most E n (step E a)))
          → Reduced (suc t) a (elim d [ yes l ↦ a | no l ↦ reduce_at_most E n (step E a) ])
      go (yes s) rec = done (suc t) a h s
      go (no s) rec = let big : E.g < length a.u = omega arith in let r : Reduced t (step E a) (reduce_at_most E n (step E a)) = rec big in
          record {
            turns = suc r.turns;
            loop = turn big r.loop;
            at_most = omega arith;
            on_curve = r.on_curve;
            short = r.short;
            same = same_trans (Kxy E) (step_class E o odd a h) r.same;
          }

  pub reduction_is : (t : ℕ) (a : Pair E.K) → On E a → length a.u ≤ E.g + (t + t) → Reduced t a (reduction E a)
  unfolding reduction
  reduction_is t a h l = reduce_at_most_is (length a.u) t a h (omega arith) l

  -- from degree at most 2g
  pub few : (a : Pair E.K) → On E a → length a.u ≤ E.g + E.g → Reduced ((E.g + 1) / 2) a (reduction E a)
  few a h l = reduction_is ((E.g + 1) / 2) a h (omega arith)
