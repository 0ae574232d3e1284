-- Running sums side by side, the lanes: a divisor that waits to be added to its lane, and what the first n of a row of divisors come to.
use Rattle.std.specs.Prelude.{ℕ, zero, suc, ◌<◌, ◌≡◌, List, get_or}
use Rattle.algebra.proofs.Zmod.Zmod.{zmod}
use Rattle.algebra.proofs.Zmod.PrimeField.{modulo}
use Rattle.rules.specs.Pair.{Pair, neutral}
use Rattle.rules.specs.Sum.{sum}
use Rattle.field.specs.declared.Modulus.{Modulus}
use Rattle.field.specs.declared.Residue.{Residue}
use Rattle.field.specs.Residues.{el, Kept}
use Rattle.divisor.specs.declared.Divisor.{Divisor}
use Rattle.divisor.specs.declared.Divisor.TheVariants.{Neutral}
use Rattle.divisor.specs.Divisors.{pair}
use Rattle.curve.specs.declared.Curve.{Curve}
use Rattle.curve.specs.Curves.{curve_of, Holds}
use Rattle.sum_lanes.specs.declared.openings.Opening.TheVariants.{Special}
use Rattle.sum_lanes.specs.openings.Openings.{Opened, Under}
use Rattle.sum_lanes.specs.declared.Waiting.{Waiting}

-- opened from its lane and itself
pub record Waits (c : Curve) (lane : Divisor) (w : Waiting) : Type 0 where
  pub holds : Holds c w.d
  pub opened : Opened c lane w.d w.o
  pub under : Under c.prime.m w.o w.f

-- back is 1 over the product of what it divides by and what those before it do
pub record Backs (m : Modulus) (w : Waiting) (back : Residue) : Type 0 where
  pub before : Kept m w.before
  pub kept : Kept m back
  pub is : (zmod m.p).mul (el m back) ((zmod m.p).mul (el m w.before) (el m w.f)) ≡ (zmod m.p).one

-- neutral, and the first n of a row added one after the other
abbrev pub together : (c : Curve) → (ℕ → Divisor) → ℕ → Pair (modulo c.prime.m.p)
together c d zero = neutral
together c d (suc n) = sum (curve_of c) (together c d n) (pair c.prime.m (d n))

abbrev pub AllHold : (c : Curve) → (ℕ → Divisor) → ℕ → Type 0
AllHold c d n = (k : ℕ) → k < n → Holds c (d k)

abbrev pub lane : List Divisor → ℕ → Divisor
lane l k = get_or l k Neutral

-- behind the end stands nothing
abbrev pub nobody : Waiting
nobody = record { d = Neutral; o = Special; f = record { 0 = 0 }; before = record { 0 = 0 } }

abbrev pub waiter : List Waiting → ℕ → Divisor
waiter l k = (get_or l k nobody).d
