-- What a partial multiple in code stands for, and what a step on tuples promises.
use Rattle.std.specs.Prelude.{ℕ, ◌≡◌, ◌≢◌, ℤ, ◌+ℤ◌}
use Rattle.rules.specs.Signed.Digits.{value}
use Rattle.algebra.proofs.Zmod.Zmod.{zmod}
use Rattle.algebra.proofs.Zmod.PrimeField.{modulo}
use Rattle.rules.specs.Pair.{Pair, Valid, opposite}
use Rattle.rules.specs.Sum.{sum, double}
use Rattle.rules.proofs.Cantor.Signed.{wholes}
use Rattle.field.specs.declared.Residue.{Residue}
use Rattle.field.specs.Residues.{el, Stands, Settled}
use Rattle.divisor.specs.declared.Divisor.{Divisor}
use Rattle.divisor.specs.declared.Divisor.TheVariants.{Two}
use Rattle.divisor.specs.declared.Quadratic.{Quadratic}
use Rattle.divisor.specs.Divisors.{pair}
use Rattle.curve.specs.declared.Curve.{Curve}
use Rattle.curve.specs.Curves.{curve_of, Holds, Gives}
use Rattle.scalar.specs.Recoded.{digit}
use Rattle.multiple_tuple.specs.declared.Tuple.{Tuple}
use Rattle.multiple_tuple.specs.Tuples.{KeptTuple, Quotients}
use Rattle.multiple_tuple_step.specs.declared.State.{State}
use Rattle.multiple_tuple_step.specs.declared.State.TheVariants.{Free, Plain}

module _ (c : Curve) where
  -- t stands for the valid pair x, on a curve of genus 2
  pub record IsFree (t : Tuple) (x : Pair (modulo c.prime.m.p)) : Type 0 where
    pub genus : c.g ≡ 2
    pub kept : KeptTuple c.prime.m t
    pub quotients : Quotients c.prime.m t x
    pub valid : Valid (curve_of c) x

  abbrev pub Means : State → Pair (modulo c.prime.m.p) → Type 0
  Means (Free t) x = IsFree t x
  Means (Plain d) x = Gives c d x

  -- it stands for some valid pair
  pub record SomeFree (t : Tuple) : Type 0 where
    pub x : Pair (modulo c.prime.m.p)
    pub free : IsFree t x

  pub record Some (s : State) : Type 0 where
    pub x : Pair (modulo c.prime.m.p)
    pub means : Means s x

  abbrev pub GivesIt : State → Divisor → Type 0
  GivesIt s d = (x : Pair (modulo c.prime.m.p)) → Means s x → Gives c d x

  abbrev pub Doubles : State → State → Type 0
  Doubles s r = (x : Pair (modulo c.prime.m.p)) → Means s x → Means r (double (curve_of c) x)

  abbrev pub Adds : State → Divisor → State → Type 0
  Adds s a r = (x : Pair (modulo c.prime.m.p)) → Means s x → Means r (sum (curve_of c) x (pair c.prime.m a))

  -- a multiple of a with one digit more
  abbrev pub Stepped : Divisor → State → ℕ → State → Type 0
  Stepped a s d t = (k : ℤ) → Means s (wholes (curve_of c) k (pair c.prime.m a)) → Means t (wholes (curve_of c) (value (digit d) +ℤ (k +ℤ k)) (pair c.prime.m a))

  -- the curve's own coefficients
  pub record Reads (f2 f3 f4 : Residue) : Type 0 where
    pub second : Stands c.prime.m f2 (el c.prime.m c.f2)
    pub third : Stands c.prime.m f3 (el c.prime.m c.f3)
    pub fourth : Stands c.prime.m f4 (el c.prime.m c.f4)

  -- b is a's opposite
  abbrev pub Opposes : Divisor → Divisor → Type 0
  Opposes a b = Gives c b (opposite (pair c.prime.m a))

  pub record ToClimb (f2 f3 f4 : Residue) (q p : Quadratic) (t : Tuple) : Type 0 where
    pub reads : Reads f2 f3 f4
    pub left : SomeFree t
    pub right : Holds c (Two q)
    pub opposed : Opposes (Two q) (Two p)

  -- a step on tuples alone, where the last Z isn't 0
  pub record Climbed (q : Quadratic) (t : Tuple) (d : ℕ) (r : Tuple) : Type 0 where
    pub settled : Settled c.prime.m r.z
    pub is : el c.prime.m r.z ≢ (zmod c.prime.m.p).zer → Stepped (Two q) (Free t) d (Free r)
