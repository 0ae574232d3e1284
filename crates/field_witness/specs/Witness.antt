-- W-201: a witness that p is prime, as the tests of crate `orders` have it, with the limits of the record: each listed prime below 2^31, the base below p.
use Rattle.std.specs.Prelude.{ℕ, ◌<◌, ◌≡◌, Bool, true, List, [], ◌∷◌}
use Rattle.algebra.proofs.Ring.Power.{has_power_one}
use Rattle.algebra.proofs.Zmod.Prime.{Prime}
use Rattle.algebra.proofs.Zmod.PrimeField.{modulo}
use Rattle.field.specs.declared.Modulus.{Modulus}
use Rattle.field.specs.declared.Residue.{Residue}
use Rattle.field.specs.Residues.{el}
use Rattle.rules.specs.Orders.Tests.{strip, is_made_of, is_none_below, is_lucas}

pub record SmallPrime (q : ℕ) : Type 0 where
  pub is : Prime q
  pub small : q < 2147483648

-- n divided by q as often as it goes
pub record Stripped (n q r : ℕ) : Type 0 where
  pub is : r ≡ strip n q n
  pub some : 0 < r

abbrev pub AllSmall : List ℕ → Type 0
AllSmall [] = Unit {0}
AllSmall (q ∷ l) = (q < 2147483648) × AllSmall l

abbrev pub AllSome : List ℕ → Type 0
AllSome [] = Unit {0}
AllSome (q ∷ l) = (0 < q) × AllSome l

pub record MadeOf (n : ℕ) (l : List ℕ) : Type 0 where
  pub is : is_made_of 0 n l ≡ true
  pub small : AllSmall l

-- the test of `orders`, of the powers of a
pub record NoneBelow (m : Modulus) (a : Residue) (n : ℕ) (l : List ℕ) (r : Bool) : Type 0 where
  pub is : r ≡ is_none_below (has_power_one (modulo m.p) (el m a)) n l

pub record Witnessed (p a : ℕ) (l : List ℕ) : Type 0 where
  pub below : a < p
  pub is : is_lucas p a l ≡ true
  pub small : AllSmall l
