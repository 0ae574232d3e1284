-- A modulus made of a number.
use Rattle.std.specs.Prelude.{ℕ, ◌≡◌}
use Rattle.field.specs.declared.Modulus.{Modulus}
pub use Rattle.field.specs.Numbers.{Odd}

pub record OfNumber (p : ℕ) (m : Modulus) : Type 0 where
  pub is : m.p ≡ p
