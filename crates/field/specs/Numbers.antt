-- Which numbers may be a modulus, and its constants in Montgomery's form with R = 2^64.
use Rattle.std.specs.Prelude.{ℕ, ◌+◌, ◌*◌, ◌%◌, ◌≤◌, ◌≡◌}
use Rattle.field_words.specs.Words.{word}
use Rattle.field_words.specs.Reduced.{top}

pub record Odd (p : ℕ) : Type 0 where
  pub from : 3 ≤ p
  pub most : p ≤ top
  pub odd : p % 2 ≡ 1

pub record Constants (p twice turn one square cube : ℕ) : Type 0 where
  pub twice_is : twice ≡ p + p
  pub turn_is : p * turn % word ≡ 1
  pub one_is : one ≡ word % p
  pub square_is : square ≡ word * word % p
  pub cube_is : cube ≡ word * word * word % p
