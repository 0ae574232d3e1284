-- The constants of a modulus: 2^64 and its square modulo p.
use Rattle.std.specs.Prelude.{ℕ, ◌+◌, ◌*◌, ◌<◌, ◌≡◌}
use Rattle.algebra.proofs.Zmod.Zmod.{emb}
use Rattle.field_words.specs.Words.{word}
use Rattle.field_words.specs.Reduced.{Turns}

-- r is x modulo p, below p
pub record Same (p x r : ℕ) : Type 0 where
  pub below : r < p
  pub is : emb p r ≡ emb p x

pub record Words (p r : ℕ) : Type 0 where
  pub below : r < p
  pub is : emb p r ≡ emb p word

pub record ToSquare (p q one : ℕ) : Type 0 where
  pub turns : Turns p q
  pub words : Words p one

pub record Squared (p r : ℕ) : Type 0 where
  pub below : r < p + p
  pub is : emb p r ≡ emb p (word * word)
