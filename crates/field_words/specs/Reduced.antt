-- Montgomery's reduction with R = 2^64.
use Rattle.std.specs.Prelude.{◌≡◌, ℕ, ◌+◌, ◌*◌, ◌%◌, ◌<◌, ◌≤◌}
use Rattle.algebra.proofs.Zmod.Zmod.{zmod, emb}
use Rattle.field_words.specs.Words.{word}

-- the largest modulus, 2^61 - 1: half-reduced numbers have room in a word
abbrev pub top : ℕ
top = 2305843009213693951

-- q is the inverse of p modulo 2^64, and p within the limit
pub record Turns (p q : ℕ) : Type 0 where
  pub some : 0 < p
  pub most : p ≤ top
  pub turn : p * q % word ≡ 1

-- what may be reduced
pub record Reducible (p q t : ℕ) : Type 0 where
  pub turns : Turns p q
  pub small : t < p * word

-- r is t over 2^64 modulo p, below 2p
pub record Reduced (p t r : ℕ) : Type 0 where
  pub below : r < p + p
  pub is : emb p t ≡ (zmod p).mul (emb p r) (emb p word)
