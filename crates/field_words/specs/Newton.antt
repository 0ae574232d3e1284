-- Newton's step modulo 2^64, and the twos in a number.
use Rattle.std.specs.Prelude.{◌≡◌, ℕ, ◌*◌, ◌/◌, ◌%◌, ◌^◌, ◌<◌}
use Rattle.algebra.proofs.Zmod.Zmod.{zmod, emb}
use Rattle.field_words.specs.Words.{word}

-- how far x is from 1/p modulo 2^64
abbrev pub error : ℕ → ℕ → (zmod word).El
error p x = (zmod word).add (zmod word).one ((zmod word).neg ((zmod word).mul (emb word p) (emb word x)))

pub record Closer (p x r : ℕ) : Type 0 where
  pub is : error p r ≡ (zmod word).mul (error p x) (error p x)

-- 2 divides n k times and no more
pub record Zeros (n k : ℕ) : Type 0 where
  pub small : k < 64
  pub whole : n / 2 ^ k * 2 ^ k ≡ n
  pub all : n / 2 ^ k % 2 ≡ 1
