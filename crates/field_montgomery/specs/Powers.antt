-- Powers in Montgomery's form, and what ends an inverse.
use Rattle.std.specs.Prelude.{ℕ, ◌+◌, ◌*◌, ◌^◌, ◌≤◌, ◌<◌, ◌≡◌}
use Rattle.algebra.proofs.Ring.Power.{power}
use Rattle.algebra.proofs.Zmod.Zmod.{zmod, emb}
use Rattle.field_words.specs.Words.{word}
use Rattle.field_words.specs.Reduced.{Turns}
use Rattle.field_montgomery.specs.Back.{element}

pub record ToPower (p q one a : ℕ) : Type 0 where
  pub turns : Turns p q
  pub one_below : one < p
  pub one_is : emb p one ≡ emb p word
  pub below : a < p + p

pub record Powered (p q a n r : ℕ) : Type 0 where
  pub below : r < p + p
  pub is : element p q r ≡ power (zmod p) (element p q a) n

pub record ToFinish (p q square cube s k : ℕ) : Type 0 where
  pub turns : Turns p q
  pub square_below : square < p
  pub square_is : emb p square ≡ emb p (word * word)
  pub cube_below : cube < p
  pub cube_is : emb p cube ≡ emb p (word * word * word)
  pub small : s ≤ p
  pub few : k < 128

-- r is s · 2^(128 - k), below 2p
pub record Finished (p s k r : ℕ) : Type 0 where
  pub below : r < p + p
  pub factor : (zmod p).El
  pub factor_is : (zmod p).mul factor (emb p (2 ^ k)) ≡ emb p (word * word)
  pub is : emb p r ≡ (zmod p).mul (emb p s) factor
