-- The almost inverse: s with a · s = 2^k modulo p.
use Rattle.std.specs.Prelude.{ℕ, ◌+◌, ◌^◌, ◌≤◌, ◌<◌, ◌≡◌, ◌≢◌}
use Rattle.algebra.proofs.Zmod.Prime.{Prime}
use Rattle.algebra.proofs.Zmod.Zmod.{zmod, emb}
use Rattle.field_words.specs.Reduced.{top}
use Rattle.field_montgomery.specs.declared.halving.Shifted.{Shifted}

pub record Invertible (p a : ℕ) : Type 0 where
  pub prime : Prime p
  pub most : p ≤ top
  pub below : a < p + p
  pub nonzero : emb p a ≢ (zmod p).zer

pub record AlmostIs (p a : ℕ) (x : Shifted) : Type 0 where
  pub small : x.s ≤ p
  pub few : x.k < 128
  pub is : (zmod p).mul (emb p a) (emb p x.s) ≡ emb p (2 ^ x.k)
