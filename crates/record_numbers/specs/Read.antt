-- What reading numbers in a row promises: the rules' tests on the same bytes, and residues that hold them.
use Rattle.std.specs.Prelude.{ℕ, ◌+◌, ◌*◌, ◌<◌, ◌≡◌, true, false, Option, Some, None, List, get_or, length}
use Rattle.algebra.proofs.Zmod.Zmod.{emb}
use Rattle.rules.specs.Bytes.{word64, words}
use Rattle.rules.specs.Records.{is_below}
use Rattle.field.specs.declared.Modulus.{Modulus}
use Rattle.field.specs.declared.Residue.{Residue}
use Rattle.field.specs.Residues.{Settled, Settles}

-- r holds the n numbers from place a on, which are below p
pub record ResiduesHeld (s : List ℕ) (a n : ℕ) (m : Modulus) (r : List Residue) : Type 0 where
  pub long : length r ≡ 6
  pub settled : (k : ℕ) (z : Residue) → k < 6 → Settled m (get_or r k z)
  pub below : is_below m.p (words s a n) ≡ true
  pub held : (k : ℕ) (z : Residue) → k < n → Settles m (get_or r k z) (emb m.p (word64 s (a + 8 * k)))

abbrev pub ResiduesIs : List ℕ → ℕ → ℕ → Modulus → Option (List Residue) → Type 0
ResiduesIs s a n m (Some r) = ResiduesHeld s a n m r
ResiduesIs s a n m None = is_below m.p (words s a n) ≡ false
