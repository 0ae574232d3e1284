-- W-213: squares modulo p, and the roots of a quadratic, as elements of Z/p: what the calls of this crate ask and promise.
use Rattle.std.specs.Prelude.{ℕ, Option, Some, None, ◌≤◌, ◌<◌, ◌≡◌, ◌≢◌, [], ◌∷◌}
use Rattle.algebra.proofs.Zmod.Zmod.{zmod, emb}
use Rattle.field.specs.declared.Modulus.{Modulus}
use Rattle.field.specs.declared.Residue.{Residue}
use Rattle.field.specs.Residues.{el, Kept, HasInverse}
use Rattle.rules.specs.Roots.Roots.{value}

-- x is a square
abbrev pub Square : (p : ℕ) → (zmod p).El → Type 0
Square p x = (s : (zmod p).El) × ((zmod p).mul s s ≡ x)

-- z is the least of 2, 3, 4, .. that isn't a square
pub record LeastNonsquare (m : Modulus) (z : Residue) : Type 0 where
  pub kept : Kept m z
  pub n : ℕ
  pub is : el m z ≡ emb m.p n
  pub from : 2 ≤ n
  pub below : n < m.p
  pub nonsquare : Square m.p (emb m.p n) → ⊥
  pub least : (k : ℕ) → 2 ≤ k → k < n → Square m.p (emb m.p k)

-- what has a root, other than 0, and a root of it
pub record ToRoot (m : Modulus) (a : Residue) : Type 0 where
  pub unit : HasInverse m a
  pub square : Square m.p (el m a)

pub record RootOf (m : Modulus) (a r : Residue) : Type 0 where
  pub kept : Kept m r
  pub is : (zmod m.p).mul (el m r) (el m r) ≡ el m a

abbrev pub RootIs : Modulus → Residue → Option Residue → Type 0
RootIs m a (Some r) = RootOf m a r
RootIs m a None = Square m.p (el m a) → ⊥

-- x² + b x + c is (x - r) (x - t)
pub record Splits (m : Modulus) (b c r t : Residue) : Type 0 where
  pub kept_r : Kept m r
  pub kept_t : Kept m t
  pub sum : (zmod m.p).add (el m r) (el m t) ≡ (zmod m.p).neg (el m b)
  pub product : (zmod m.p).mul (el m r) (el m t) ≡ el m c

-- both its roots, or it has none
abbrev pub RootsAre : Modulus → Residue → Residue → Option (Residue × Residue) → Type 0
RootsAre m b c (Some (r, t)) = Splits m b c r t
RootsAre m b c None = (y : (zmod m.p).El) → value (zmod m.p) (el m c ∷ el m b ∷ []) y ≢ (zmod m.p).zer
