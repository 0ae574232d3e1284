-- What it says that a rule took what it read: each of its tests passed (`passed`, `missed`), and so both parts of a `both`, one of an `either`.
use Prim.Native.Nat.{ℕ}
use mathlib.Core.Path.{◌≡◌, refl}
use mathlib.Core.Bool.{Bool, true, false, false≢true}
use mathlib.Core.Logic.{◌⊎◌, inl, inr}
use native.Mathlib.Omega.{arith}
use Rattle.rules.specs.Checks.{Checked, refused, taken, choose}
use Rattle.rules.specs.Records.{both, either}

module _ {A : Type 0} where
  pub refused_taken : {n k : ℕ} {a : A} → refused n k ≡ taken a → ⊥
  refused_taken {n} {k} {a} e = let z : ◌≡◌ {A = ℕ} 0 1 = cc in omega arith

  pub taken_inj : {a b : A} → taken a ≡ taken b → a ≡ b
  taken_inj e = cc

  abbrev pub was_taken : Checked A → Bool
  was_taken (refused n k) = false
  was_taken (taken a) = true

  pub is_taken : (x : Checked A) → was_taken x ≡ true → (a : A) × (x ≡ taken a)
  is_taken (refused n k) h = absurd (false≢true h)
  is_taken (taken a) h = (a, refl)

  -- the test that refuses n where it fails passed
  pub passed : (b : Bool) (x : Checked A) (n k : ℕ) {a : A} → choose b x (refused n k) ≡ taken a → (b ≡ true) × (x ≡ taken a)
  passed true x n k e = (refl, e)
  passed false x n k e = absurd (refused_taken e)

pub both_true : (a b : Bool) → both a b ≡ true → (a ≡ true) × (b ≡ true)
both_true true b e = (refl, e)
both_true false b e = absurd (false≢true e)

pub true_both : {a b : Bool} → a ≡ true → b ≡ true → both a b ≡ true
true_both e h = rw (e, h)

pub either_true : (a b : Bool) → either a b ≡ true → (a ≡ true) ⊎ (b ≡ true)
either_true true b e = inl refl
either_true false b e = inr e
