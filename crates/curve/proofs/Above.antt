-- A curve's coefficients as its genus has them: what holds of f_0 to f_4 and so many of f_5 and f_6 as genus g has, on a curve of genus g, holds of the curve's own (`of_genus`).
use Prim.Native.Nat.{ℕ, ◌+◌, ◌-◌}
use mathlib.Core.Path.{◌≡◌, sym, subst}
use mathlib.Core.List.{List, [], ◌∷◌}
use lib.ListN.{take}
use Rattle.algebra.proofs.Zmod.Zmod.{zmod}
use Rattle.divisor.specs.Divisors.{elements}
use Rattle.curve.specs.declared.Curve.{Curve}
use Rattle.curve.specs.Curves.{lows}

module _ (c : Curve) where
  -- n of f_5 and f_6
  abbrev pub up_to : ℕ → List (zmod c.prime.m.p).El
  up_to n = elements c.prime.m (c.f0 ∷ c.f1 ∷ c.f2 ∷ c.f3 ∷ c.f4 ∷ take n (c.f5 ∷ c.f6 ∷ []))

  pub of_genus : (T : ℕ → List (zmod c.prime.m.p).El → Type 0) (g : ℕ) → c.g ≡ g → T g (up_to (g + g - 4)) → T c.g (elements c.prime.m (lows c))
  of_genus T g e x = subst (λ (k : ℕ). T k (up_to (k + k - 4))) (sym e) x
