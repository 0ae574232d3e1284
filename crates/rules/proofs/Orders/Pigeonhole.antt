-- The pigeonhole principle: no k + 1 numbers below k are all different.
use Prim.Native.Nat.{ℕ, zero, suc, ◌≤◌, ◌<◌}
use mathlib.Core.Path.{◌≡◌, sym, ◌∙◌}
use mathlib.Core.Logic.{◌≢◌}
use native.Mathlib.Decide.{ℕ_discrete}
use native.Mathlib.Omega.{arith}

-- x, but v in the place of k
abbrev put : (k v x : ℕ) → Dec (x ≡ k) → ℕ
put k v x (yes e) = v
put k v x (no n) = x

pub pigeonhole : (k : ℕ) (f : ℕ → ℕ) → ((i : ℕ) → i ≤ k → f i < k) → ((i j : ℕ) → i < j → j ≤ k → f i ≢ f j) → ⊥
pigeonhole zero f below apart = omega (arith, below 0 (omega arith))
-- the last, f (k + 1), goes where k stands among the others, which are then below k
pigeonhole (suc k) f below apart =
    pigeonhole k (λ i. put k (f (suc k)) (f i) (ℕ_discrete (f i) k)) (λ i l. less i l (ℕ_discrete (f i) k)) (λ i j l h. differ i j l h (ℕ_discrete (f i) k) (ℕ_discrete (f j) k))
  where
    last : (i : ℕ) → i ≤ k → f i ≢ f (suc k)
    last i l = apart i (suc k) (omega arith) (omega arith)

    less : (i : ℕ) → i ≤ k → (d : Dec (f i ≡ k)) → put k (f (suc k)) (f i) d < k
    less i l (yes e) = omega (arith, last i l, below (suc k) (omega arith))
    less i l (no n) = omega (arith, below i (omega arith))

    differ : (i j : ℕ) → i < j → j ≤ k → (d : Dec (f i ≡ k)) (e : Dec (f j ≡ k)) → put k (f (suc k)) (f i) d ≢ put k (f (suc k)) (f j) e
    differ i j l h (yes d) (yes e) same = apart i j l (omega arith) (d ∙ sym e)
    differ i j l h (yes d) (no e) same = last j h (sym same)
    differ i j l h (no d) (yes e) same = last i (omega arith) same
    differ i j l h (no d) (no e) same = apart i j l (omega arith) same
