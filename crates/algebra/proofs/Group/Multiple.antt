-- n-fold multiples in an abelian group: n copies summed. Gives: (m + n)-fold and mn-fold.
-- Open: `nfold`.
use Prim.Native.Nat.{ℕ, zero, suc, ◌+◌, ◌*◌}
use mathlib.Core.Path.{◌≡◌, sym, ap, ◌∙◌}
use native.Mathlib.Omega.{arith}
use native.Mathlib.Nat.{suc-mul, zero-mul, add-zero}
use Rattle.algebra.proofs.Group.Group.{AbGroup, sum_zer}

module _ (G : AbGroup) where
  open G use {El as A, sum as ◌⊕◌, zer as 𝟘, assoc}

  infixl 65 ◌⊕◌
  abbrev pub nfold : ℕ → A → A
  nfold zero a = 𝟘
  nfold (suc n) a = nfold n a ⊕ a

  pub nfold_add : (m n : ℕ) (a : A) → nfold (m + n) a ≡ nfold m a ⊕ nfold n a
  nfold_add m zero a = ap (λ k. nfold k a) (add-zero m) ∙ sym (sum_zer G (nfold m a))
  nfold_add m (suc n) a = ap (λ k. nfold k a) out ∙ ap (λ t. t ⊕ a) (nfold_add m n a) ∙ assoc (nfold m a) (nfold n a) a
    where
      out : m + suc n ≡ suc (m + n)
      out = omega arith

  pub nfold_mul : (m n : ℕ) (a : A) → nfold (m * n) a ≡ nfold m (nfold n a)
  nfold_mul zero n a = ap (λ k. nfold k a) (zero-mul n)
  nfold_mul (suc m) n a = ap (λ k. nfold k a) (suc-mul m n) ∙ nfold_add (m * n) n a ∙ ap (λ t. t ⊕ nfold n a) (nfold_mul m n a)
