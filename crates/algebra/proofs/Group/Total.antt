-- The total of a list in an abelian group: from the neutral element, each added from first to last. Gives: it is the same in any order
-- (`total_perm`), and the sum of the totals of its two parts wherever it is cut (`total_append`).
-- Open: `total`.
use mathlib.Core.Path.{◌≡◌, refl, sym, ap, ap₂, ◌∙◌}
use mathlib.Core.List.{List, [], ◌∷◌, ◌++◌, foldl, Perm, Permᴰ}
use mathlib.Core.Logic.{∥∥₁_elim}
use Rattle.algebra.proofs.Group.Group.{AbGroup, sum_zer, left_comm}

module _ (G : AbGroup) where
  open G use {El as A, sum as ◌⊕◌, zer as 𝟘, assoc, zer_sum}

  infixl 65 ◌⊕◌
  abbrev pub total : List A → A
  total l = foldl ◌⊕◌ 𝟘 l

  total_from : (a : A) (l : List A) → foldl ◌⊕◌ a l ≡ a ⊕ total l
  total_from a [] = sym (sum_zer G a)
  total_from a (x ∷ l) = total_from (a ⊕ x) l ∙ assoc a x (total l) ∙ ap (λ t. a ⊕ t) (sym (total_from (𝟘 ⊕ x) l ∙ ap (λ t. t ⊕ total l) (zer_sum x)))

  total_cons : (x : A) (l : List A) → total (x ∷ l) ≡ x ⊕ total l
  total_cons x l = total_from (𝟘 ⊕ x) l ∙ ap (λ t. t ⊕ total l) (zer_sum x)

  -- in any order
  total_permᴰ : {l m : List A} → Permᴰ l m → total l ≡ total m
  total_permᴰ Permᴰ.nil = refl
  total_permᴰ (Permᴰ.cons {a = a} {b = b} {l₁ = l} {l₂ = m} e d) = total_cons a l ∙ ap₂ ◌⊕◌ e (total_permᴰ d) ∙ sym (total_cons b m)
  total_permᴰ (Permᴰ.swap {a = a} {b = b} {a' = a'} {b' = b'} {l = l} e h) =
      total_cons a (b ∷ l) ∙ ap (λ t. a ⊕ t) (total_cons b l) ∙ left_comm G a b (total l) ∙ ap₂ (λ s t. s ⊕ (t ⊕ total l)) h e
      ∙ sym (total_cons a' (b' ∷ l) ∙ ap (λ t. a' ⊕ t) (total_cons b' l))
  total_permᴰ (Permᴰ.trans d e) = total_permᴰ d ∙ total_permᴰ e

  pub total_perm : {l m : List A} → Perm l m → total l ≡ total m
  total_perm {l} {m} p = ∥∥₁_elim p (G.is_set (total l) (total m)) total_permᴰ

  -- by parts
  pub total_append : (l m : List A) → total (l ++ m) ≡ total l ⊕ total m
  total_append [] m = sym (zer_sum (total m))
  total_append (x ∷ l) m = total_cons x (l ++ m) ∙ ap (λ t. x ⊕ t) (total_append l m) ∙ sym (assoc x (total l) (total m)) ∙ ap (λ t. t ⊕ total m) (sym (total_cons x l))
