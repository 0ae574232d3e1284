-- Abelian groups. Gives: the record `AbGroup` of a group with its laws, and the first consequences.
use mathlib.Core.Path.{◌≡◌, sym, ap, ◌∙◌}

pub record AbGroup : Type 1 where
  pub El : Type 0
  pub is_set : IsSet El
  pub sum : El → El → El
  pub zer : El
  pub opp : El → El
  pub comm : (a b : El) → sum a b ≡ sum b a
  pub assoc : (a b c : El) → sum (sum a b) c ≡ sum a (sum b c)
  pub zer_sum : (a : El) → sum zer a ≡ a
  pub sum_opp : (a : El) → sum a (opp a) ≡ zer

module _ (G : AbGroup) where
  open G use {El as A, sum as ◌⊕◌, zer as 𝟘, opp, comm, assoc, zer_sum, sum_opp}

  infixl 65 ◌⊕◌
  pub sum_zer : (a : A) → a ⊕ 𝟘 ≡ a
  sum_zer a = comm a 𝟘 ∙ zer_sum a

  pub left_comm : (a b c : A) → a ⊕ (b ⊕ c) ≡ b ⊕ (a ⊕ c)
  left_comm a b c = sym (assoc a b c) ∙ ap (λ t. t ⊕ c) (comm a b) ∙ assoc b a c

  pub cancel : (a b c : A) → a ⊕ c ≡ b ⊕ c → a ≡ b
  cancel a b c e = sym (drop a) ∙ ap (λ t. t ⊕ opp c) e ∙ drop b
    where
      drop : (x : A) → x ⊕ c ⊕ opp c ≡ x
      drop x = assoc x c (opp c) ∙ ap (λ t. x ⊕ t) (sum_opp c) ∙ sum_zer x
