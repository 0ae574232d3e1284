-- Multiples by whole numbers in an abelian group: the n-fold for n, its opposite for -n. Gives: (j + k)-fold (`whole_add`).
-- Open: `whole`.
use Prim.Native.Nat.{ℕ, zero, suc}
use mathlib.Core.Path.{◌≡◌, refl, sym, ap, ◌∙◌}
use lib.IntN.{ℤ, pos, negsuc, suc_ℤ, suc-pred, neg_ℤ, ◌+ℤ◌, +ℤ_idr, +ℤ_one, -ℤ_one, +ℤ_assoc, ℤ_ind}
use Rattle.algebra.proofs.Group.Group.{AbGroup, sum_zer, cancel}
use Rattle.algebra.proofs.Group.Multiple.{nfold}

module _ (G : AbGroup) where
  open G use {El as A, sum as ◌⊕◌, zer as 𝟘, opp, comm, assoc, zer_sum, sum_opp}

  infixl 65 ◌⊕◌
  abbrev pub whole : ℤ → A → A
  whole (pos n) a = nfold G n a
  whole (negsuc n) a = opp (nfold G (suc n) a)

  -- ---- one more, and one less
  opp_sum : (x : A) → opp x ⊕ x ≡ 𝟘
  opp_sum x = comm (opp x) x ∙ sum_opp x

  opp_more : (x a : A) → opp (x ⊕ a) ⊕ a ≡ opp x
  opp_more x a = cancel G (opp (x ⊕ a) ⊕ a) (opp x) x (assoc (opp (x ⊕ a)) a x ∙ ap (λ t. opp (x ⊕ a) ⊕ t) (comm a x) ∙ opp_sum (x ⊕ a) ∙ sym (opp_sum x))

  pub whole_more : (k : ℤ) (a : A) → whole (k +ℤ pos 1) a ≡ whole k a ⊕ a
  whole_more k a = ap (λ (i : ℤ). whole i a) (+ℤ_one k) ∙ next k
    where
      next : (k : ℤ) → whole (suc_ℤ k) a ≡ whole k a ⊕ a
      next (pos n) = refl
      next (negsuc zero) = sym (ap (λ t. opp t ⊕ a) (zer_sum a) ∙ opp_sum a)
      next (negsuc (suc n)) = sym (opp_more (nfold G (suc n) a) a)

  pub whole_less : (k : ℤ) (a : A) → whole (k +ℤ negsuc 0) a ≡ whole k a ⊕ opp a
  whole_less k a = cancel G (whole (k +ℤ negsuc 0) a) (whole k a ⊕ opp a) a (sym (whole_more (k +ℤ negsuc 0) a) ∙ ap (λ (i : ℤ). whole i a) back
      ∙ sym (sum_zer G (whole k a)) ∙ ap (λ t. whole k a ⊕ t) (sym (opp_sum a)) ∙ sym (assoc (whole k a) (opp a) a))
    where
      back : k +ℤ negsuc 0 +ℤ pos 1 ≡ k
      back = +ℤ_one (k +ℤ negsuc 0) ∙ ap suc_ℤ (-ℤ_one k) ∙ suc-pred k

  pub whole_add : (j k : ℤ) (a : A) → whole (j +ℤ k) a ≡ whole j a ⊕ whole k a
  whole_add j k a = ℤ_ind (λ k. whole (j +ℤ k) a ≡ whole j a ⊕ whole k a) none more less k
    where
      none : whole (j +ℤ pos zero) a ≡ whole j a ⊕ whole (pos zero) a
      none = ap (λ (i : ℤ). whole i a) (+ℤ_idr j) ∙ sym (sum_zer G (whole j a))

      more : (n : ℕ) → whole (j +ℤ pos n) a ≡ whole j a ⊕ whole (pos n) a → whole (j +ℤ (pos n +ℤ pos 1)) a ≡ whole j a ⊕ whole (pos n +ℤ pos 1) a
      more n h = ap (λ (i : ℤ). whole i a) (sym (+ℤ_assoc j (pos n) (pos 1))) ∙ whole_more (j +ℤ pos n) a ∙ ap (λ t. t ⊕ a) h
          ∙ assoc (whole j a) (whole (pos n) a) a ∙ ap (λ t. whole j a ⊕ t) (sym (whole_more (pos n) a))

      less : (n : ℕ) → whole (j +ℤ neg_ℤ (pos n)) a ≡ whole j a ⊕ whole (neg_ℤ (pos n)) a → whole (j +ℤ (neg_ℤ (pos n) +ℤ negsuc 0)) a ≡ whole j a ⊕ whole (neg_ℤ (pos n) +ℤ negsuc 0) a
      less n h = ap (λ (i : ℤ). whole i a) (sym (+ℤ_assoc j (neg_ℤ (pos n)) (negsuc 0))) ∙ whole_less (j +ℤ neg_ℤ (pos n)) a ∙ ap (λ t. t ⊕ opp a) h
          ∙ assoc (whole j a) (whole (neg_ℤ (pos n)) a) (opp a) ∙ ap (λ t. whole j a ⊕ t) (sym (whole_less (neg_ℤ (pos n)) a))
