-- 1/R in Z/p, R = 2^64: what `back` is, and what a reduction does by it.
use Prim.Native.Nat.{ℕ, ◌+◌, ◌*◌, ◌/◌}
use mathlib.Core.Path.{◌≡◌, refl, sym, ap, ap₂, ◌∙◌}
use mathlib.Core.List.{[], ◌∷◌}
use native.Mathlib.Nat.{div-add-mod'}
use Rattle.algebra.proofs.Ring.CRing.{zer_mul}
use Rattle.algebra.proofs.Ring.Quote.{ring, quote, by}
use Rattle.algebra.proofs.Zmod.Zmod.{zmod, emb, emb_add, emb_mul, emb_p, emb_one}
use Rattle.field_words.specs.Words.{word}
use Rattle.field_words.specs.Reduced.{Turns, Reduced}
use Rattle.field_montgomery.specs.Back.{back, element}

module _ (p q : ℕ) (t : Turns p q) where
  open zmod p use {El as A, add as ◌⊕◌, mul as ◌⊗◌, neg as ng, zer as 𝟘, one as 𝟙}

  infixl 65 ◌⊕◌
  infixl 70 ◌⊗◌
  pub back_word : emb p word ⊗ back p q ≡ 𝟙
  unfolding back
  back_word = by (zmod p) (ng 𝟙) whole (ring (zmod p) (emb p word ∷ emb p (p * q / word) ∷ []) (search quote depth 40) refl)
    where
      parts : p * q / word * word + 1 ≡ p * q
      parts = ap (λ i. p * q / word * word + i) (sym t.turn) ∙ div-add-mod' (p * q) word

      whole : emb p (p * q / word) ⊗ emb p word ⊕ 𝟙 ≡ 𝟘
      whole = ap₂ ◌⊕◌ (sym (emb_mul p (p * q / word) word)) (sym (emb_one p)) ∙ sym (emb_add p (p * q / word * word) 1) ∙ ap (emb p) parts ∙ emb_mul p p q ∙ ap (λ i. i ⊗ emb p q) (emb_p p t.some) ∙ zer_mul (zmod p) (emb p q)

  -- a reduction divides by R
  pub reduced_is : {n r : ℕ} → Reduced p n r → emb p r ≡ emb p n ⊗ back p q
  reduced_is {n} {r} d = by (zmod p) (ng (back p q)) d.is (by (zmod p) (ng (emb p r)) back_word (ring (zmod p) (emb p word ∷ emb p n ∷ emb p r ∷ back p q ∷ []) (search quote depth 40) refl))

  pub back_cancel : {x y : A} → x ⊗ back p q ≡ y ⊗ back p q → x ≡ y
  back_cancel {x} {y} e = by (zmod p) (emb p word) e (by (zmod p) (y ⊕ ng x) back_word (ring (zmod p) (emb p word ∷ x ∷ y ∷ back p q ∷ []) (search quote depth 40) refl))

  -- a product reduced stands for the product
  pub product_is : (a b : ℕ) {r : ℕ} → Reduced p (a * b) r → element p q r ≡ element p q a ⊗ element p q b
  product_is a b {r} d = ap (λ i. i ⊗ back p q) (reduced_is d ∙ ap (λ i. i ⊗ back p q) (emb_mul p a b)) ∙ ring (zmod p) (emb p a ∷ emb p b ∷ back p q ∷ []) (search quote depth 40) refl
