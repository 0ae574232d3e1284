-- Numbers that differ by turns of p are one element of Z/p.
use Rattle.std.proofs.Common.{◌≡◌, ℕ, ◌+◌, ◌*◌, ◌<◌, [], ◌∷◌, sym, refl, ap, ◌∙◌}
use Rattle.algebra.proofs.Ring.Quote.{ring, quote, by}
use Rattle.algebra.proofs.Zmod.Zmod.{zmod, emb, emb_add, emb_mul, emb_p}

module _ (p : ℕ) (some : 0 < p) where
  open zmod p use {add as ◌⊕◌, mul as ◌⊗◌, one as 𝟙}

  infixl 65 ◌⊕◌
  infixl 70 ◌⊗◌
  pub with_turns : (a x : ℕ) → emb p (a + p * x) ≡ emb p a
  with_turns a x = emb_add p a (p * x) ∙ ap (λ t. emb p a ⊕ t) (emb_mul p p x) ∙ by (zmod p) (emb p x) (emb_p p some) (ring (zmod p) (emb p a ∷ emb p x ∷ emb p p ∷ []) (search quote depth 40) refl)

  pub same_element : (a b x y : ℕ) → a + p * x ≡ b + p * y → emb p a ≡ emb p b
  same_element a b x y e = sym (with_turns a x) ∙ ap (emb p) e ∙ with_turns b y
