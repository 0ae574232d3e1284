-- Why the code's sum, difference, opposite and half stand for those of Z/p, and what its tests for zero and equality say.
use Prim.Native.Nat.{ℕ, ◌+◌, ◌-◌, ◌*◌, ◌/◌, ◌%◌, ◌<◌, ◌≤◌}
use mathlib.Core.Path.{◌≡◌, refl, sym, ap, ◌∙◌}
use mathlib.Core.List.{[], ◌∷◌}
use native.Mathlib.Omega.{arith}
use Rattle.algebra.proofs.Ring.CRing.{neg_zer}
use Rattle.algebra.proofs.Ring.Quote.{ring, quote, by}
use Rattle.algebra.proofs.Zmod.Zmod.{zmod, emb, emb_add, emb_zero}
use Rattle.field_words.proofs.Modulo.{same_element}
use Rattle.field.specs.declared.Modulus.{Modulus}
use Rattle.field.specs.declared.Residue.{Residue}
use Rattle.field_montgomery.specs.Back.{back}
use Rattle.field.specs.Residues.{el, Kept, Settled, Stands, Settles, Halves}
use Rattle.field_montgomery.specs.Constants.{Same}
use Rattle.field.proofs.Ring.{Ring, ring_of}
use Rattle.field.proofs.Laws.{positive, settled_unique, zero_at}

module _ (m : Modulus) where
  abbrev p : ℕ
  p = m.p

  open zmod m.p use {El as A, add as ◌⊕◌, mul as ◌⊗◌, neg as ng, zer as 𝟘, one as 𝟙}

  infixl 65 ◌⊕◌
  infixl 70 ◌⊗◌
  abbrev B : A
  B = back m.p m.turn

  g : Ring m
  g = ring_of m

  -- a number below 2p stands for its element
  pub held : (n : ℕ) {x : A} → n < p + p → emb p n ⊗ B ≡ x → Stands m (record { 0 = n }) x
  unfolding el
  held n l e = record { kept = record { below = l }; is = e }

  pub same_sum : (n k a x y : ℕ) → n + k + p * x ≡ a + p * y → emb p n ⊕ emb p k ≡ emb p a
  same_sum n k a x y e = sym (emb_add p n k) ∙ same_element p (positive m) (n + k) a x y e

  module _ (a : Residue) (h : Kept m a) where
    pub settle_is : {r : ℕ} → Same p a.0 r → Settles m (record { 0 = r }) (el m a)
    unfolding el
    settle_is {r} s = record { settled = record { below = s.below }; is = ap (λ i. i ⊗ B) s.is }

    pub neg_zero : a.0 ≡ 0 → Stands m a (ng (el m a))
    unfolding el
    neg_zero e = let z : emb p a.0 ⊗ B ≡ 𝟘 = zero_at m e in record { kept = h; is = z ∙ sym (ap ng z ∙ neg_zer (zmod p)) }

    pub neg_is : (a.0 ≡ 0 → ⊥) → Stands m (record { 0 = m.twice - a.0 }) (ng (el m a))
    unfolding el
    neg_is ne = held (m.twice - a.0) (omega (arith, h.below, g.twice)) (by (zmod p) B whole (ring (zmod p) (emb p (m.twice - a.0) ∷ emb p a.0 ∷ B ∷ []) (search quote depth 40) refl))
      where
        whole : emb p (m.twice - a.0) ⊕ emb p a.0 ≡ 𝟘
        whole = same_sum (m.twice - a.0) a.0 0 0 2 (omega (arith, h.below, g.twice)) ∙ emb_zero p

    pub half_of : (n x : ℕ) → n + n ≡ a.0 + p * x → n < p + p → Halves m a (record { 0 = n })
    unfolding el
    half_of n x e l = record { kept = record { below = l }; is = by (zmod p) B (same_sum n n a.0 0 x (omega arith)) (ring (zmod p) (emb p n ∷ emb p a.0 ∷ B ∷ []) (search quote depth 40) refl) }

    pub half_even : a.0 % 2 ≡ 0 → Halves m a (record { 0 = a.0 / 2 })
    half_even e = half_of (a.0 / 2) 0 (omega arith) (omega (arith, h.below))

    pub half_odd : (a.0 % 2 ≡ 0 → ⊥) → Halves m a (record { 0 = (a.0 + p) / 2 })
    half_odd e = half_of ((a.0 + p) / 2) 1 (omega (arith, g.odd)) (omega (arith, h.below))

    module _ (b : Residue) (k : Kept m b) where
      pub sum_below : a.0 + b.0 < m.twice → Stands m (record { 0 = a.0 + b.0 }) (el m a ⊕ el m b)
      unfolding el
      sum_below l = held (a.0 + b.0) (omega (arith, g.twice)) (ap (λ i. i ⊗ B) (emb_add p a.0 b.0) ∙ (zmod p).add-mul (emb p a.0) (emb p b.0) B)

      pub sum_past : m.twice ≤ a.0 + b.0 → Stands m (record { 0 = a.0 + b.0 - m.twice }) (el m a ⊕ el m b)
      unfolding el
      sum_past l = held (a.0 + b.0 - m.twice) (omega (arith, h.below, k.below, g.twice))
          (ap (λ i. i ⊗ B) (same_element p (positive m) (a.0 + b.0 - m.twice) (a.0 + b.0) 2 0 (omega (arith, g.twice)) ∙ emb_add p a.0 b.0) ∙ (zmod p).add-mul (emb p a.0) (emb p b.0) B)

      difference_of : (n x : ℕ) → n + b.0 ≡ a.0 + p * x → n < p + p → Stands m (record { 0 = n }) (el m a ⊕ ng (el m b))
      unfolding el
      difference_of n x e l = held n l (by (zmod p) B (same_sum n b.0 a.0 0 x (omega arith)) (ring (zmod p) (emb p n ∷ emb p a.0 ∷ emb p b.0 ∷ B ∷ []) (search quote depth 40) refl))

      pub difference_past : a.0 < b.0 → Stands m (record { 0 = a.0 + m.twice - b.0 }) (el m a ⊕ ng (el m b))
      difference_past l = difference_of (a.0 + m.twice - b.0) 2 (omega (arith, k.below, g.twice)) (omega (arith, k.below, g.twice))

      pub difference_is : b.0 ≤ a.0 → Stands m (record { 0 = a.0 - b.0 }) (el m a ⊕ ng (el m b))
      difference_is l = difference_of (a.0 - b.0) 0 (omega arith) (omega (arith, h.below))

  pub zero_of : (a : Residue) → Settled m a → a.0 ≡ 0 → el m a ≡ 𝟘
  unfolding el
  zero_of a h e = zero_at m e

  pub zero_only : (a : Residue) → Settled m a → el m a ≡ 𝟘 → a.0 ≡ 0
  unfolding el
  zero_only a h e = ap (λ (r : Residue). r.0) (settled_unique m a (record { 0 = 0 }) h (record { below = positive m }) (e ∙ sym (zero_at m (omega arith))))

  pub equal_of : (a b : Residue) → a.0 ≡ b.0 → el m a ≡ el m b
  unfolding el
  equal_of a b e = ap (λ i. emb p i ⊗ B) e

  pub equal_only : (a b : Residue) → Settled m a → Settled m b → el m a ≡ el m b → a.0 ≡ b.0
  equal_only a b h k e = ap (λ (r : Residue). r.0) (settled_unique m a b h k e)
