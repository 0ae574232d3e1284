-- Why the code's products stand for those of Z/p: a reduction divides by R once, and a product of two residues has R twice.
use Prim.Native.Nat.{ℕ, ◌+◌, ◌-◌, ◌*◌, ◌<◌}
use mathlib.Core.Path.{◌≡◌, refl, sym, ap, ap₂, ◌∙◌}
use mathlib.Core.List.{[], ◌∷◌}
use native.Mathlib.Omega.{arith}
use native.Mathlib.Nat.{mul-one}
use Rattle.algebra.proofs.Ring.Power.{power}
use Rattle.algebra.proofs.Ring.Quote.{ring, quote, by}
use Rattle.algebra.proofs.Zmod.Zmod.{zmod, emb, num, num_of, emb_add, emb_mul, emb_zero}
use Rattle.field_words.specs.Words.{word}
use Rattle.field_words.specs.Reduced.{Reduced, Reducible}
use Rattle.field.specs.declared.Modulus.{Modulus}
use Rattle.field.specs.declared.Residue.{Residue}
use Rattle.field_montgomery.specs.Back.{back}
use Rattle.field.specs.Residues.{el, Kept, Stands, Settles}
use Rattle.field_montgomery.specs.Constants.{Same}
use Rattle.field_montgomery.specs.Powers.{ToPower, Powered}
use Rattle.field.proofs.Ring.{Ring, ring_of}
use Rattle.field.proofs.Laws.{positive}
use Rattle.field_montgomery.proofs.Back.{reduced_is, back_word, product_is}
use Rattle.field_words.proofs.Bounds.{one_product, two_products}
use Rattle.field.proofs.Sums.{held, same_sum}

module _ (m : Modulus) where
  abbrev p : ℕ
  p = m.p

  open zmod m.p use {El as A, add as ◌⊕◌, mul as ◌⊗◌, neg as ng, zer as 𝟘, one as 𝟙}

  infixl 65 ◌⊕◌
  infixl 70 ◌⊗◌
  abbrev B : A
  B = back m.p m.turn

  g : Ring m
  g = ring_of m

  stood : {n r : ℕ} {x : A} → Reduced p n r → emb p n ⊗ B ⊗ B ≡ x → Stands m (record { 0 = r }) x
  stood {n} {r} d e = held m r d.below (ap (λ i. i ⊗ B) (reduced_is p m.turn g.turns d) ∙ e)

  -- ---- numbers in and out
  pub read_is : (n : ℕ) {x r : ℕ} → Reduced p (n * m.square) x → Same p x r → Settles m (record { 0 = r }) (emb p n)
  unfolding el
  read_is n {x} {r} d s = record {
    settled = record { below = s.below };
    is = ap (λ i. i ⊗ B) (s.is ∙ reduced_is p m.turn g.turns d ∙ ap (λ i. i ⊗ B) (emb_mul p n m.square ∙ ap (λ i. emb p n ⊗ i) (g.square.is ∙ emb_mul p word word)))
        ∙ by (zmod p) (emb p n ⊗ (emb p word ⊗ B ⊕ 𝟙)) (back_word p m.turn g.turns) (ring (zmod p) (emb p n ∷ emb p word ∷ B ∷ []) (search quote depth 40) refl);
  }

  pub read_requires : (n : ℕ) → n < p → Reducible p m.turn (n * m.square)
  read_requires n l = one_product g.turns n m.square (omega arith) (omega (arith, g.square.below))

  module _ (a : Residue) (h : Kept m a) where
    pub number_requires : Reducible p m.turn (a.0 * 1)
    number_requires = one_product g.turns a.0 1 (omega (arith, h.below)) (omega (arith, g.from))

    pub number_is : {x r : ℕ} → Reduced p (a.0 * 1) x → Same p x r → r ≡ num p (el m a)
    unfolding el
    number_is {x} {r} d s = sym (num_of p (positive m) r s.below) ∙ ap (num p) (s.is ∙ reduced_is p m.turn g.turns d ∙ ap (λ i. emb p i ⊗ B) (mul-one a.0))

    pub power_requires : ToPower p m.turn m.one a.0
    power_requires = record { turns = g.turns; one_below = g.one.below; one_is = g.one.is; below = h.below }

    pub power_is : {n r : ℕ} → Powered p m.turn a.0 n r → Stands m (record { 0 = r }) (power (zmod p) (el m a) n)
    unfolding el
    power_is {n} {r} d = held m r d.below d.is

    module _ (b : Residue) (k : Kept m b) where
      pub mul_requires : Reducible p m.turn (a.0 * b.0)
      mul_requires = one_product g.turns a.0 b.0 (omega (arith, h.below)) (omega (arith, k.below))

      pub mul_is : {r : ℕ} → Reduced p (a.0 * b.0) r → Stands m (record { 0 = r }) (el m a ⊗ el m b)
      unfolding el
      mul_is {r} d = held m r d.below (product_is p m.turn g.turns a.0 b.0 d)

      module _ (c : Residue) (l : Kept m c) where
        pub sum_requires : Reducible p m.turn ((b.0 + c.0) * a.0)
        sum_requires = one_product g.turns (b.0 + c.0) a.0 (omega (arith, k.below, l.below)) (omega (arith, h.below))

        pub mul_sum_is : {r : ℕ} → Reduced p ((b.0 + c.0) * a.0) r → Stands m (record { 0 = r }) (el m a ⊗ (el m b ⊕ el m c))
        unfolding el
        mul_sum_is {r} d = stood d (ap (λ i. i ⊗ B ⊗ B) (emb_mul p (b.0 + c.0) a.0 ∙ ap (λ i. i ⊗ emb p a.0) (emb_add p b.0 c.0)) ∙ ring (zmod p) (emb p a.0 ∷ emb p b.0 ∷ emb p c.0 ∷ B ∷ []) (search quote depth 40) refl)

        pub diff_requires : Reducible p m.turn ((b.0 + m.twice - c.0) * a.0)
        diff_requires = one_product g.turns (b.0 + m.twice - c.0) a.0 (omega (arith, k.below, g.twice)) (omega (arith, h.below))

        pub mul_diff_is : {r : ℕ} → Reduced p ((b.0 + m.twice - c.0) * a.0) r → Stands m (record { 0 = r }) (el m a ⊗ (el m b ⊕ ng (el m c)))
        unfolding el
        mul_diff_is {r} d = stood d (ap (λ i. i ⊗ B ⊗ B) (emb_mul p n a.0) ∙ by (zmod p) (emb p a.0 ⊗ B ⊗ B) whole (ring (zmod p) (emb p a.0 ∷ emb p b.0 ∷ emb p c.0 ∷ emb p n ∷ B ∷ []) (search quote depth 40) refl))
          where
            n : ℕ
            n = b.0 + m.twice - c.0

            whole : emb p n ⊕ emb p c.0 ≡ emb p b.0
            whole = same_sum m n c.0 b.0 0 2 (omega (arith, l.below, g.twice))

        module _ (e : Residue) (o : Kept m e) where
          pub dot_requires : Reducible p m.turn (a.0 * b.0 + c.0 * e.0)
          dot_requires = two_products g.turns a.0 b.0 c.0 e.0 (omega (arith, h.below)) (omega (arith, k.below)) (omega (arith, l.below)) (omega (arith, o.below))

          pub dot_is : {r : ℕ} → Reduced p (a.0 * b.0 + c.0 * e.0) r → Stands m (record { 0 = r }) (el m a ⊗ el m b ⊕ el m c ⊗ el m e)
          unfolding el
          dot_is {r} d = stood d (ap (λ i. i ⊗ B ⊗ B) (emb_add p (a.0 * b.0) (c.0 * e.0) ∙ ap₂ ◌⊕◌ (emb_mul p a.0 b.0) (emb_mul p c.0 e.0))
              ∙ ring (zmod p) (emb p a.0 ∷ emb p b.0 ∷ emb p c.0 ∷ emb p e.0 ∷ B ∷ []) (search quote depth 40) refl)

          pub cross_requires : Reducible p m.turn (a.0 * b.0 + (m.twice - c.0) * e.0)
          cross_requires = two_products g.turns a.0 b.0 (m.twice - c.0) e.0 (omega (arith, h.below)) (omega (arith, k.below)) (omega (arith, g.twice)) (omega (arith, o.below))

          pub cross_is : {r : ℕ} → Reduced p (a.0 * b.0 + (m.twice - c.0) * e.0) r → Stands m (record { 0 = r }) (el m a ⊗ el m b ⊕ ng (el m c ⊗ el m e))
          unfolding el
          cross_is {r} d = stood d (ap (λ i. i ⊗ B ⊗ B) (emb_add p (a.0 * b.0) (n * e.0) ∙ ap₂ ◌⊕◌ (emb_mul p a.0 b.0) (emb_mul p n e.0))
              ∙ by (zmod p) (emb p e.0 ⊗ B ⊗ B) whole (ring (zmod p) (emb p a.0 ∷ emb p b.0 ∷ emb p c.0 ∷ emb p e.0 ∷ emb p n ∷ B ∷ []) (search quote depth 40) refl))
            where
              n : ℕ
              n = m.twice - c.0

              whole : emb p n ⊕ emb p c.0 ≡ 𝟘
              whole = same_sum m n c.0 0 0 2 (omega (arith, l.below, g.twice)) ∙ emb_zero p
