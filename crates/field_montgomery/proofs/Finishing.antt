-- The end of the inverse: s · 2^(128 - k) by two reductions, a power of 2 that fits a word and a constant of the modulus.
use Prim.Native.Nat.{ℕ, ◌+◌, ◌*◌, ◌^◌, ◌%◌, ◌<◌}
use mathlib.Core.Path.{◌≡◌, refl, sym, ap, ap₂, subst, ◌∙◌}
use mathlib.Core.List.{[], ◌∷◌}
use native.Mathlib.Omega.{arith}
use native.Mathlib.Nat.{one-mul, mod-eq_of_lt}
use lib.Pow.{pow-add, pow-lt}
use Rattle.algebra.proofs.Ring.Quote.{ring, quote, by}
use Rattle.algebra.proofs.Zmod.Zmod.{zmod, emb, emb_add, emb_mul}
use Rattle.field_words.specs.Words.{word}
use Rattle.field_words.specs.Reduced.{Reduced, Reducible}
use Rattle.field_montgomery.specs.Back.{back}
use Rattle.field_montgomery.specs.Powers.{ToFinish, Finished}
use Rattle.field_montgomery.proofs.Back.{reduced_is, back_word}
use Rattle.field_words.proofs.Bounds.{one_product, shifted}

power_fits : {e : ℕ} → e < 64 → 2 ^ e < word
power_fits {e} l = pow-lt {i = e} {j = 64} l

-- what a shift of 1 is
pub power_is : (e : ℕ) → e < 64 → 1 * 2 ^ e % 2 ^ 64 ≡ 2 ^ e
power_is e l = ap (λ i. i % word) (one-mul (2 ^ e)) ∙ mod-eq_of_lt (power_fits l)

module _ (p q square cube s k : ℕ) (h : ToFinish p q square cube s k) where
  open zmod p use {El as A, add as ◌⊕◌, mul as ◌⊗◌, neg as ng, zer as 𝟘, one as 𝟙}

  infixl 65 ◌⊕◌
  infixl 70 ◌⊗◌
  abbrev B : A
  B = back p q

  abbrev W : A
  W = emb p word

  pub shift_requires : (n e : ℕ) → e < 64 → n ≡ 2 ^ e → Reducible p q (s * n)
  shift_requires n e l i = shifted h.turns s n h.small (subst (λ (j : ℕ). j < word) (sym i) (power_fits l))

  module _ {x : ℕ} (l : x < p + p) where
    pub cube_requires : Reducible p q ((x + x) * cube)
    cube_requires = one_product h.turns (x + x) cube (omega arith) (omega (arith, h.cube_below))

    pub square_requires : Reducible p q ((x + x) * square)
    square_requires = one_product h.turns (x + x) square (omega arith) (omega (arith, h.square_below))

  -- 2^e twice, times 2^k
  double : (e n : ℕ) → e + k + 1 ≡ n → (emb p (2 ^ e) ⊕ emb p (2 ^ e)) ⊗ emb p (2 ^ k) ≡ emb p (2 ^ n)
  double e n i = ap (λ j. j ⊗ emb p (2 ^ k)) (sym (emb_add p (2 ^ e) (2 ^ e))) ∙ sym (emb_mul p (2 ^ e + 2 ^ e) (2 ^ k)) ∙ ap (emb p) whole
    where
      twice : (a : ℕ) → a + a ≡ a * 2
      twice a = omega arith

      whole : (2 ^ e + 2 ^ e) * 2 ^ k ≡ 2 ^ n
      whole = ap (λ j. j * 2 ^ k) (twice (2 ^ e) ∙ sym (pow-add 2 e 1)) ∙ sym (pow-add 2 (e + 1) k) ∙ ap (λ (j : ℕ). 2 ^ j) {x = e + 1 + k} {y = n} (omega arith)

  module _ (e n x r : ℕ) (i : n ≡ 2 ^ e) (hx : Reduced p (s * n) x) where
    x_is : emb p x ≡ emb p s ⊗ emb p (2 ^ e) ⊗ B
    x_is = reduced_is p q h.turns hx ∙ ap (λ j. j ⊗ B) (emb_mul p s n ∙ ap (λ j. emb p s ⊗ emb p j) i)

    r_is : (c : ℕ) → Reduced p ((x + x) * c) r → emb p r ≡ (emb p s ⊗ emb p (2 ^ e) ⊗ B ⊕ emb p s ⊗ emb p (2 ^ e) ⊗ B) ⊗ emb p c ⊗ B
    r_is c d = reduced_is p q h.turns d ∙ ap (λ j. j ⊗ B) (emb_mul p (x + x) c ∙ ap (λ j. j ⊗ emb p c) (emb_add p x x ∙ ap₂ ◌⊕◌ x_is x_is))

    pub finish_low : e + k + 1 ≡ 64 → Reduced p ((x + x) * cube) r → Finished p s k r
    finish_low j d = record {
      below = d.below;
      factor = (emb p (2 ^ e) ⊕ emb p (2 ^ e)) ⊗ W;
      factor_is = ring (zmod p) (emb p (2 ^ e) ∷ emb p (2 ^ k) ∷ W ∷ []) (search quote depth 40) refl ∙ ap (λ t. t ⊗ W) (double e 64 j) ∙ sym (emb_mul p word word);
      is = r_is cube d ∙ ap (λ t. (emb p s ⊗ emb p (2 ^ e) ⊗ B ⊕ emb p s ⊗ emb p (2 ^ e) ⊗ B) ⊗ t ⊗ B) (h.cube_is ∙ emb_mul p (word * word) word ∙ ap (λ t. t ⊗ W) (emb_mul p word word))
          ∙ by (zmod p) ((emb p s ⊗ emb p (2 ^ e) ⊕ emb p s ⊗ emb p (2 ^ e)) ⊗ W ⊗ (W ⊗ B ⊕ 𝟙)) (back_word p q h.turns) (ring (zmod p) (emb p s ∷ emb p (2 ^ e) ∷ W ∷ B ∷ []) (search quote depth 40) refl);
    }

    pub finish_high : e + k + 1 ≡ 128 → Reduced p ((x + x) * square) r → Finished p s k r
    finish_high j d = record {
      below = d.below;
      factor = emb p (2 ^ e) ⊕ emb p (2 ^ e);
      factor_is = double e 128 j;
      is = r_is square d ∙ ap (λ t. (emb p s ⊗ emb p (2 ^ e) ⊗ B ⊕ emb p s ⊗ emb p (2 ^ e) ⊗ B) ⊗ t ⊗ B) (h.square_is ∙ emb_mul p word word)
          ∙ by (zmod p) ((emb p s ⊗ emb p (2 ^ e) ⊕ emb p s ⊗ emb p (2 ^ e)) ⊗ (W ⊗ B ⊕ 𝟙)) (back_word p q h.turns) (ring (zmod p) (emb p s ∷ emb p (2 ^ e) ∷ W ∷ B ∷ []) (search quote depth 40) refl);
    }
