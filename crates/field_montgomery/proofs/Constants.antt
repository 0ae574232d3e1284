-- The constants of a modulus: 2^64, its square and its cube modulo p.
use Prim.Native.Nat.{ℕ, ◌+◌, ◌-◌, ◌*◌, ◌%◌, ◌≤◌, ◌<◌}
use mathlib.Core.Path.{◌≡◌, refl, sym, ap, ap₂, ◌∙◌}
use mathlib.Core.List.{[], ◌∷◌}
use native.Mathlib.Omega.{arith}
use native.Mathlib.Nat.{mod-lt}
use Rattle.algebra.proofs.Ring.Quote.{ring, quote, by}
use Rattle.algebra.proofs.Zmod.Zmod.{zmod, emb, emb_add, emb_mul, emb_mod, emb_one}
use Rattle.field_words.specs.Words.{word}
use Rattle.field_words.specs.Reduced.{Turns, Reduced, Reducible}
use Rattle.field_words.proofs.Modulo.{same_element}
use Rattle.field_montgomery.specs.Back.{back}
use Rattle.field_montgomery.specs.Constants.{Same, Words, Squared}
use Rattle.field_montgomery.proofs.Back.{reduced_is, back_word}
use Rattle.field_words.proofs.Bounds.{one_product}

pub lowered : (p x : ℕ) → x < p + p → p ≤ x → Same p x (x - p)
lowered p x u v = record { below = omega arith; is = same_element p (omega arith) (x - p) x 1 0 (omega arith) }

pub word_is : (p : ℕ) → 0 < p → Words p ((18446744073709551615 % p + 1) % p)
word_is p some = record { below = mod-lt (18446744073709551615 % p + 1) {m = p} some; is = emb_mod p some (18446744073709551615 % p + 1) ∙ emb_add p (18446744073709551615 % p) 1 ∙ ap (λ i. (zmod p).add i (emb p 1)) (emb_mod p some 18446744073709551615) ∙ sym (emb_add p 18446744073709551615 1) }

module _ (p q : ℕ) (t : Turns p q) where
  open zmod p use {El as A, add as ◌⊕◌, mul as ◌⊗◌, neg as ng, zer as 𝟘, one as 𝟙}

  infixl 65 ◌⊕◌
  infixl 70 ◌⊗◌
  abbrev W : A
  W = emb p word

  -- x is c times 2^64
  record Scaled (c x : ℕ) : Type 0 where
    pub below : x < p + p
    pub is : emb p x ≡ emb p c ⊗ W

  pub square_requires : (x : ℕ) → x < p + p → Reducible p q (x * x)
  square_requires x l = one_product t x x (omega arith) (omega arith)

  four : (a b x : A) → a ≡ x → b ≡ x → a ⊗ b ⊗ back p q ≡ x ⊗ x ⊗ back p q
  four a b x ea eb = ap₂ (λ i j. i ⊗ j ⊗ back p q) ea eb

  scale : (c : ℕ) {x r : ℕ} → Scaled c x → Reduced p (x * x) r → Scaled (c * c) r
  scale c {x} {r} s d = record {
    below = d.below;
    is = reduced_is p q t d ∙ ap (λ i. i ⊗ back p q) (emb_mul p x x) ∙ four (emb p x) (emb p x) (emb p c ⊗ W) s.is s.is
        ∙ by (zmod p) (emb p c ⊗ emb p c ⊗ W) (back_word p q t) (ring (zmod p) (emb p c ∷ W ∷ back p q ∷ []) (search quote depth 40) refl)
        ∙ ap (λ i. i ⊗ W) (sym (emb_mul p c c));
  }

  begin : {x : ℕ} → Words p x → Scaled 2 (x + x)
  begin {x} w = record {
    below = omega (arith, w.below);
    is = emb_add p x x ∙ ap₂ ◌⊕◌ w.is w.is ∙ ring (zmod p) (W ∷ []) (search quote depth 40) refl ∙ ap (λ i. i ⊗ W) (sym (emb_add p 1 1 ∙ ap₂ ◌⊕◌ (emb_one p) (emb_one p)));
  }

  pub squared_is : {o a b c d e r : ℕ} → Words p o → Reduced p ((o + o) * (o + o)) a → Reduced p (a * a) b → Reduced p (b * b) c → Reduced p (c * c) d → Reduced p (d * d) e → Reduced p (e * e) r → Squared p r
  squared_is {o} {a} {b} {c} {d} {e} {r} w h1 h2 h3 h4 h5 h6 = record { below = last.below; is = last.is ∙ sym (emb_mul p word word) }
    where
      last : Scaled word r
      last = scale 4294967296 (scale 65536 (scale 256 (scale 16 (scale 4 (scale 2 (begin w) h1) h2) h3) h4) h5) h6

  pub cube_is : (s : ℕ) {x r : ℕ} → emb p s ≡ emb p (word * word) → Reduced p (s * s) x → Same p x r → emb p r ≡ emb p (word * word * word)
  cube_is s {x} {r} e d f = f.is ∙ reduced_is p q t d ∙ ap (λ i. i ⊗ back p q) (emb_mul p s s) ∙ four (emb p s) (emb p s) (W ⊗ W) (e ∙ emb_mul p word word) (e ∙ emb_mul p word word)
      ∙ by (zmod p) (W ⊗ W ⊗ W) (back_word p q t) (ring (zmod p) (W ∷ back p q ∷ []) (search quote depth 40) refl)
      ∙ ap (λ i. i ⊗ W) (sym (emb_mul p word word)) ∙ sym (emb_mul p (word * word) word)
