-- Newton's steps modulo 2^64: each squares the error 1 - p · x, which is a multiple of 8 at x = p, and so of 2^96, which is 0, after five.
use Rattle.std.proofs.Common.{◌≡◌, ℕ, zero, suc, ◌+◌, ◌*◌, ◌/◌, ◌%◌, ◌<◌, [], ◌∷◌, sym, refl, ap, ◌∙◌, ap₂, arith}
use Rattle.algebra.proofs.Ring.CRing.{zer_mul}
use Rattle.algebra.proofs.Ring.Quote.{ring, quote, by}
use Rattle.algebra.proofs.Zmod.Zmod.{zmod, emb, num, num_emb, emb_add, emb_mul, emb_mod, emb_one, emb_p, mod-mul-mod, mul-mod-mod}
use Rattle.field_words.specs.Words.{word}
use Rattle.field_words.specs.Newton.{Closer, error}
open zmod word use {El as A, add as ◌⊕◌, mul as ◌⊗◌, neg as ng, zer as 𝟘, one as 𝟙}

infixl 65 ◌⊕◌
infixl 70 ◌⊗◌
two : emb word 2 ≡ 𝟙 ⊕ 𝟙
two = emb_add word 1 1 ∙ ap₂ ◌⊕◌ (emb_one word) (emb_one word)

pub closer_is : (p x n y r : ℕ) → n ≡ p * x % word → (y + n) % word ≡ 2 → r ≡ x * y % word → Closer p x r
closer_is p x n y r en ey er = record { is = ap (λ t. 𝟙 ⊕ ng (emb word p ⊗ t)) product ∙ by (zmod word) (ng (emb word p ⊗ emb word x)) sum (ring (zmod word) (emb word p ∷ emb word x ∷ emb word y ∷ []) (search quote depth 40) refl) }
  where
    product : emb word r ≡ emb word x ⊗ emb word y
    product = ap (emb word) er ∙ emb_mod word (omega arith) (x * y) ∙ emb_mul word x y

    sum : emb word y ⊕ emb word p ⊗ emb word x ≡ 𝟙 ⊕ 𝟙
    sum = ap (λ t. emb word y ⊕ t) (sym (ap (emb word) en ∙ emb_mod word (omega arith) (p * x) ∙ emb_mul word p x)) ∙ sym (emb_add word y n) ∙ sym (emb_mod word (omega arith) (y + n)) ∙ ap (emb word) ey ∙ two

-- an error that is a multiple of c is one of c · c after a step
record Multiple (c : ℕ) (e : A) : Type 0 where
  pub by_what : A
  pub is : e ≡ emb word c ⊗ by_what

square : (c : ℕ) {p x r : ℕ} → Multiple c (error p x) → Closer p x r → Multiple (c * c) (error p r)
square c {p} {x} {r} m h = record {
  by_what = m.by_what ⊗ m.by_what;
  is = h.is ∙ ap₂ ◌⊗◌ m.is m.is ∙ ring (zmod word) (emb word c ∷ m.by_what ∷ []) (search quote depth 40) refl ∙ ap (λ t. t ⊗ (m.by_what ⊗ m.by_what)) (sym (emb_mul word c c));
}

-- an odd number's square is 1 modulo 8
odd-square : (p : ℕ) → p % 2 ≡ 1 → p * p % 8 ≡ 1
odd-square p odd = sym (mod-mul-mod p p 8) ∙ sym (mul-mod-mod (p % 8) p 8) ∙ go (p % 8) (omega arith) (omega arith)
  where
    go : (r : ℕ) → r < 8 → r % 2 ≡ 1 → r * r % 8 ≡ 1
    go zero l o = absurd (omega arith)
    go (suc zero) l o = refl
    go (suc (suc zero)) l o = absurd (omega arith)
    go (suc (suc (suc zero))) l o = refl
    go (suc (suc (suc (suc zero)))) l o = absurd (omega arith)
    go (suc (suc (suc (suc (suc zero))))) l o = refl
    go (suc (suc (suc (suc (suc (suc zero)))))) l o = absurd (omega arith)
    go (suc (suc (suc (suc (suc (suc (suc zero))))))) l o = refl
    go (suc (suc (suc (suc (suc (suc (suc (suc r)))))))) l o = absurd (omega arith)

first : (p : ℕ) → p % 2 ≡ 1 → Multiple 8 (error p p)
first p odd = record { by_what = ng (emb word (p * p / 8)); is = ap (λ t. 𝟙 ⊕ ng t) (sym (emb_mul word p p) ∙ square_is) ∙ ring (zmod word) (emb word 8 ∷ emb word (p * p / 8) ∷ []) (search quote depth 40) refl }
  where
    parts : (n : ℕ) → n % 8 ≡ 1 → n ≡ 8 * (n / 8) + 1
    parts n e = omega arith

    square_is : emb word (p * p) ≡ emb word 8 ⊗ emb word (p * p / 8) ⊕ 𝟙
    square_is = ap (emb word) (parts (p * p) (odd-square p odd)) ∙ emb_add word (8 * (p * p / 8)) 1 ∙ ap₂ ◌⊕◌ (emb_mul word 8 (p * p / 8)) (emb_one word)

-- 2^96 is 0 modulo 2^64
past : emb word (281474976710656 * 281474976710656) ≡ 𝟘
past = emb_mul word word 4294967296 ∙ ap (λ t. t ⊗ emb word 4294967296) (emb_p word (omega arith)) ∙ zer_mul (zmod word) (emb word 4294967296)

pub turn_is : (p a b c d r : ℕ) → p % 2 ≡ 1 → Closer p p a → Closer p a b → Closer p b c → Closer p c d → Closer p d r → p * r % word ≡ 1
turn_is p a b c d r odd h1 h2 h3 h4 h5 = sym (num_emb word (omega arith) (p * r)) ∙ ap (num word) whole ∙ num_emb word (omega arith) 1
  where
    last : Multiple (281474976710656 * 281474976710656) (error p r)
    last = square 281474976710656 (square 16777216 (square 4096 (square 64 (square 8 (first p odd) h1) h2) h3) h4) h5

    none : error p r ≡ 𝟘
    none = last.is ∙ ap (λ t. t ⊗ last.by_what) past ∙ zer_mul (zmod word) last.by_what

    whole : emb word (p * r) ≡ emb word 1
    whole = emb_mul word p r ∙ by (zmod word) (ng 𝟙) none (ring (zmod word) (emb word p ∷ emb word r ∷ []) (search quote depth 40) refl) ∙ sym (emb_one word)
