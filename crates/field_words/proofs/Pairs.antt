-- The two words of a product, and of a sum of two: that they make it up, and that the high one is below p where the whole is below p · 2^64.
use Rattle.std.proofs.Common.{◌≡◌, ℕ, ◌+◌, ◌*◌, ◌/◌, ◌%◌, ◌<◌, ◌≤◌, sym, refl, ◌∙◌, subst, ap₂, mod-lt, div-add-mod', arith, w64, Fits}
use mir.Facts.{Fits-bits}
use Rattle.field_words.specs.Words.{word}
use Rattle.field_words.specs.Reduced.{top, Turns, Reduced, Reducible}
use Rattle.field_words.proofs.Montgomery.{within}

module _ {p q : ℕ} (n : ℕ) (s : Reducible p q n) (h l : ℕ) (e : h * word + l ≡ n) where
  pub pair_requires : l < word → Turns p q × (h < p)
  pair_requires u = (s.turns, subst (λ (i : ℕ). i < p) (high h l u) (within p n s.small))
    where
      high : (i j : ℕ) → j < word → n / word ≡ h
      high i j k = omega (arith, e)

  pub pair_is : {r : ℕ} → Reduced p (h * word + l) r → Reduced p n r
  pair_is {r} d = subst (λ (i : ℕ). Reduced p i r) e d

pub made : (n h l : ℕ) → h ≡ n / word → l ≡ n % word → h * word + l ≡ n
made n h l eh el = ap₂ (λ (i j : ℕ). i * word + j) eh el ∙ div-add-mod' n word

-- of two products
module _ (n k a b x y c l : ℕ) (ea : a ≡ n / word) (eb : b ≡ k / word) (ex : x ≡ n % word) (ey : y ≡ k % word) (ec : c ≡ (x + y) / word) (el : l ≡ (x + y) % word) where
  pub made_two : (a + b + c) * word + l ≡ n + k
  made_two = omega arith

module _ {p q : ℕ} (n k a b x y : ℕ) (s : Reducible p q (n + k)) (ea : a ≡ n / word) (eb : b ≡ k / word) (ex : x ≡ n % word) (ey : y ≡ k % word) where
  high_two : a + b + (x + y) / word < p
  high_two = (pair_requires (n + k) s (a + b + (x + y) / word) ((x + y) % word) (made_two n k a b x y ((x + y) / word) ((x + y) % word) ea eb ex ey refl refl) (mod-lt (x + y) {m = word} (omega arith))).1

  pub two_fits : Fits w64 (a + b)
  two_fits = Fits-bits 64 tt (low_part (a + b) ((x + y) / word) p high_two s.turns.most)
    where
      low_part : (i j r : ℕ) → i + j < r → r ≤ top → i < word
      low_part i j r u v = omega arith

  pub three_fits : (c : ℕ) → c ≡ (x + y) / word → Fits w64 (a + b + c)
  three_fits c ec = Fits-bits 64 tt (low_part (a + b + c) p (subst (λ (i : ℕ). a + b + i < p) (sym ec) high_two) s.turns.most)
    where
      low_part : (i r : ℕ) → i < r → r ≤ top → i < word
      low_part i r u v = omega arith
