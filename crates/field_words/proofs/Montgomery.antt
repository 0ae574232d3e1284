-- Montgomery's reduction: t = h + p - (k · p) / 2^64 with k = l · q modulo 2^64. The low word of k · p is l itself, so t · 2^64 = h · 2^64 + l + p · (2^64 - k).
use Rattle.std.proofs.Common.{◌≡◌, ℕ, ◌+◌, ◌-◌, ◌*◌, ◌/◌, ◌%◌, ◌<◌, ◌≤◌, sym, ap, ◌∙◌, subst, ap₂, mod-lt, mod-eq_of_lt, mul_assoc, mul_comm, div-lt_iff_lt-mul, mul-lt-mul_of_pos_right, div-add-mod', mul-one, arith}
use Rattle.algebra.proofs.Zmod.Zmod.{emb_mul, mod-mul-mod, mul-mod-mod}
use Rattle.field_words.specs.Words.{word}
use Rattle.field_words.specs.Reduced.{Turns, Reduced}
use Rattle.field_words.proofs.Modulo.{same_element}

balance : (h l p n : ℕ) → n < p → h * word + l + p * word ≡ (h + p - n) * word + (n * word + l)
balance h l p n u = omega arith

pub within : (p x : ℕ) → x < p * word → x / word < p
within p x u = (div-lt_iff_lt-mul {k = word} {x = x} {y = p} (omega arith)).1 u

module _ (p q : ℕ) (t : Turns p q) (l : ℕ) (hl : l < word) where
  low_back : l * q % word * p % word ≡ l
  low_back = mod-mul-mod (l * q) p word ∙ ap (λ n. n % word) (mul_assoc l q p ∙ ap (λ n. l * n) (mul_comm q p)) ∙ sym (mul-mod-mod l (p * q) word) ∙ ap (λ n. l * n % word) t.turn ∙ ap (λ n. n % word) (mul-one l) ∙ mod-eq_of_lt hl

  module _ (k n : ℕ) (ek : k ≡ l * q % word) (en : n ≡ k * p / word) where
    rest : k * p % word ≡ l
    rest = ap (λ i. i * p % word) ek ∙ low_back

    pub taken : n < p
    taken = subst (λ (i : ℕ). i < p) (sym en) (within p (k * p) (subst (λ (i : ℕ). k * p < i) (mul_comm word p) (mul-lt-mul_of_pos_right {m = k} {n = word} {k = p} (omega (arith, mod-lt (l * q) {m = word} (omega arith))) t.some)))

    -- what is taken away is there
    pub covered : (h : ℕ) → n ≤ h + p
    covered h = at_most h n p taken
      where
        at_most : (i j k : ℕ) → j < k → j ≤ i + k
        at_most i j k u = omega arith

    whole : n * word + l ≡ p * k
    whole = ap₂ (λ (i j : ℕ). i * word + j) en (sym rest) ∙ div-add-mod' (k * p) word ∙ mul_comm k p

    pub reduced : (h : ℕ) → h < p → Reduced p (h * word + l) (h + p - n)
    reduced h hh = record {
      below = omega (arith, taken);
      is = same_element p t.some (h * word + l) ((h + p - n) * word) word k (balance h l p n taken ∙ ap (λ i. (h + p - n) * word + i) whole) ∙ emb_mul p (h + p - n) word;
    }
