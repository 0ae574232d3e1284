-- The bound that half-reduced numbers rest on, 8p < 2^64, and what it gives: a number up to 8p fits a word, and a number up to 4p times one up to 2p, or a
-- sum of two products of numbers up to 2p, can be reduced.
use Rattle.std.proofs.Common.{ℕ, ◌+◌, ◌*◌, ◌<◌, ◌≤◌, sym, subst, mul_assoc, mul-le-mul, arith, w64, Fits}
use native.Mathlib.Nat.{mul-mul-mul_comm, mul-lt-mul_of_pos_left}
use mir.Facts.{Fits-bits}
use Rattle.field_words.specs.Words.{word}
use Rattle.field_words.specs.Reduced.{top, Turns, Reducible}

pub eight : {p : ℕ} → p ≤ top → p * 8 < word
eight m = omega arith

pub room : {p : ℕ} → p ≤ top → (n : ℕ) → n ≤ p * 8 → Fits w64 n
room {p} m n l = Fits-bits 64 tt (less n (p * 8) word l (eight m))
  where
    less : (i j k : ℕ) → i ≤ j → j < k → i < k
    less i j k u v = omega arith

module _ {p q : ℕ} (t : Turns p q) where
  squares : p * p * 8 < p * word
  squares = subst (λ (i : ℕ). i < p * word) (sym (mul_assoc p p 8)) (mul-lt-mul_of_pos_left {m = p * 8} {n = word} {k = p} (eight t.most) t.some)

  within : (n : ℕ) → n ≤ p * p * 8 → Reducible p q n
  within n l = record { turns = t; small = less n (p * p * 8) (p * word) l squares }
    where
      less : (i j k : ℕ) → i ≤ j → j < k → i < k
      less i j k u v = omega arith

  times : (a b x y : ℕ) → a ≤ p * x → b ≤ p * y → a * b ≤ p * p * (x * y)
  times a b x y ha hb = subst (λ (i : ℕ). a * b ≤ i) (mul-mul-mul_comm p x p y) (mul-le-mul {n₁ = a} {m₁ = b} {n₂ = p * x} {m₂ = p * y} ha hb)

  pub one_product : (a b : ℕ) → a ≤ p * 4 → b ≤ p * 2 → Reducible p q (a * b)
  one_product a b ha hb = within (a * b) (times a b 4 2 ha hb)

  pub two_products : (a b c d : ℕ) → a ≤ p * 2 → b ≤ p * 2 → c ≤ p * 2 → d ≤ p * 2 → Reducible p q (a * b + c * d)
  two_products a b c d ha hb hc hd = within (a * b + c * d) (both (a * b) (c * d) (p * p) (times a b 2 2 ha hb) (times c d 2 2 hc hd))
    where
      both : (i j k : ℕ) → i ≤ k * 4 → j ≤ k * 4 → i + j ≤ k * 8
      both i j k u v = omega arith

  -- a number up to p times a power of 2 that fits a word
  pub shifted : (s n : ℕ) → s ≤ p → n < word → Reducible p q (s * n)
  shifted s n hs hn = record { turns = t; small = less (s * n) (p * n) (p * word) (mul-le-mul {n₁ = s} {m₁ = n} {n₂ = p} {m₂ = n} hs (omega arith)) (mul-lt-mul_of_pos_left {m = n} {n = word} {k = p} hn t.some) }
    where
      less : (i j k : ℕ) → i ≤ j → j < k → i < k
      less i j k u v = omega arith
