-- Powers by squaring: x · y^k stays what was asked for while k falls to 0.
use Prim.Native.Nat.{ℕ, ◌+◌, ◌-◌, ◌*◌, ◌/◌, ◌%◌, ◌≤◌, ◌<◌}
use mathlib.Core.Path.{◌≡◌, sym, ap, ◌∙◌}
use native.Mathlib.Omega.{arith}
use Rattle.algebra.proofs.Ring.CRing.{mul-one}
use Rattle.algebra.proofs.Ring.Power.{power, power_none, power_more, power_even}
use Rattle.algebra.proofs.Zmod.Zmod.{zmod}
use Rattle.field_words.specs.Reduced.{Turns, Reduced, Reducible}
use Rattle.field_words.proofs.Bounds.{one_product}
use Rattle.field_montgomery.specs.Back.{back, element}
use Rattle.field_montgomery.specs.Powers.{ToPower, Powered}
use Rattle.field_montgomery.proofs.Back.{back_word, product_is}

module _ (p q a n : ℕ) where
  open zmod p use {mul as ◌⊗◌, one as 𝟙, mul_assoc, one-mul}

  infixl 70 ◌⊗◌
  pub record Powering (x y k : ℕ) : Type 0 where
    pub turns : Turns p q
    pub x_below : x < p + p
    pub y_below : y < p + p
    pub is : element p q x ⊗ power (zmod p) (element p q y) k ≡ power (zmod p) (element p q a) n

  pub power_begin : {x : ℕ} → ToPower p q x a → Powering x a n
  power_begin {x} h = record {
    turns = h.turns;
    x_below = omega (arith, h.one_below);
    y_below = h.below;
    is = ap (λ t. t ⊗ power (zmod p) (element p q a) n) (ap (λ i. i ⊗ back p q) h.one_is ∙ back_word p q h.turns) ∙ one-mul (power (zmod p) (element p q a) n);
  }

  module _ {x y k : ℕ} (h : Powering x y k) where
    pub both_requires : Reducible p q (x * y)
    both_requires = one_product h.turns x y (omega (arith, h.x_below)) (omega (arith, h.y_below))

    pub square_requires : Reducible p q (y * y)
    square_requires = one_product h.turns y y (omega (arith, h.y_below)) (omega (arith, h.y_below))

    pub power_odd_turn : {z : ℕ} → 0 < k → Reduced p (x * y) z → Powering z y (k - 1)
    power_odd_turn {z} l s = record {
      turns = h.turns;
      x_below = s.below;
      y_below = h.y_below;
      is = ap (λ t. t ⊗ power (zmod p) (element p q y) (k - 1)) (product_is p q h.turns x y s) ∙ mul_assoc (element p q x) (element p q y) (power (zmod p) (element p q y) (k - 1)) ∙ ap (λ t. element p q x ⊗ t) (sym (power_more (zmod p) (element p q y) k l)) ∙ h.is;
    }

    pub power_even_turn : {z : ℕ} → k % 2 ≡ 0 → Reduced p (y * y) z → Powering x z (k / 2)
    power_even_turn {z} e s = record {
      turns = h.turns;
      x_below = h.x_below;
      y_below = s.below;
      is = ap (λ t. element p q x ⊗ power (zmod p) t (k / 2)) (product_is p q h.turns y y s) ∙ ap (λ t. element p q x ⊗ t) (power_even (zmod p) (element p q y) k e) ∙ h.is;
    }

    pub power_end : k ≤ 0 → Powered p q a n x
    power_end l = record { below = h.x_below; is = sym (ap (λ (j : ℕ). element p q x ⊗ power (zmod p) (element p q y) j) {x = k} {y = 0} (omega arith) ∙ ap (λ t. element p q x ⊗ t) (power_none (zmod p) (element p q y)) ∙ mul-one (zmod p) (element p q x)) ∙ h.is }
