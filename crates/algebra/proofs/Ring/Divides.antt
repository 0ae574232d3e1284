-- Divisibility in a commutative ring. Gives: `Divides R d a` with its factor, a ≡ factor · d, and how it goes with sums, opposites,
-- products and chains.
use mathlib.Core.Path.{◌≡◌, sym, ap, ap₂, ◌∙◌}
use Rattle.algebra.proofs.Ring.CRing.{CRing, zer_mul, neg_mul}

pub record Divides (R : CRing) (d a : R.El) : Type 0 where
  pub factor : R.El
  pub is : a ≡ R.mul factor d

module _ (R : CRing) where
  open R use {El as A, add as ◌+◌, mul as ◌*◌, neg, zer as 𝟘, mul_assoc, add-mul}

  infixl 65 ◌+◌
  infixl 70 ◌*◌
  pub divides_zer : (d : A) → Divides R d 𝟘
  divides_zer d = record { factor = 𝟘; is = sym (zer_mul R d) }

  pub divides_add : {d a b : A} → Divides R d a → Divides R d b → Divides R d (a + b)
  divides_add {d} h k = record { factor = h.factor + k.factor; is = ap₂ ◌+◌ h.is k.is ∙ sym (add-mul h.factor k.factor d) }

  pub divides_neg : {d a : A} → Divides R d a → Divides R d (neg a)
  divides_neg {d} h = record { factor = neg h.factor; is = ap neg h.is ∙ sym (neg_mul R h.factor d) }

  -- c · a, for any c
  pub divides_mul : {d a : A} (c : A) → Divides R d a → Divides R d (c * a)
  divides_mul {d} c h = record { factor = c * h.factor; is = ap (λ t. c * t) h.is ∙ sym (mul_assoc c h.factor d) }

  pub divides_trans : {d a b : A} → Divides R d a → Divides R a b → Divides R d b
  divides_trans {d} h k = record { factor = k.factor * h.factor; is = k.is ∙ ap (λ t. k.factor * t) h.is ∙ sym (mul_assoc k.factor h.factor d) }

  pub divides_eq : {d a b : A} → a ≡ b → Divides R d a → Divides R d b
  divides_eq e h = record { factor = h.factor; is = sym e ∙ h.is }
