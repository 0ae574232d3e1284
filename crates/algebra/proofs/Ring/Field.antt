-- Rings to calculate in, and fields. Gives: `Arith`, a ring whose equality is decided, with a function for the inverse, of which nothing
-- is promised (so that a rule can calculate modulo any number); `Field`, an `Arith` whose inverse is right; and that in a field
-- products and opposites of nonzero elements are nonzero.
use mathlib.Core.Path.{◌≡◌, sym, ap, ◌∙◌}
use mathlib.Core.Logic.{◌≢◌}
use Rattle.algebra.proofs.Ring.CRing.{CRing, mul_zer, neg_neg, neg_zer}

pub record Arith : Type 1 where
  pub base : CRing
  pub dec : Discrete base.El
  pub inv : base.El → base.El

pub record Field : Type 1 where
  pub arith : Arith
  pub mul_inv : (a : arith.base.El) → a ≢ arith.base.zer → arith.base.mul a (arith.inv a) ≡ arith.base.one
  pub one_ne : arith.base.one ≢ arith.base.zer

module _ (K : Field) where
  open K.arith use {base as F}
  open F use {El as A, mul as ◌⊗◌, neg, zer as 𝟘, mul_comm, mul_assoc, one-mul}

  infixl 70 ◌⊗◌
  pub no_zero_divisors : (a b : A) → a ≢ 𝟘 → b ≢ 𝟘 → a ⊗ b ≢ 𝟘
  no_zero_divisors a b ha hb e = hb (sym (ap (λ t. t ⊗ b) (mul_comm i a ∙ K.mul_inv a ha) ∙ one-mul b) ∙ mul_assoc i a b ∙ ap (λ t. i ⊗ t) e ∙ mul_zer F i)
    where
      i : A
      i = K.arith.inv a

  pub neg_ne : (a : A) → a ≢ 𝟘 → neg a ≢ 𝟘
  neg_ne a h e = h (sym (neg_neg F a) ∙ ap neg e ∙ neg_zer F)
