-- Values made step by step: r is made of x and y, which are a and b, so r is made of a and b. A law for each place that is itself made; with
-- every value named, so that nothing is left to be found.
use mathlib.Core.Path.{◌≡◌, refl, ap₂, ◌∙◌}
use Rattle.algebra.proofs.Ring.CRing.{CRing}

module _ (F : CRing) where
  open F use {El as A, add as ◌+◌, mul as ◌*◌, neg}

  infixl 65 ◌+◌
  infixl 65 ◌-◌
  infixl 70 ◌*◌
  abbrev ◌-◌ : A → A → A
  a - b = a + neg b

  pub same : (a x r : A) → x ≡ a → r ≡ x → r ≡ a
  same a x r h hr = hr ∙ h

  pub plus : (a b x y r : A) → x ≡ a → y ≡ b → r ≡ x + y → r ≡ a + b
  plus a b x y r h k hr = hr ∙ ap₂ ◌+◌ h k

  pub plus_first : (a x y r : A) → x ≡ a → r ≡ x + y → r ≡ a + y
  plus_first a x y r h hr = hr ∙ ap₂ ◌+◌ h refl

  pub plus_last : (b x y r : A) → y ≡ b → r ≡ x + y → r ≡ x + b
  plus_last b x y r k hr = hr ∙ ap₂ ◌+◌ refl k

  pub less : (a b x y r : A) → x ≡ a → y ≡ b → r ≡ x - y → r ≡ a - b
  less a b x y r h k hr = hr ∙ ap₂ ◌-◌ h k

  pub less_first : (a x y r : A) → x ≡ a → r ≡ x - y → r ≡ a - y
  less_first a x y r h hr = hr ∙ ap₂ ◌-◌ h refl

  pub less_last : (b x y r : A) → y ≡ b → r ≡ x - y → r ≡ x - b
  less_last b x y r k hr = hr ∙ ap₂ ◌-◌ refl k

  pub dot_last : (b s t u y r : A) → y ≡ b → r ≡ s * t + u * y → r ≡ s * t + u * b
  dot_last b s t u y r k hr = hr ∙ ap₂ ◌+◌ refl (ap₂ ◌*◌ refl k)

  pub dot_ends : (a b x t u y r : A) → x ≡ a → y ≡ b → r ≡ x * t + u * y → r ≡ a * t + u * b
  dot_ends a b x t u y r h k hr = hr ∙ ap₂ ◌+◌ (ap₂ ◌*◌ h refl) (ap₂ ◌*◌ refl k)
