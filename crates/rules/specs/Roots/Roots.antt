-- W-213: the value of a monic polynomial, given by its lower coefficients, at y; it is 0 where y is a root.
use Rattle.std.specs.Prelude.{List, [], ◌∷◌}
use Rattle.algebra.proofs.Ring.CRing.{CRing}

module _ (R : CRing) where
  open R use {El as A, add as ◌⊕◌, mul as ◌⊗◌, one as 𝟙}

  infixl 65 ◌⊕◌
  infixl 70 ◌⊗◌
  unfoldable pub value : List A → A → A
  value [] y = 𝟙
  value (c ∷ l) y = c ⊕ y ⊗ value l y
