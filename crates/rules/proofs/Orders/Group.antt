-- The order of an element of an abelian group. Gives: where t tells whether the m-fold of a is neutral, `is_order t` accepts n and a list of
-- primes exactly when these are n's and the m-fold is neutral exactly for the multiples m of n (`order_of`).
use Prim.Native.Nat.{ℕ}
use mathlib.Core.Path.{◌≡◌, refl, sym, ap, ap₂, ◌∙◌}
use mathlib.Core.Logic.{◌↔◌}
use mathlib.Core.List.{List}
use mathlib.Core.Bool.{Bool, true}
use Rattle.algebra.proofs.Group.Group.{AbGroup}
use Rattle.algebra.proofs.Group.Multiple.{nfold, nfold_add}
use Rattle.rules.specs.Orders.Tests.{is_order}
use Rattle.rules.proofs.Orders.Order.{Closed}
use Rattle.rules.proofs.Orders.Listed.{Order, order_test}

module _ (G : AbGroup) (a : G.El) where
  open G use {sum as ◌⊕◌, zer as 𝟘, zer_sum}

  infixl 65 ◌⊕◌
  pub multiples_closed : Closed (λ m. nfold G m a ≡ 𝟘)
  multiples_closed = record {
    at_zero = refl;
    sums = λ x y hx hy. nfold_add G x y a ∙ ap₂ ◌⊕◌ hx hy ∙ zer_sum 𝟘;
    rests = λ x y hx h. sym (zer_sum (nfold G y a)) ∙ ap (λ t. t ⊕ nfold G y a) (sym hx) ∙ sym (nfold_add G x y a) ∙ h;
  }

  pub order_of : (t : ℕ → Bool) → ((m : ℕ) → (t m ≡ true) ↔ (nfold G m a ≡ 𝟘)) → (n : ℕ) (l : List ℕ) → (is_order t n l ≡ true) ↔ Order (λ m. nfold G m a ≡ 𝟘) n l
  order_of t tests n l = order_test (λ m. nfold G m a ≡ 𝟘) multiples_closed t tests n l
