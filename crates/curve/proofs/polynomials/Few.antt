-- Polynomials of few coefficients. Gives: one more coefficient at the end of a list is one more term (`one_term`, `next_term`).
use Prim.Native.Nat.{ℕ, suc, ◌+◌, max}
use mathlib.Core.Path.{◌≡◌, refl, sym, ap, ap₂, ◌∙◌}
use mathlib.Core.List.{List, [], ◌∷◌, ◌++◌}
use native.Mathlib.Omega.{arith}
use lib.ListN.{length}
use Rattle.algebra.proofs.Ring.Quote.{ring, quote}
use Rattle.algebra.proofs.Poly.Term.{term, C, X, term_mul}
use Rattle.algebra.proofs.List.Value.{pol as list-pol, pol_nil, pol_cons}
use Rattle.field.specs.declared.Modulus.{Modulus}
use Rattle.poly.specs.declared.Poly.{Poly}
use Rattle.poly.specs.Polys.{K, P, pol, Is}

module _ (m : Modulus) where
  open K m use {El as A, one as 𝟙}
  open P m use {add as ◌+P◌, mul as ◌*P◌}

  infixl 65 ◌+P◌
  infixl 70 ◌*P◌
  one_more : (n : ℕ) → 1 + n ≡ suc n
  one_more n = omega arith

  append_term : (l : List A) (b : A) → list-pol (K m) (l ++ (b ∷ [])) ≡ list-pol (K m) l +P term (K m) b (length l)
  append_term [] b = pol_cons (K m) b [] ∙ ap (λ t. C (K m) b +P X (K m) *P t) (pol_nil (K m)) ∙ ring (P m) (C (K m) b ∷ X (K m) ∷ []) (search quote depth 40) refl ∙ ap (λ t. t +P C (K m) b) (sym (pol_nil (K m)))
  append_term (a ∷ l) b = pol_cons (K m) a (l ++ (b ∷ [])) ∙ ap (λ t. C (K m) a +P X (K m) *P t) (append_term l b)
      ∙ ring (P m) (C (K m) a ∷ X (K m) ∷ list-pol (K m) l ∷ term (K m) b (length l) ∷ []) (search quote depth 40) refl
      ∙ ap₂ ◌+P◌ (sym (pol_cons (K m) a l)) (term_mul (K m) 𝟙 b 1 (length l) ∙ ap₂ (term (K m)) ((K m).one-mul b) (one_more (length l)))

  pub one_term : {r : Poly} (a : A) → Is m r (C (K m) a) 1 → Is m r (list-pol (K m) (a ∷ [])) 1
  one_term a h = record { ok = h.ok; is = h.is ∙ sym (append_term [] a ∙ ap (λ t. t +P C (K m) a) (pol_nil (K m)) ∙ (P m).zer_add (C (K m) a)); short = h.short }

  pub next_term : (l : List A) {x r : Poly} (b : A) → Is m x (list-pol (K m) l) (length l) → Is m r (pol m x +P term (K m) b (length l)) (max x.n (length l + 1)) → Is m r (list-pol (K m) (l ++ (b ∷ []))) (length l + 1)
  next_term l b h k = record { ok = k.ok; is = k.is ∙ ap (λ t. t +P term (K m) b (length l)) h.is ∙ sym (append_term l b); short = omega (arith, h.short, k.short) }
