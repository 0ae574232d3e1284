-- f - v² by its coefficients, for v of one, two and three: those that v² reaches are changed, the others stay as they are in f.
use mathlib.Core.Path.{◌≡◌, refl, sym, ap, ap₂, ◌∙◌}
use mathlib.Core.List.{List, [], ◌∷◌}
use Rattle.algebra.proofs.Ring.CRing.{CRing}
use Rattle.algebra.proofs.Ring.Quote.{ring, quote}
use Rattle.algebra.proofs.Poly.Poly.{poly}
use Rattle.algebra.proofs.Poly.Term.{C, X, constants}
use Rattle.algebra.proofs.List.Ops.{whole}
use Rattle.algebra.proofs.List.Value.{pol, mon, pol_cons, mon_cons, pol_whole}
use Rattle.algebra.proofs.List.Short.{pol1, pol2, pol3}

module _ (F : CRing) where
  open F use {El as A, add as ◌⊕◌, mul as ◌⊗◌, neg as opp}

  infixl 65 ◌⊕◌
  infixl 65 ◌⊖◌
  infixl 70 ◌⊗◌
  abbrev ◌⊖◌ : A → A → A
  a ⊖ b = a ⊕ opp b

  open poly F use {El as P, add as ◌+◌, mul as ◌*◌, neg}

  infixl 65 ◌+◌
  infixl 70 ◌*◌
  less_is : (c t u : A) → C F (c ⊖ t ⊗ u) ≡ C F c + neg (C F t * C F u)
  less_is c t u = (constants F).h_add c (opp (t ⊗ u)) ∙ ap (λ s. C F c + s) ((constants F).h_neg (t ⊗ u) ∙ ap neg ((constants F).h_mul t u))

  twice_is : (v : A) → C F (v ⊕ v) ≡ C F v + C F v
  twice_is v = (constants F).h_add v v

  -- the first coefficients of a list, and of a monic one
  next : (h : A) (l : List A) {b : P} → pol F l ≡ b → pol F (h ∷ l) ≡ C F h + X F * b
  next h l e = pol_cons F h l ∙ ap (λ s. C F h + X F * s) e

  next_mon : (h : A) (l : List A) {b : P} → mon F l ≡ b → mon F (h ∷ l) ≡ C F h + X F * b
  next_mon h l e = mon_cons F h l ∙ ap (λ s. C F h + X F * s) e

  module _ (t : List A) (f0 v0 : A) where
    pub square_one : pol F ((f0 ⊖ v0 ⊗ v0) ∷ whole F t) ≡ mon F (f0 ∷ t) + neg (pol F (v0 ∷ []) * pol F (v0 ∷ []))
    square_one = next (f0 ⊖ v0 ⊗ v0) (whole F t) (pol_whole F t) ∙ ap (λ s. s + X F * mon F t) (less_is f0 v0 v0)
        ∙ ring (poly F) (C F f0 ∷ C F v0 ∷ X F ∷ mon F t ∷ []) (search quote depth 40) refl
        ∙ sym (ap₂ (λ s v. s + neg (v * v)) (mon_cons F f0 t) (pol1 F v0))

    module _ (f1 f2 v1 : A) where
      pub square_two : pol F ((f0 ⊖ v0 ⊗ v0) ∷ (f1 ⊖ (v0 ⊕ v0) ⊗ v1) ∷ (f2 ⊖ v1 ⊗ v1) ∷ whole F t)
          ≡ mon F (f0 ∷ f1 ∷ f2 ∷ t) + neg (pol F (v0 ∷ v1 ∷ []) * pol F (v0 ∷ v1 ∷ []))
      square_two =
          next (f0 ⊖ v0 ⊗ v0) ((f1 ⊖ (v0 ⊕ v0) ⊗ v1) ∷ (f2 ⊖ v1 ⊗ v1) ∷ whole F t) (next (f1 ⊖ (v0 ⊕ v0) ⊗ v1) ((f2 ⊖ v1 ⊗ v1) ∷ whole F t) (next (f2 ⊖ v1 ⊗ v1) (whole F t) (pol_whole F t)))
          ∙ ap₂ (λ s r. s + X F * r) (less_is f0 v0 v0)
          (ap₂ (λ s r. s + X F * r) (less_is f1 (v0 ⊕ v0) v1 ∙ ap (λ s. C F f1 + neg (s * C F v1)) (twice_is v0)) (ap (λ s. s + X F * mon F t) (less_is f2 v1 v1)))
          ∙ ring (poly F) (C F f0 ∷ C F f1 ∷ C F f2 ∷ C F v0 ∷ C F v1 ∷ X F ∷ mon F t ∷ []) (search quote depth 40) refl
          ∙ sym (ap₂ (λ s v. s + neg (v * v)) (next_mon f0 (f1 ∷ f2 ∷ t) (next_mon f1 (f2 ∷ t) (mon_cons F f2 t))) (pol2 F v0 v1))

      module _ (f3 f4 v2 : A) where
        abbrev h2 : A
        h2 = f2 ⊖ v1 ⊗ v1 ⊖ (v0 ⊕ v0) ⊗ v2

        h2_is : C F h2 ≡ C F f2 + neg (C F v1 * C F v1) + neg ((C F v0 + C F v0) * C F v2)
        h2_is = less_is (f2 ⊖ v1 ⊗ v1) (v0 ⊕ v0) v2 ∙ ap₂ (λ s v. s + neg (v * C F v2)) (less_is f2 v1 v1) (twice_is v0)

        pub square_three : pol F ((f0 ⊖ v0 ⊗ v0) ∷ (f1 ⊖ (v0 ⊕ v0) ⊗ v1) ∷ h2 ∷ (f3 ⊖ (v1 ⊕ v1) ⊗ v2) ∷ (f4 ⊖ v2 ⊗ v2) ∷ whole F t)
            ≡ mon F (f0 ∷ f1 ∷ f2 ∷ f3 ∷ f4 ∷ t) + neg (pol F (v0 ∷ v1 ∷ v2 ∷ []) * pol F (v0 ∷ v1 ∷ v2 ∷ []))
        square_three =
            next (f0 ⊖ v0 ⊗ v0) ((f1 ⊖ (v0 ⊕ v0) ⊗ v1) ∷ h2 ∷ (f3 ⊖ (v1 ⊕ v1) ⊗ v2) ∷ (f4 ⊖ v2 ⊗ v2) ∷ whole F t)
            (next (f1 ⊖ (v0 ⊕ v0) ⊗ v1) (h2 ∷ (f3 ⊖ (v1 ⊕ v1) ⊗ v2) ∷ (f4 ⊖ v2 ⊗ v2) ∷ whole F t)
            (next h2 ((f3 ⊖ (v1 ⊕ v1) ⊗ v2) ∷ (f4 ⊖ v2 ⊗ v2) ∷ whole F t)
            (next (f3 ⊖ (v1 ⊕ v1) ⊗ v2) ((f4 ⊖ v2 ⊗ v2) ∷ whole F t)
            (next (f4 ⊖ v2 ⊗ v2) (whole F t) (pol_whole F t)))))
            ∙ ap₂ (λ s r. s + X F * r) (less_is f0 v0 v0)
            (ap₂ (λ s r. s + X F * r) (less_is f1 (v0 ⊕ v0) v1 ∙ ap (λ s. C F f1 + neg (s * C F v1)) (twice_is v0))
            (ap₂ (λ s r. s + X F * r) h2_is
            (ap₂ (λ s r. s + X F * r) (less_is f3 (v1 ⊕ v1) v2 ∙ ap (λ s. C F f3 + neg (s * C F v2)) (twice_is v1))
            (ap (λ s. s + X F * mon F t) (less_is f4 v2 v2)))))
            ∙ ring (poly F) (C F f0 ∷ C F f1 ∷ C F f2 ∷ C F f3 ∷ C F f4 ∷ C F v0 ∷ C F v1 ∷ C F v2 ∷ X F ∷ mon F t ∷ []) (search quote depth 40) refl
            ∙ sym (ap₂ (λ s v. s + neg (v * v)) (next_mon f0 (f1 ∷ f2 ∷ f3 ∷ f4 ∷ t) (next_mon f1 (f2 ∷ f3 ∷ f4 ∷ t) (next_mon f2 (f3 ∷ f4 ∷ t) (next_mon f3 (f4 ∷ t) (mon_cons F f4 t))))) (pol3 F v0 v1 v2))
