-- The steps as the code has them, in any ring, from those of the tables (formulas/Genus2): fewer products, and no sum more than is needed. (a0, a1), (c0, c1) are
-- u and v of the base pair, (b0, b1) is the other u. Gives: `times_is`, where e = i0 - b1·i1 is known; `quotient_is`, where i is; `tangent_is`, which inverts v in
-- place of 2v, so that v1² serves twice; `right_tops`.
use mathlib.Core.Path.{◌≡◌, refl, ◌∙◌}
use mathlib.Core.List.{[], ◌∷◌}
use Rattle.algebra.proofs.Ring.CRing.{CRing}
use Rattle.algebra.proofs.Ring.Quote.{ring, quote}
use Rattle.algebra.proofs.Poly.Bound.{Below}
use Rattle.algebra.proofs.Poly.Poly.{poly, coef}
use Rattle.algebra.proofs.Poly.Term.{C}
use Rattle.algebra.proofs.List.Ops.{add_l, mul_l, neg_l, scale_l, whole}
use Rattle.algebra.proofs.List.Value.{pol, mon}
use Rattle.sum_formulas.proofs.Lists.{lo, mo, co, pl, ti, equal_by}
use Rattle.sum_formulas.proofs.Genus2.{times2_is, quotient2_is, right2_tops}

module _ (F : CRing) where
  open F use {El as A, add as ◌+◌, mul as ◌*◌, neg, zer as 𝟘, one as 𝟙}

  infixl 65 ◌+◌
  infixl 65 ◌-◌
  infixl 70 ◌*◌
  abbrev ◌-◌ : A → A → A
  a - b = a + neg b

  open poly F use {add as ◌⊕◌, mul as ◌⊗◌, neg as negP}

  infixl 65 ◌⊕◌
  infixl 65 ◌⊖◌
  infixl 70 ◌⊗◌
  abbrev ◌⊖◌ : (poly F).El → (poly F).El → (poly F).El
  a ⊖ b = a ⊕ negP b

  pub times_is : (c0 c1 i0 i1 e b0 b1 k s1 s0 : A) → i0 ≡ b1 * i1 + e → k ≡ c1 * i1 → s1 ≡ c1 * e + c0 * i1 → s0 ≡ c0 * i0 - b0 * k
      → pol F (c0 ∷ c1 ∷ []) ⊗ pol F (i0 ∷ i1 ∷ []) ≡ C F k ⊗ mon F (b0 ∷ b1 ∷ []) ⊕ pol F (s0 ∷ s1 ∷ [])
  times_is c0 c1 i0 i1 e b0 b1 k s1 s0 h-i h-k h-s1 h-s0 = times2_is F c0 c1 i0 i1 b0 b1 (c1 * b1) k s1 s0 refl
      (h-k ∙ ring F (c1 ∷ i1 ∷ []) (search quote depth 40) refl)
      (h-s1 ∙ simp (h-i) (ring F (c0 ∷ c1 ∷ i1 ∷ e ∷ b1 ∷ []) (search quote depth 40) refl))
      (h-s0 ∙ ring F (c0 ∷ i0 ∷ b0 ∷ k ∷ []) (search quote depth 40) refl)

  pub quotient_is : (a0 a1 c0 c1 b0 b1 t wi f4 z1 z0 y w5 n1 n0 : A) → z1 ≡ b1 - a1 → z0 ≡ b1 * z1 + (a0 - b0) → y ≡ t - z1 → w5 ≡ wi * wi → n1 ≡ t + y - w5
      → n0 ≡ t * (y - z1) + z0 + ((c1 + c1) * wi + (a1 + b1 - f4) * w5)
      → Below F 2 (coef F (mon F (t ∷ []) ⊗ (mon F (t ∷ []) ⊗ mon F (a0 ∷ a1 ∷ []) ⊕ C F wi ⊗ (pol F (c0 ∷ c1 ∷ []) ⊕ pol F (c0 ∷ c1 ∷ []))) ⊖ C F wi ⊗ (C F wi ⊗ pol F (𝟘 ∷ 𝟘 ∷ (f4 - a1) ∷ 𝟙 ∷ [])) ⊖ mon F (b0 ∷ b1 ∷ []) ⊗ mon F (n0 ∷ n1 ∷ [])))
  quotient_is a0 a1 c0 c1 b0 b1 t wi f4 z1 z0 y w5 n1 n0 h-z1 h-z0 h-y h-w5 h-n1 h-n0 = quotient2_is F a0 a1 c0 c1 b0 b1 t wi f4 z1 w5 n1 n0 h-z1 h-w5
      (h-n1 ∙ simp (h-y) (ring F (t ∷ z1 ∷ w5 ∷ []) (search quote depth 40) refl))
      (h-n0 ∙ simp (h-y, h-z0) (ring F (a0 ∷ a1 ∷ c1 ∷ b0 ∷ b1 ∷ t ∷ wi ∷ f4 ∷ z1 ∷ w5 ∷ []) (search quote depth 40) refl))

  -- i·2v + 2y·u = 2·(v0·i0 + u0·y), y = v1²
  pub tangent_is : (a0 a1 c0 c1 y i1 i0 r : A) → y ≡ c1 * c1 → i1 ≡ neg c1 → i0 ≡ a1 * i1 + c0 → r ≡ c0 * i0 + a0 * y + (c0 * i0 + a0 * y)
      → pol F (i0 ∷ i1 ∷ []) ⊗ (pol F (c0 ∷ c1 ∷ []) ⊕ pol F (c0 ∷ c1 ∷ [])) ⊕ C F (y + y) ⊗ mon F (a0 ∷ a1 ∷ []) ≡ C F r
  unfolding add_l mul_l neg_l scale_l whole
  tangent_is a0 a1 c0 c1 y i1 i0 r h-y h-i1 h-i0 h-r =
      equal_by F (pl (ti (lo (i0 ∷ i1 ∷ [])) (pl (lo (c0 ∷ c1 ∷ [])) (lo (c0 ∷ c1 ∷ [])))) (ti (co (y + y)) (mo (a0 ∷ a1 ∷ [])))) (co r) (
        simp (h-r, h-i0, h-i1, h-y) (ring F (a0 ∷ a1 ∷ c0 ∷ c1 ∷ []) (search quote depth 40) refl),
        (
          simp (h-i0, h-i1, h-y) (ring F (a0 ∷ a1 ∷ c0 ∷ c1 ∷ []) (search quote depth 40) refl),
          (simp (h-i1, h-y) (ring F (a0 ∷ a1 ∷ c0 ∷ c1 ∷ i0 ∷ []) (search quote depth 40) refl), tt),
        ),
      )

  pub right_tops : (a0 a1 c0 c1 f0 f1 f2 f3 f4 y k e w4 d k1 k0 : A) → y ≡ c1 * c1 → k ≡ a1 - f4 → e ≡ a1 * k → w4 ≡ a0 + a0 → d ≡ f3 - w4 + e → k1 ≡ d + a1 * (a1 + k) → k0 ≡ f2 + (w4 * k - a1 * d) - y
      → Below F 2 (coef F (mon F (f0 ∷ f1 ∷ f2 ∷ f3 ∷ f4 ∷ []) ⊖ pol F (c0 ∷ c1 ∷ []) ⊗ pol F (c0 ∷ c1 ∷ []) ⊖ mon F (a0 ∷ a1 ∷ []) ⊗ (pol F ((f4 - (a1 + a1)) ∷ 𝟙 ∷ []) ⊗ mon F (a0 ∷ a1 ∷ []) ⊕ pol F (k0 ∷ k1 ∷ []))))
  right_tops a0 a1 c0 c1 f0 f1 f2 f3 f4 y k e w4 d k1 k0 h-y h-k h-e h-w4 h-d h-k1 h-k0 =
      right2_tops F a0 a1 c0 c1 f0 f1 f2 f3 f4 (a1 * a1) (a1 * (a1 - f4)) (a0 + a0) k1 k0 refl refl refl
      (simp (h-k1, h-d, h-w4, h-e, h-k) (ring F (a0 ∷ a1 ∷ f3 ∷ f4 ∷ []) (search quote depth 40) refl))
      (simp (h-k0, h-d, h-w4, h-e, h-k, h-y) (ring F (a0 ∷ a1 ∷ c1 ∷ f2 ∷ f3 ∷ f4 ∷ []) (search quote depth 40) refl))
