-- The steps of the formulae of genus 2, in any ring: each takes the equations that code keeps, a name a line, and gives an equation of K[x], or that a
-- difference is below 2. (a0, a1), (c0, c1) are u and v of the base pair, (b0, b1) is the other u.
use mathlib.Core.Path.{◌≡◌, refl}
use mathlib.Core.List.{[], ◌∷◌}
use Rattle.algebra.proofs.Ring.CRing.{CRing}
use Rattle.algebra.proofs.Ring.Quote.{ring, quote, by}
use Rattle.algebra.proofs.Poly.Bound.{Below}
use Rattle.algebra.proofs.Poly.Poly.{poly, coef}
use Rattle.algebra.proofs.Poly.Term.{C}
use Rattle.algebra.proofs.List.Ops.{add_l, mul_l, neg_l, scale_l, whole}
use Rattle.algebra.proofs.List.Value.{pol, mon}
use Rattle.sum_formulas.proofs.Lists.{lo, mo, co, pl, ti, ne, equal_by, below_by}

module _ (F : CRing) where
  open F use {El as A, add as ◌+◌, mul as ◌*◌, neg, zer as 𝟘, one as 𝟙}

  infixl 65 ◌+◌
  infixl 65 ◌-◌
  infixl 70 ◌*◌
  abbrev ◌-◌ : A → A → A
  a - b = a + neg b

  open poly F use {add as ◌⊕◌, mul as ◌⊗◌, neg as negP, one as 1P}

  infixl 65 ◌⊕◌
  infixl 65 ◌⊖◌
  infixl 70 ◌⊗◌
  abbrev ◌⊖◌ : (poly F).El → (poly F).El → (poly F).El
  a ⊖ b = a ⊕ negP b

  pub invert2_is : (a0 a1 b0 b1 z1 z2 z3 r : A) → z1 ≡ b1 - a1 → z2 ≡ a0 - b0 → z3 ≡ b1 * z1 + z2 → r ≡ z2 * z3 + z1 * z1 * b0
      → pol F (z3 ∷ z1 ∷ []) ⊗ mon F (a0 ∷ a1 ∷ []) ⊕ negP (pol F ((z3 - z1 * z1) ∷ z1 ∷ [])) ⊗ mon F (b0 ∷ b1 ∷ []) ≡ C F r
  unfolding add_l mul_l neg_l scale_l whole
  invert2_is a0 a1 b0 b1 z1 z2 z3 r h-z1 h-z2 h-z3 h-r =
      equal_by F (pl (ti (lo (z3 ∷ z1 ∷ [])) (mo (a0 ∷ a1 ∷ []))) (ti (ne (lo ((z3 - z1 * z1) ∷ z1 ∷ []))) (mo (b0 ∷ b1 ∷ [])))) (co r) (
        simp (h-r, h-z3, h-z2, h-z1) (ring F (a0 ∷ a1 ∷ b0 ∷ b1 ∷ []) (search quote depth 40) refl),
        (
          simp (h-r, h-z3, h-z2, h-z1) (ring F (a0 ∷ a1 ∷ b0 ∷ b1 ∷ []) (search quote depth 40) refl),
          (
            simp (h-r, h-z3, h-z2, h-z1) (ring F (a0 ∷ a1 ∷ b0 ∷ b1 ∷ []) (search quote depth 40) refl),
            (
              simp (h-r, h-z3, h-z2, h-z1) (ring F (a0 ∷ a1 ∷ b0 ∷ b1 ∷ []) (search quote depth 40) refl),
              tt,
            ),
          ),
        ),
      )

  -- a product modulo u
  pub times2_is : (c0 c1 i0 i1 b0 b1 y w3 s1 s0 : A) → y ≡ c1 * b1 → w3 ≡ i1 * c1 → s1 ≡ i0 * c1 + i1 * (c0 - y) → s0 ≡ i0 * c0 - b0 * w3
      → pol F (c0 ∷ c1 ∷ []) ⊗ pol F (i0 ∷ i1 ∷ []) ≡ C F w3 ⊗ mon F (b0 ∷ b1 ∷ []) ⊕ pol F (s0 ∷ s1 ∷ [])
  unfolding add_l mul_l neg_l scale_l whole
  times2_is c0 c1 i0 i1 b0 b1 y w3 s1 s0 h-y h-w3 h-s1 h-s0 =
      equal_by F (ti (lo (c0 ∷ c1 ∷ [])) (lo (i0 ∷ i1 ∷ []))) (pl (ti (co w3) (mo (b0 ∷ b1 ∷ []))) (lo (s0 ∷ s1 ∷ []))) (
        simp (h-s0, h-s1, h-w3, h-y) (ring F (c0 ∷ c1 ∷ i0 ∷ i1 ∷ b0 ∷ b1 ∷ []) (search quote depth 40) refl),
        (
          simp (h-s0, h-s1, h-w3, h-y) (ring F (c0 ∷ c1 ∷ i0 ∷ i1 ∷ b0 ∷ b1 ∷ []) (search quote depth 40) refl),
          (
            simp (h-s0, h-s1, h-w3, h-y) (ring F (c0 ∷ c1 ∷ i0 ∷ i1 ∷ b0 ∷ b1 ∷ []) (search quote depth 40) refl),
            tt,
          ),
        ),
      )

  pub slope2_is : (r s0 s1 i x w t : A) → x ≡ r * i → w ≡ s1 * s1 * i → t ≡ s0 * x → r * s1 * i ≡ 𝟙
      → C F r ⊗ (C F w ⊗ mon F (t ∷ [])) ≡ pol F (s0 ∷ s1 ∷ [])
  unfolding add_l mul_l neg_l scale_l whole
  slope2_is r s0 s1 i x w t h-x h_w h-t hi =
      equal_by F (ti (co r) (ti (co w) (mo (t ∷ [])))) (lo (s0 ∷ s1 ∷ [])) (
        simp (h-t, h_w, h-x) (by F (s0 * (r * s1 * i + 𝟙)) hi (ring F (r ∷ s0 ∷ s1 ∷ i ∷ []) (search quote depth 40) refl)),
        (
          simp (h-t, h_w, h-x) (by F (s1) hi (ring F (r ∷ s0 ∷ s1 ∷ i ∷ []) (search quote depth 40) refl)),
          tt,
        ),
      )

  pub unit2_is : (r s1 i x w wi : A) → x ≡ r * i → w ≡ s1 * s1 * i → wi ≡ r * x → r * s1 * i ≡ 𝟙
      → C F w ⊗ C F wi ≡ C F 𝟙
  unfolding add_l mul_l neg_l scale_l whole
  unit2_is r s1 i x w wi h-x h_w h-wi hi =
      equal_by F (ti (co w) (co wi)) (co 𝟙) (
        simp (h-wi, h_w, h-x) (by F (r * s1 * i + 𝟙) hi (ring F (r ∷ s1 ∷ i ∷ []) (search quote depth 40) refl)),
        tt,
      )

  pub gap2_is : (c0 c1 d0 d1 w0 w1 : A) → w0 ≡ d0 - c0 → w1 ≡ d1 - c1
      → pol F (w0 ∷ w1 ∷ []) ≡ pol F (d0 ∷ d1 ∷ []) ⊖ pol F (c0 ∷ c1 ∷ [])
  unfolding add_l mul_l neg_l scale_l whole
  gap2_is c0 c1 d0 d1 w0 w1 h-w0 h-w1 =
      equal_by F (lo (w0 ∷ w1 ∷ [])) (pl (lo (d0 ∷ d1 ∷ [])) (ne (lo (c0 ∷ c1 ∷ [])))) (
        simp (h-w1, h-w0) (ring F (c0 ∷ c1 ∷ d0 ∷ d1 ∷ []) (search quote depth 40) refl),
        (
          simp (h-w1, h-w0) (ring F (c0 ∷ c1 ∷ d0 ∷ d1 ∷ []) (search quote depth 40) refl),
          tt,
        ),
      )

  -- (f - v²)/u from place 2 on
  pub tops_f2 : (a0 a1 f0 f1 f2 f3 f4 : A)
      → Below F 4 (coef F (mon F (f0 ∷ f1 ∷ f2 ∷ f3 ∷ f4 ∷ []) ⊖ mon F (a0 ∷ a1 ∷ []) ⊗ pol F (𝟘 ∷ 𝟘 ∷ (f4 - a1) ∷ 𝟙 ∷ [])))
  unfolding add_l mul_l neg_l scale_l whole
  tops_f2 a0 a1 f0 f1 f2 f3 f4 =
      below_by F 4 (mo (f0 ∷ f1 ∷ f2 ∷ f3 ∷ f4 ∷ [])) (ti (mo (a0 ∷ a1 ∷ [])) (lo (𝟘 ∷ 𝟘 ∷ (f4 - a1) ∷ 𝟙 ∷ []))) (
        ring F (a0 ∷ a1 ∷ f0 ∷ f1 ∷ f2 ∷ f3 ∷ f4 ∷ []) (search quote depth 40) refl,
        (
          ring F (a0 ∷ a1 ∷ f0 ∷ f1 ∷ f2 ∷ f3 ∷ f4 ∷ []) (search quote depth 40) refl,
          tt,
        ),
      )

  pub quotient2_is : (a0 a1 c0 c1 b0 b1 t wi f4 z1 w5 n1 n0 : A) → z1 ≡ b1 - a1 → w5 ≡ wi * wi → n1 ≡ t + t - z1 - w5 → n0 ≡ t * (t - (z1 + z1)) + b1 * z1 + ((c1 + c1) * wi + (a1 + b1 - f4) * w5) + a0 - b0
      → Below F 2 (coef F (mon F (t ∷ []) ⊗ (mon F (t ∷ []) ⊗ mon F (a0 ∷ a1 ∷ []) ⊕ C F wi ⊗ (pol F (c0 ∷ c1 ∷ []) ⊕ pol F (c0 ∷ c1 ∷ []))) ⊖ C F wi ⊗ (C F wi ⊗ pol F (𝟘 ∷ 𝟘 ∷ (f4 - a1) ∷ 𝟙 ∷ [])) ⊖ mon F (b0 ∷ b1 ∷ []) ⊗ mon F (n0 ∷ n1 ∷ [])))
  unfolding add_l mul_l neg_l scale_l whole
  quotient2_is a0 a1 c0 c1 b0 b1 t wi f4 z1 w5 n1 n0 h-z1 h-w5 h-n1 h-n0 =
      below_by F 2 (pl (ti (mo (t ∷ [])) (pl (ti (mo (t ∷ [])) (mo (a0 ∷ a1 ∷ []))) (ti (co wi) (pl (lo (c0 ∷ c1 ∷ [])) (lo (c0 ∷ c1 ∷ [])))))) (ne (ti (co wi) (ti (co wi) (lo (𝟘 ∷ 𝟘 ∷ (f4 - a1) ∷ 𝟙 ∷ [])))))) (ti (mo (b0 ∷ b1 ∷ [])) (mo (n0 ∷ n1 ∷ []))) (
        simp (h-n0, h-n1, h-w5, h-z1) (ring F (a0 ∷ a1 ∷ c0 ∷ c1 ∷ b0 ∷ b1 ∷ t ∷ wi ∷ f4 ∷ []) (search quote depth 40) refl),
        (
          simp (h-n0, h-n1, h-w5, h-z1) (ring F (a0 ∷ a1 ∷ c0 ∷ c1 ∷ b0 ∷ b1 ∷ t ∷ wi ∷ f4 ∷ []) (search quote depth 40) refl),
          (
            ring F (a0 ∷ a1 ∷ c0 ∷ c1 ∷ b0 ∷ b1 ∷ t ∷ wi ∷ f4 ∷ z1 ∷ w5 ∷ n1 ∷ n0 ∷ []) (search quote depth 40) refl,
            tt,
          ),
        ),
      )

  pub quotient2_twice : (a0 a1 c0 c1 t wi f4 w5 n1 n0 : A) → w5 ≡ wi * wi → n1 ≡ t + t - w5 → n0 ≡ t * t + (c1 + c1) * wi + w5 * (a1 + a1 - f4)
      → Below F 2 (coef F (mon F (t ∷ []) ⊗ (mon F (t ∷ []) ⊗ mon F (a0 ∷ a1 ∷ []) ⊕ C F wi ⊗ (pol F (c0 ∷ c1 ∷ []) ⊕ pol F (c0 ∷ c1 ∷ []))) ⊖ C F wi ⊗ (C F wi ⊗ pol F (𝟘 ∷ 𝟘 ∷ (f4 - a1) ∷ 𝟙 ∷ [])) ⊖ mon F (a0 ∷ a1 ∷ []) ⊗ mon F (n0 ∷ n1 ∷ [])))
  unfolding add_l mul_l neg_l scale_l whole
  quotient2_twice a0 a1 c0 c1 t wi f4 w5 n1 n0 h-w5 h-n1 h-n0 =
      below_by F 2 (pl (ti (mo (t ∷ [])) (pl (ti (mo (t ∷ [])) (mo (a0 ∷ a1 ∷ []))) (ti (co wi) (pl (lo (c0 ∷ c1 ∷ [])) (lo (c0 ∷ c1 ∷ [])))))) (ne (ti (co wi) (ti (co wi) (lo (𝟘 ∷ 𝟘 ∷ (f4 - a1) ∷ 𝟙 ∷ [])))))) (ti (mo (a0 ∷ a1 ∷ [])) (mo (n0 ∷ n1 ∷ []))) (
        simp (h-n0, h-n1, h-w5) (ring F (a0 ∷ a1 ∷ c0 ∷ c1 ∷ t ∷ wi ∷ f4 ∷ []) (search quote depth 40) refl),
        (
          simp (h-n0, h-n1, h-w5) (ring F (a0 ∷ a1 ∷ c0 ∷ c1 ∷ t ∷ wi ∷ f4 ∷ []) (search quote depth 40) refl),
          (
            ring F (a0 ∷ a1 ∷ c0 ∷ c1 ∷ t ∷ wi ∷ f4 ∷ w5 ∷ n1 ∷ n0 ∷ []) (search quote depth 40) refl,
            tt,
          ),
        ),
      )

  pub rest2_is : (a0 a1 c0 c1 t w n0 n1 w1 r1 r0 : A) → w1 ≡ a1 + t - n1 → r1 ≡ w * (n1 * w1 - a1 * t + n0 - a0) - c1 → r0 ≡ w * (n0 * w1 - a0 * t) - c0
      → pol F (c0 ∷ c1 ∷ []) ⊕ C F w ⊗ mon F (t ∷ []) ⊗ mon F (a0 ∷ a1 ∷ []) ≡ pol F ((w * w1) ∷ w ∷ []) ⊗ mon F (n0 ∷ n1 ∷ []) ⊖ pol F (r0 ∷ r1 ∷ [])
  unfolding add_l mul_l neg_l scale_l whole
  rest2_is a0 a1 c0 c1 t w n0 n1 w1 r1 r0 h-w1 h-r1 h-r0 =
      equal_by F (pl (lo (c0 ∷ c1 ∷ [])) (ti (ti (co w) (mo (t ∷ []))) (mo (a0 ∷ a1 ∷ [])))) (pl (ti (lo ((w * w1) ∷ w ∷ [])) (mo (n0 ∷ n1 ∷ []))) (ne (lo (r0 ∷ r1 ∷ [])))) (
        simp (h-r0, h-r1, h-w1) (ring F (a0 ∷ a1 ∷ c0 ∷ c1 ∷ t ∷ w ∷ n0 ∷ n1 ∷ []) (search quote depth 40) refl),
        (
          simp (h-r0, h-r1, h-w1) (ring F (a0 ∷ a1 ∷ c0 ∷ c1 ∷ t ∷ w ∷ n0 ∷ n1 ∷ []) (search quote depth 40) refl),
          (
            simp (h-r0, h-r1, h-w1) (ring F (a0 ∷ a1 ∷ c0 ∷ c1 ∷ t ∷ w ∷ n0 ∷ n1 ∷ []) (search quote depth 40) refl),
            (
              ring F (a0 ∷ a1 ∷ c0 ∷ c1 ∷ t ∷ w ∷ n0 ∷ n1 ∷ w1 ∷ r1 ∷ r0 ∷ []) (search quote depth 40) refl,
              tt,
            ),
          ),
        ),
      )

  -- s of degree below 1
  pub line2_tops : (a0 a1 c0 c1 b0 b1 s f4 n0 : A) → n0 ≡ f4 - a1 - b1 - s * s
      → Below F 2 (coef F (pol F (𝟘 ∷ 𝟘 ∷ (f4 - a1) ∷ 𝟙 ∷ []) ⊖ C F s ⊗ (pol F (c0 ∷ c1 ∷ []) ⊕ pol F (c0 ∷ c1 ∷ []) ⊕ C F s ⊗ mon F (a0 ∷ a1 ∷ [])) ⊖ C F 𝟙 ⊗ (mon F (b0 ∷ b1 ∷ []) ⊗ mon F (n0 ∷ []))))
  unfolding add_l mul_l neg_l scale_l whole
  line2_tops a0 a1 c0 c1 b0 b1 s f4 n0 h-n0 =
      below_by F 2 (pl (lo (𝟘 ∷ 𝟘 ∷ (f4 - a1) ∷ 𝟙 ∷ [])) (ne (ti (co s) (pl (pl (lo (c0 ∷ c1 ∷ [])) (lo (c0 ∷ c1 ∷ []))) (ti (co s) (mo (a0 ∷ a1 ∷ []))))))) (ti (co 𝟙) (ti (mo (b0 ∷ b1 ∷ [])) (mo (n0 ∷ [])))) (
        simp (h-n0) (ring F (a0 ∷ a1 ∷ c0 ∷ c1 ∷ b0 ∷ b1 ∷ s ∷ f4 ∷ []) (search quote depth 40) refl),
        (
          ring F (a0 ∷ a1 ∷ c0 ∷ c1 ∷ b0 ∷ b1 ∷ s ∷ f4 ∷ n0 ∷ []) (search quote depth 40) refl,
          tt,
        ),
      )

  pub line2_rest : (a0 a1 c0 c1 s n0 w1 r0 : A) → w1 ≡ s * (a1 - n0) + c1 → r0 ≡ n0 * w1 - s * a0 - c0
      → pol F (c0 ∷ c1 ∷ []) ⊕ C F s ⊗ mon F (a0 ∷ a1 ∷ []) ≡ pol F (w1 ∷ s ∷ []) ⊗ mon F (n0 ∷ []) ⊖ pol F (r0 ∷ [])
  unfolding add_l mul_l neg_l scale_l whole
  line2_rest a0 a1 c0 c1 s n0 w1 r0 h-w1 h-r0 =
      equal_by F (pl (lo (c0 ∷ c1 ∷ [])) (ti (co s) (mo (a0 ∷ a1 ∷ [])))) (pl (ti (lo (w1 ∷ s ∷ [])) (mo (n0 ∷ []))) (ne (lo (r0 ∷ [])))) (
        simp (h-r0, h-w1) (ring F (a0 ∷ a1 ∷ c0 ∷ c1 ∷ s ∷ n0 ∷ []) (search quote depth 40) refl),
        (
          simp (h-r0, h-w1) (ring F (a0 ∷ a1 ∷ c0 ∷ c1 ∷ s ∷ n0 ∷ []) (search quote depth 40) refl),
          (
            ring F (a0 ∷ a1 ∷ c0 ∷ c1 ∷ s ∷ n0 ∷ w1 ∷ r0 ∷ []) (search quote depth 40) refl,
            tt,
          ),
        ),
      )

  pub line2_slope : (r s0 s1 i k : A) → r * i ≡ 𝟙 → k ≡ s0 * i → s1 ≡ 𝟘
      → C F r ⊗ C F k ≡ pol F (s0 ∷ s1 ∷ [])
  unfolding add_l mul_l neg_l scale_l whole
  line2_slope r s0 s1 i k hi hk h1 =
      equal_by F (ti (co r) (co k)) (lo (s0 ∷ s1 ∷ [])) (
        by F (r) hk (by F (s0) hi (ring F (r ∷ s0 ∷ s1 ∷ i ∷ k ∷ []) (search quote depth 40) refl)),
        (
          by F (neg 𝟙) h1 (ring F (r ∷ s0 ∷ s1 ∷ i ∷ k ∷ []) (search quote depth 40) refl),
          tt,
        ),
      )

  -- a pair with itself
  pub tangent2_is : (a0 a1 c0 c1 d1 d0 w3 i0 r i1 : A) → d1 ≡ c1 + c1 → d0 ≡ c0 + c0 → w3 ≡ a1 * d1 → i0 ≡ d0 - w3 → r ≡ a0 * (d1 * d1) + d0 * i0 → i1 ≡ neg d1
      → pol F (i0 ∷ i1 ∷ []) ⊗ (pol F (c0 ∷ c1 ∷ []) ⊕ pol F (c0 ∷ c1 ∷ [])) ⊕ C F (d1 * d1) ⊗ mon F (a0 ∷ a1 ∷ []) ≡ C F r
  unfolding add_l mul_l neg_l scale_l whole
  tangent2_is a0 a1 c0 c1 d1 d0 w3 i0 r i1 h-d1 h-d0 h-w3 h-i0 h-r h-i1 =
      equal_by F (pl (ti (lo (i0 ∷ i1 ∷ [])) (pl (lo (c0 ∷ c1 ∷ [])) (lo (c0 ∷ c1 ∷ [])))) (ti (co (d1 * d1)) (mo (a0 ∷ a1 ∷ [])))) (co r) (
        simp (h-i1, h-r, h-i0, h-w3, h-d0, h-d1) (ring F (a0 ∷ a1 ∷ c0 ∷ c1 ∷ []) (search quote depth 40) refl),
        (
          simp (h-i1, h-r, h-i0, h-w3, h-d0, h-d1) (ring F (a0 ∷ a1 ∷ c0 ∷ c1 ∷ []) (search quote depth 40) refl),
          (
            simp (h-i1, h-r, h-i0, h-w3, h-d0, h-d1) (ring F (a0 ∷ a1 ∷ c0 ∷ c1 ∷ []) (search quote depth 40) refl),
            tt,
          ),
        ),
      )

  pub right2_tops : (a0 a1 c0 c1 f0 f1 f2 f3 f4 w1 e w4 k1 k0 : A) → w1 ≡ a1 * a1 → e ≡ a1 * (a1 - f4) → w4 ≡ a0 + a0 → k1 ≡ e + e + (w1 + f3) - w4 → k0 ≡ a1 * (w4 + w4 - (f3 + e)) - c1 * c1 + f2 - f4 * w4
      → Below F 2 (coef F (mon F (f0 ∷ f1 ∷ f2 ∷ f3 ∷ f4 ∷ []) ⊖ pol F (c0 ∷ c1 ∷ []) ⊗ pol F (c0 ∷ c1 ∷ []) ⊖ mon F (a0 ∷ a1 ∷ []) ⊗ (pol F ((f4 - (a1 + a1)) ∷ 𝟙 ∷ []) ⊗ mon F (a0 ∷ a1 ∷ []) ⊕ pol F (k0 ∷ k1 ∷ []))))
  unfolding add_l mul_l neg_l scale_l whole
  right2_tops a0 a1 c0 c1 f0 f1 f2 f3 f4 w1 e w4 k1 k0 h-w1 h-e h-w4 h-k1 h-k0 =
      below_by F 2 (pl (mo (f0 ∷ f1 ∷ f2 ∷ f3 ∷ f4 ∷ [])) (ne (ti (lo (c0 ∷ c1 ∷ [])) (lo (c0 ∷ c1 ∷ []))))) (ti (mo (a0 ∷ a1 ∷ [])) (pl (ti (lo ((f4 - (a1 + a1)) ∷ 𝟙 ∷ [])) (mo (a0 ∷ a1 ∷ []))) (lo (k0 ∷ k1 ∷ [])))) (
        simp (h-k0, h-k1, h-w4, h-e, h-w1) (ring F (a0 ∷ a1 ∷ c0 ∷ c1 ∷ f0 ∷ f1 ∷ f2 ∷ f3 ∷ f4 ∷ []) (search quote depth 40) refl),
        (
          simp (h-k0, h-k1, h-w4, h-e, h-w1) (ring F (a0 ∷ a1 ∷ c0 ∷ c1 ∷ f0 ∷ f1 ∷ f2 ∷ f3 ∷ f4 ∷ []) (search quote depth 40) refl),
          (
            ring F (a0 ∷ a1 ∷ c0 ∷ c1 ∷ f0 ∷ f1 ∷ f2 ∷ f3 ∷ f4 ∷ w1 ∷ e ∷ w4 ∷ k1 ∷ k0 ∷ []) (search quote depth 40) refl,
            (
              ring F (a0 ∷ a1 ∷ c0 ∷ c1 ∷ f0 ∷ f1 ∷ f2 ∷ f3 ∷ f4 ∷ w1 ∷ e ∷ w4 ∷ k1 ∷ k0 ∷ []) (search quote depth 40) refl,
              tt,
            ),
          ),
        ),
      )
