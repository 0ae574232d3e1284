-- Genus 3, after the division, in any ring. Gives, of the values that code keeps under these names: w·S = s'/r (`slope_is`), S·u (`stretch_is`), the
-- first quotient, right from place 3 on (`quotient_is`, `quotient_twice`), v + w·S·u modulo it (`rest_is`), and the second step (`second_tops`,
-- `second_rest`). a0, a1, a2 and c0, c1, c2 are u and v of the base pair, b0, b1, b2 the other u. Any f6.
use mathlib.Core.Path.{◌≡◌, refl}
use mathlib.Core.List.{[], ◌∷◌}
use Rattle.algebra.proofs.Ring.CRing.{CRing}
use Rattle.algebra.proofs.Ring.Quote.{ring, quote, by}
use Rattle.algebra.proofs.Poly.Bound.{Below}
use Rattle.algebra.proofs.Poly.Poly.{poly, coef}
use Rattle.algebra.proofs.Poly.Term.{C}
use Rattle.algebra.proofs.List.Ops.{add_l, mul_l, neg_l, scale_l, whole}
use Rattle.algebra.proofs.List.Value.{pol, mon}
use Rattle.sum_formulas.proofs.Lists.{lo, mo, co, pl, ti, ne, equal_by, below_by}

module _ (F : CRing) where
  open F use {El as A, add as ◌+◌, mul as ◌*◌, neg, zer as 𝟘, one as 𝟙}

  infixl 65 ◌+◌
  infixl 65 ◌-◌
  infixl 70 ◌*◌
  abbrev ◌-◌ : A → A → A
  a - b = a + neg b

  open poly F use {add as ◌⊕◌, mul as ◌⊗◌, neg as negP, one as 1P}

  infixl 65 ◌⊕◌
  infixl 65 ◌⊖◌
  infixl 70 ◌⊗◌
  abbrev ◌⊖◌ : (poly F).El → (poly F).El → (poly F).El
  a ⊖ b = a ⊕ negP b

  pub slope_is : (r s0 s1 s2 i x w p0 p1 : A) → x ≡ r * i → w ≡ s2 * s2 * i → p0 ≡ x * s0 → p1 ≡ x * s1 → r * s2 * i ≡ 𝟙
      → C F r ⊗ (C F w ⊗ mon F (p0 ∷ p1 ∷ [])) ≡ pol F (s0 ∷ s1 ∷ s2 ∷ [])
  unfolding add_l mul_l neg_l scale_l whole
  slope_is r s0 s1 s2 i x w p0 p1 h-x h_w h-p0 h-p1 hi =
      equal_by F (ti (co r) (ti (co w) (mo (p0 ∷ p1 ∷ [])))) (lo (s0 ∷ s1 ∷ s2 ∷ [])) (
        simp (h-x, h_w, h-p0) (by F (s0 * (r * s2 * i + 𝟙)) hi (ring F (r ∷ s0 ∷ s1 ∷ s2 ∷ i ∷ p1 ∷ []) (search quote depth 40) refl)),
        (
          simp (h-x, h_w, h-p1) (by F (s1 * (r * s2 * i + 𝟙)) hi (ring F (r ∷ s0 ∷ s1 ∷ s2 ∷ i ∷ p0 ∷ []) (search quote depth 40) refl)),
          (
            simp (h_w) (by F (s2) hi (ring F (r ∷ s0 ∷ s1 ∷ s2 ∷ i ∷ x ∷ p0 ∷ p1 ∷ []) (search quote depth 40) refl)),
            tt,
          ),
        ),
      )

  pub stretch_is : (s0 s1 a0 a1 a2 z0 z1 z2 z3 z4 : A) → z0 ≡ a0 * s0 → z1 ≡ a0 * s1 + a1 * s0 → z2 ≡ a1 * s1 + a2 * s0 + a0 → z3 ≡ a2 * s1 + a1 + s0 → z4 ≡ a2 + s1
      → mon F (s0 ∷ s1 ∷ []) ⊗ mon F (a0 ∷ a1 ∷ a2 ∷ []) ≡ mon F (z0 ∷ z1 ∷ z2 ∷ z3 ∷ z4 ∷ [])
  unfolding add_l mul_l neg_l scale_l whole
  stretch_is s0 s1 a0 a1 a2 z0 z1 z2 z3 z4 h-z0 h-z1 h-z2 h-z3 h-z4 =
      equal_by F (ti (mo (s0 ∷ s1 ∷ [])) (mo (a0 ∷ a1 ∷ a2 ∷ []))) (mo (z0 ∷ z1 ∷ z2 ∷ z3 ∷ z4 ∷ [])) (
        simp (h-z0) (ring F (s0 ∷ s1 ∷ a0 ∷ a1 ∷ a2 ∷ z1 ∷ z2 ∷ z3 ∷ z4 ∷ []) (search quote depth 40) refl),
        (
          simp (h-z1) (ring F (s0 ∷ s1 ∷ a0 ∷ a1 ∷ a2 ∷ z0 ∷ z2 ∷ z3 ∷ z4 ∷ []) (search quote depth 40) refl),
          (
            simp (h-z2) (ring F (s0 ∷ s1 ∷ a0 ∷ a1 ∷ a2 ∷ z0 ∷ z1 ∷ z3 ∷ z4 ∷ []) (search quote depth 40) refl),
            (
              simp (h-z3) (ring F (s0 ∷ s1 ∷ a0 ∷ a1 ∷ a2 ∷ z0 ∷ z1 ∷ z2 ∷ z4 ∷ []) (search quote depth 40) refl),
              (
                simp (h-z4) (ring F (s0 ∷ s1 ∷ a0 ∷ a1 ∷ a2 ∷ z0 ∷ z1 ∷ z2 ∷ z3 ∷ []) (search quote depth 40) refl),
                (
                  ring F (s0 ∷ s1 ∷ a0 ∷ a1 ∷ a2 ∷ z0 ∷ z1 ∷ z2 ∷ z3 ∷ z4 ∷ []) (search quote depth 40) refl,
                  tt,
                ),
              ),
            ),
          ),
        ),
      )

  -- (f - v²)/u from place 3 on
  pub tops_f : (a0 a1 a2 f0 f1 f2 f3 f4 f5 f6 : A)
      → Below F 6 (coef F (mon F (f0 ∷ f1 ∷ f2 ∷ f3 ∷ f4 ∷ f5 ∷ f6 ∷ []) ⊖ mon F (a0 ∷ a1 ∷ a2 ∷ []) ⊗ pol F (𝟘 ∷ 𝟘 ∷ 𝟘 ∷ (f6 - a2) ∷ 𝟙 ∷ [])))
  unfolding add_l mul_l neg_l scale_l whole
  tops_f a0 a1 a2 f0 f1 f2 f3 f4 f5 f6 =
      below_by F 6 (mo (f0 ∷ f1 ∷ f2 ∷ f3 ∷ f4 ∷ f5 ∷ f6 ∷ [])) (ti (mo (a0 ∷ a1 ∷ a2 ∷ [])) (lo (𝟘 ∷ 𝟘 ∷ 𝟘 ∷ (f6 - a2) ∷ 𝟙 ∷ []))) (
        ring F (a0 ∷ a1 ∷ a2 ∷ f0 ∷ f1 ∷ f2 ∷ f3 ∷ f4 ∷ f5 ∷ f6 ∷ []) (search quote depth 40) refl,
        (
          ring F (a0 ∷ a1 ∷ a2 ∷ f0 ∷ f1 ∷ f2 ∷ f3 ∷ f4 ∷ f5 ∷ f6 ∷ []) (search quote depth 40) refl,
          tt,
        ),
      )

  pub quotient_is : (f6 a2 c0 c1 c2 b0 b1 b2 s0 s1 wi z0 z1 z2 z3 z4 n3 t5 n2 d n1 q n0 : A) → n3 ≡ z4 + s1 - b2 → t5 ≡ s1 * z4 - b2 * n3 → n2 ≡ z3 + s0 + t5 - b1 → d ≡ c2 + c2 → n1 ≡ z2 - b0 + (s0 * z4 + s1 * z3) - (b2 * n2 + b1 * n3) + wi * (d - wi) → q ≡ d * s1 + wi * (a2 - f6) + (c1 + c1) → n0 ≡ z1 + (s0 * z3 - b1 * n2) + (s1 * z2 + wi * q) - (b2 * n1 + b0 * n3)
      → Below F 3 (coef F (mon F (s0 ∷ s1 ∷ []) ⊗ (mon F (z0 ∷ z1 ∷ z2 ∷ z3 ∷ z4 ∷ []) ⊕ C F wi ⊗ (pol F (c0 ∷ c1 ∷ c2 ∷ []) ⊕ pol F (c0 ∷ c1 ∷ c2 ∷ []))) ⊖ C F wi ⊗ (C F wi ⊗ pol F (𝟘 ∷ 𝟘 ∷ 𝟘 ∷ (f6 - a2) ∷ 𝟙 ∷ [])) ⊖ mon F (b0 ∷ b1 ∷ b2 ∷ []) ⊗ mon F (n0 ∷ n1 ∷ n2 ∷ n3 ∷ [])))
  unfolding add_l mul_l neg_l scale_l whole
  quotient_is f6 a2 c0 c1 c2 b0 b1 b2 s0 s1 wi z0 z1 z2 z3 z4 n3 t5 n2 d n1 q n0 h-n3 h-t5 h-n2 h-d h-n1 h-q h-n0 =
      below_by F 3 (pl (ti (mo (s0 ∷ s1 ∷ [])) (pl (mo (z0 ∷ z1 ∷ z2 ∷ z3 ∷ z4 ∷ [])) (ti (co wi) (pl (lo (c0 ∷ c1 ∷ c2 ∷ [])) (lo (c0 ∷ c1 ∷ c2 ∷ [])))))) (ne (ti (co wi) (ti (co wi) (lo (𝟘 ∷ 𝟘 ∷ 𝟘 ∷ (f6 - a2) ∷ 𝟙 ∷ [])))))) (ti (mo (b0 ∷ b1 ∷ b2 ∷ [])) (mo (n0 ∷ n1 ∷ n2 ∷ n3 ∷ []))) (
        simp (h-d, h-q, h-n0) (ring F (f6 ∷ a2 ∷ c0 ∷ c1 ∷ c2 ∷ b0 ∷ b1 ∷ b2 ∷ s0 ∷ s1 ∷ wi ∷ z0 ∷ z1 ∷ z2 ∷ z3 ∷ z4 ∷ n3 ∷ t5 ∷ n2 ∷ n1 ∷ []) (search quote depth 40) refl),
        (
          simp (h-d, h-n1) (ring F (f6 ∷ a2 ∷ c0 ∷ c1 ∷ c2 ∷ b0 ∷ b1 ∷ b2 ∷ s0 ∷ s1 ∷ wi ∷ z0 ∷ z1 ∷ z2 ∷ z3 ∷ z4 ∷ n3 ∷ t5 ∷ n2 ∷ q ∷ n0 ∷ []) (search quote depth 40) refl),
          (
            simp (h-t5, h-n2) (ring F (f6 ∷ a2 ∷ c0 ∷ c1 ∷ c2 ∷ b0 ∷ b1 ∷ b2 ∷ s0 ∷ s1 ∷ wi ∷ z0 ∷ z1 ∷ z2 ∷ z3 ∷ z4 ∷ n3 ∷ d ∷ n1 ∷ q ∷ n0 ∷ []) (search quote depth 40) refl),
            (
              simp (h-n3) (ring F (f6 ∷ a2 ∷ c0 ∷ c1 ∷ c2 ∷ b0 ∷ b1 ∷ b2 ∷ s0 ∷ s1 ∷ wi ∷ z0 ∷ z1 ∷ z2 ∷ z3 ∷ z4 ∷ t5 ∷ n2 ∷ d ∷ n1 ∷ q ∷ n0 ∷ []) (search quote depth 40) refl),
              (
                ring F (f6 ∷ a2 ∷ c0 ∷ c1 ∷ c2 ∷ b0 ∷ b1 ∷ b2 ∷ s0 ∷ s1 ∷ wi ∷ z0 ∷ z1 ∷ z2 ∷ z3 ∷ z4 ∷ n3 ∷ t5 ∷ n2 ∷ d ∷ n1 ∷ q ∷ n0 ∷ []) (search quote depth 40) refl,
                tt,
              ),
            ),
          ),
        ),
      )

  pub quotient_twice : (f6 a0 a1 a2 c0 c1 c2 s0 s1 wi n3 n2 d n1 q n0 : A) → n3 ≡ s1 + s1 → n2 ≡ s1 * s1 + (s0 + s0) → d ≡ c2 + c2 → n1 ≡ n3 * s0 + wi * (d - wi) → q ≡ (s1 - a2) * d + wi * (a2 + a2 - f6) + (c1 + c1) → n0 ≡ s0 * s0 + wi * q
      → Below F 3 (coef F (mon F (s0 ∷ s1 ∷ []) ⊗ (mon F (s0 ∷ s1 ∷ []) ⊗ mon F (a0 ∷ a1 ∷ a2 ∷ []) ⊕ C F wi ⊗ (pol F (c0 ∷ c1 ∷ c2 ∷ []) ⊕ pol F (c0 ∷ c1 ∷ c2 ∷ []))) ⊖ C F wi ⊗ (C F wi ⊗ pol F (𝟘 ∷ 𝟘 ∷ 𝟘 ∷ (f6 - a2) ∷ 𝟙 ∷ [])) ⊖ mon F (a0 ∷ a1 ∷ a2 ∷ []) ⊗ mon F (n0 ∷ n1 ∷ n2 ∷ n3 ∷ [])))
  unfolding add_l mul_l neg_l scale_l whole
  quotient_twice f6 a0 a1 a2 c0 c1 c2 s0 s1 wi n3 n2 d n1 q n0 h-n3 h-n2 h-d h-n1 h-q h-n0 =
      below_by F 3 (pl (ti (mo (s0 ∷ s1 ∷ [])) (pl (ti (mo (s0 ∷ s1 ∷ [])) (mo (a0 ∷ a1 ∷ a2 ∷ []))) (ti (co wi) (pl (lo (c0 ∷ c1 ∷ c2 ∷ [])) (lo (c0 ∷ c1 ∷ c2 ∷ [])))))) (ne (ti (co wi) (ti (co wi) (lo (𝟘 ∷ 𝟘 ∷ 𝟘 ∷ (f6 - a2) ∷ 𝟙 ∷ [])))))) (ti (mo (a0 ∷ a1 ∷ a2 ∷ [])) (mo (n0 ∷ n1 ∷ n2 ∷ n3 ∷ []))) (
        simp (h-n0, h-q, h-n1, h-d, h-n2, h-n3) (ring F (f6 ∷ a0 ∷ a1 ∷ a2 ∷ c0 ∷ c1 ∷ c2 ∷ s0 ∷ s1 ∷ wi ∷ []) (search quote depth 40) refl),
        (
          simp (h-n1, h-d, h-n2, h-n3) (ring F (f6 ∷ a0 ∷ a1 ∷ a2 ∷ c0 ∷ c1 ∷ c2 ∷ s0 ∷ s1 ∷ wi ∷ q ∷ n0 ∷ []) (search quote depth 40) refl),
          (
            simp (h-n2, h-n3) (ring F (f6 ∷ a0 ∷ a1 ∷ a2 ∷ c0 ∷ c1 ∷ c2 ∷ s0 ∷ s1 ∷ wi ∷ d ∷ n1 ∷ q ∷ n0 ∷ []) (search quote depth 40) refl),
            (
              simp (h-n3) (ring F (f6 ∷ a0 ∷ a1 ∷ a2 ∷ c0 ∷ c1 ∷ c2 ∷ s0 ∷ s1 ∷ wi ∷ n2 ∷ d ∷ n1 ∷ q ∷ n0 ∷ []) (search quote depth 40) refl),
              (
                ring F (f6 ∷ d ∷ a0 ∷ a1 ∷ a2 ∷ c0 ∷ c1 ∷ c2 ∷ s0 ∷ s1 ∷ wi ∷ n3 ∷ n2 ∷ n1 ∷ q ∷ n0 ∷ []) (search quote depth 40) refl,
                tt,
              ),
            ),
          ),
        ),
      )

  pub rest_is : (c0 c1 c2 w z0 z1 z2 z3 z4 n0 n1 n2 n3 y m0 m1 m2 m3 : A) → y ≡ w * (n3 - z4) → m0 ≡ y * n0 + w * z0 + c0 → m1 ≡ y * n1 + w * (z1 - n0) + c1 → m2 ≡ y * n2 + w * (z2 - n1) + c2 → m3 ≡ y * n3 + w * (z3 - n2)
      → pol F (c0 ∷ c1 ∷ c2 ∷ []) ⊕ C F w ⊗ mon F (z0 ∷ z1 ∷ z2 ∷ z3 ∷ z4 ∷ []) ≡ pol F ((neg y) ∷ w ∷ []) ⊗ mon F (n0 ∷ n1 ∷ n2 ∷ n3 ∷ []) ⊕ pol F (m0 ∷ m1 ∷ m2 ∷ m3 ∷ [])
  unfolding add_l mul_l neg_l scale_l whole
  rest_is c0 c1 c2 w z0 z1 z2 z3 z4 n0 n1 n2 n3 y m0 m1 m2 m3 h-y h-m0 h-m1 h-m2 h-m3 =
      equal_by F (pl (lo (c0 ∷ c1 ∷ c2 ∷ [])) (ti (co w) (mo (z0 ∷ z1 ∷ z2 ∷ z3 ∷ z4 ∷ [])))) (pl (ti (lo ((neg y) ∷ w ∷ [])) (mo (n0 ∷ n1 ∷ n2 ∷ n3 ∷ []))) (lo (m0 ∷ m1 ∷ m2 ∷ m3 ∷ []))) (
        simp (h-m0) (ring F (c0 ∷ c1 ∷ c2 ∷ w ∷ z0 ∷ z1 ∷ z2 ∷ z3 ∷ z4 ∷ n0 ∷ n1 ∷ n2 ∷ n3 ∷ y ∷ m1 ∷ m2 ∷ m3 ∷ []) (search quote depth 40) refl),
        (
          simp (h-m1) (ring F (c0 ∷ c1 ∷ c2 ∷ w ∷ z0 ∷ z1 ∷ z2 ∷ z3 ∷ z4 ∷ n0 ∷ n1 ∷ n2 ∷ n3 ∷ y ∷ m0 ∷ m2 ∷ m3 ∷ []) (search quote depth 40) refl),
          (
            simp (h-m2) (ring F (c0 ∷ c1 ∷ c2 ∷ w ∷ z0 ∷ z1 ∷ z2 ∷ z3 ∷ z4 ∷ n0 ∷ n1 ∷ n2 ∷ n3 ∷ y ∷ m0 ∷ m1 ∷ m3 ∷ []) (search quote depth 40) refl),
            (
              simp (h-m3) (ring F (c0 ∷ c1 ∷ c2 ∷ w ∷ z0 ∷ z1 ∷ z2 ∷ z3 ∷ z4 ∷ n0 ∷ n1 ∷ n2 ∷ n3 ∷ y ∷ m0 ∷ m1 ∷ m2 ∷ []) (search quote depth 40) refl),
              (
                simp (h-y) (ring F (c0 ∷ c1 ∷ c2 ∷ w ∷ z0 ∷ z1 ∷ z2 ∷ z3 ∷ z4 ∷ n0 ∷ n1 ∷ n2 ∷ n3 ∷ m0 ∷ m1 ∷ m2 ∷ m3 ∷ []) (search quote depth 40) refl),
                (
                  ring F (c0 ∷ c1 ∷ c2 ∷ w ∷ z0 ∷ z1 ∷ z2 ∷ z3 ∷ z4 ∷ n0 ∷ n1 ∷ n2 ∷ n3 ∷ y ∷ m0 ∷ m1 ∷ m2 ∷ m3 ∷ []) (search quote depth 40) refl,
                  tt,
                ),
              ),
            ),
          ),
        ),
      )

  pub second_tops : (n0 n1 n2 n3 m0 m1 m2 m3 f0 f1 f2 f3 f4 f5 f6 t1 e2 e1 e0 : A) → t1 ≡ m3 + m3 → e2 ≡ f6 - (n3 + m3 * m3) → e1 ≡ f5 - n2 - (e2 * n3 + t1 * m2) → e0 ≡ f4 - n1 - (m2 * m2 + e2 * n2) - (e1 * n3 + t1 * m1)
      → Below F 4 (coef F (mon F (f0 ∷ f1 ∷ f2 ∷ f3 ∷ f4 ∷ f5 ∷ f6 ∷ []) ⊖ pol F (m0 ∷ m1 ∷ m2 ∷ m3 ∷ []) ⊗ pol F (m0 ∷ m1 ∷ m2 ∷ m3 ∷ []) ⊖ mon F (n0 ∷ n1 ∷ n2 ∷ n3 ∷ []) ⊗ mon F (e0 ∷ e1 ∷ e2 ∷ [])))
  unfolding add_l mul_l neg_l scale_l whole
  second_tops n0 n1 n2 n3 m0 m1 m2 m3 f0 f1 f2 f3 f4 f5 f6 t1 e2 e1 e0 h-t1 h-e2 h-e1 h-e0 =
      below_by F 4 (pl (mo (f0 ∷ f1 ∷ f2 ∷ f3 ∷ f4 ∷ f5 ∷ f6 ∷ [])) (ne (ti (lo (m0 ∷ m1 ∷ m2 ∷ m3 ∷ [])) (lo (m0 ∷ m1 ∷ m2 ∷ m3 ∷ []))))) (ti (mo (n0 ∷ n1 ∷ n2 ∷ n3 ∷ [])) (mo (e0 ∷ e1 ∷ e2 ∷ []))) (
        simp (h-t1, h-e0) (ring F (n0 ∷ n1 ∷ n2 ∷ n3 ∷ m0 ∷ m1 ∷ m2 ∷ m3 ∷ f0 ∷ f1 ∷ f2 ∷ f3 ∷ f4 ∷ f5 ∷ f6 ∷ e2 ∷ e1 ∷ []) (search quote depth 40) refl),
        (
          simp (h-t1, h-e1) (ring F (n0 ∷ n1 ∷ n2 ∷ n3 ∷ m0 ∷ m1 ∷ m2 ∷ m3 ∷ f0 ∷ f1 ∷ f2 ∷ f3 ∷ f4 ∷ f5 ∷ f6 ∷ e2 ∷ e0 ∷ []) (search quote depth 40) refl),
          (
            simp (h-e2) (ring F (n0 ∷ n1 ∷ n2 ∷ n3 ∷ m0 ∷ m1 ∷ m2 ∷ m3 ∷ f0 ∷ f1 ∷ f2 ∷ f3 ∷ f4 ∷ f5 ∷ f6 ∷ t1 ∷ e1 ∷ e0 ∷ []) (search quote depth 40) refl),
            (
              ring F (n0 ∷ n1 ∷ n2 ∷ n3 ∷ m0 ∷ m1 ∷ m2 ∷ m3 ∷ f0 ∷ f1 ∷ f2 ∷ f3 ∷ f4 ∷ f5 ∷ f6 ∷ t1 ∷ e2 ∷ e1 ∷ e0 ∷ []) (search quote depth 40) refl,
              tt,
            ),
          ),
        ),
      )

  pub second_rest : (m0 m1 m2 m3 e0 e1 e2 q2 q1 q0 : A) → q2 ≡ m2 - e2 * m3 → q1 ≡ m1 - e1 * m3 → q0 ≡ m0 - e0 * m3
      → pol F (m0 ∷ m1 ∷ m2 ∷ m3 ∷ []) ≡ C F m3 ⊗ mon F (e0 ∷ e1 ∷ e2 ∷ []) ⊕ pol F (q0 ∷ q1 ∷ q2 ∷ [])
  unfolding add_l mul_l neg_l scale_l whole
  second_rest m0 m1 m2 m3 e0 e1 e2 q2 q1 q0 h-q2 h-q1 h-q0 =
      equal_by F (lo (m0 ∷ m1 ∷ m2 ∷ m3 ∷ [])) (pl (ti (co m3) (mo (e0 ∷ e1 ∷ e2 ∷ []))) (lo (q0 ∷ q1 ∷ q2 ∷ []))) (
        simp (h-q0) (ring F (m0 ∷ m1 ∷ m2 ∷ m3 ∷ e0 ∷ e1 ∷ e2 ∷ q2 ∷ q1 ∷ []) (search quote depth 40) refl),
        (
          simp (h-q1) (ring F (m0 ∷ m1 ∷ m2 ∷ m3 ∷ e0 ∷ e1 ∷ e2 ∷ q2 ∷ q0 ∷ []) (search quote depth 40) refl),
          (
            simp (h-q2) (ring F (m0 ∷ m1 ∷ m2 ∷ m3 ∷ e0 ∷ e1 ∷ e2 ∷ q1 ∷ q0 ∷ []) (search quote depth 40) refl),
            (
              ring F (m0 ∷ m1 ∷ m2 ∷ m3 ∷ e0 ∷ e1 ∷ e2 ∷ q2 ∷ q1 ∷ q0 ∷ []) (search quote depth 40) refl,
              tt,
            ),
          ),
        ),
      )
