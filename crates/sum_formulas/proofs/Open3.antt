-- Genus 3, before the division, in any ring. Gives, of the values that code keeps under these names: i·u = r modulo the other u (`invert_is`), i·2v = r
-- modulo u (`tangent_is`), the right sides of s·h = c (`gap_is`, `right_tops`), and s' = c·i modulo u (`times_is`). a0, a1, a2 and c0, c1, c2 are u and v
-- of the base pair, b0, b1, b2 the other u. i is e2 (x² + b2 x + b1) + e1 (x + b2) + e0: x times the first bracket is -b0 modulo u, which saves products.
use mathlib.Core.Path.{◌≡◌, refl}
use mathlib.Core.List.{[], ◌∷◌}
use Rattle.algebra.proofs.Ring.CRing.{CRing}
use Rattle.algebra.proofs.Ring.Quote.{ring, quote}
use Rattle.algebra.proofs.Poly.Bound.{Below}
use Rattle.algebra.proofs.Poly.Poly.{poly, coef}
use Rattle.algebra.proofs.Poly.Term.{C}
use Rattle.algebra.proofs.List.Ops.{add_l, mul_l, neg_l, scale_l, whole}
use Rattle.algebra.proofs.List.Value.{pol, mon}
use Rattle.sum_formulas.proofs.Lists.{lo, mo, co, pl, ti, ne, equal_by, below_by}

module _ (F : CRing) where
  open F use {El as A, add as ◌+◌, mul as ◌*◌, neg, zer as 𝟘, one as 𝟙}

  infixl 65 ◌+◌
  infixl 65 ◌-◌
  infixl 70 ◌*◌
  abbrev ◌-◌ : A → A → A
  a - b = a + neg b

  open poly F use {add as ◌⊕◌, mul as ◌⊗◌, neg as negP, one as 1P}

  infixl 65 ◌⊕◌
  infixl 65 ◌⊖◌
  infixl 70 ◌⊗◌
  abbrev ◌⊖◌ : (poly F).El → (poly F).El → (poly F).El
  a ⊖ b = a ⊕ negP b

  pub invert_is : (a0 a1 a2 b0 b1 b2 t1 t2 t3 t4 t5 t8 e2 e1 e0 i0 r : A) → t1 ≡ a1 * b0 - a0 * b1 → t2 ≡ a2 * b0 - a0 * b2 → t3 ≡ b0 - a0 → t4 ≡ b1 - a1 → t5 ≡ b2 - a2 → t8 ≡ a2 * b1 - a1 * b2 + t3 → e2 ≡ t5 * t8 - t4 * t4 → e1 ≡ t3 * t4 - t2 * t5 → e0 ≡ t1 * t5 - t3 * t3 → i0 ≡ b1 * e2 + b2 * e1 + e0 → r ≡ b0 * (t4 * e2 + t5 * e1) - t3 * i0
      → pol F (i0 ∷ (b2 * e2 + e1) ∷ e2 ∷ []) ⊗ mon F (a0 ∷ a1 ∷ a2 ∷ []) ⊕ negP (pol F ((a1 * e2 + a2 * e1 + e0) ∷ (a2 * e2 + e1) ∷ e2 ∷ [])) ⊗ mon F (b0 ∷ b1 ∷ b2 ∷ []) ≡ C F r
  unfolding add_l mul_l neg_l scale_l whole
  invert_is a0 a1 a2 b0 b1 b2 t1 t2 t3 t4 t5 t8 e2 e1 e0 i0 r h-t1 h-t2 h-t3 h-t4 h-t5 h-t8 h-e2 h-e1 h-e0 h-i0 h-r =
      equal_by F (pl (ti (lo (i0 ∷ (b2 * e2 + e1) ∷ e2 ∷ [])) (mo (a0 ∷ a1 ∷ a2 ∷ []))) (ti (ne (lo ((a1 * e2 + a2 * e1 + e0) ∷ (a2 * e2 + e1) ∷ e2 ∷ []))) (mo (b0 ∷ b1 ∷ b2 ∷ [])))) (co r) (
        simp (h-r, h-i0, h-t5, h-t4, h-t3) (ring F (a0 ∷ a1 ∷ a2 ∷ b0 ∷ b1 ∷ b2 ∷ t1 ∷ t2 ∷ t8 ∷ e2 ∷ e1 ∷ e0 ∷ []) (search quote depth 40) refl),
        (
          simp (h-i0, h-e0, h-e1, h-e2, h-t8, h-t5, h-t4, h-t3, h-t2, h-t1) (ring F (a0 ∷ a1 ∷ a2 ∷ b0 ∷ b1 ∷ b2 ∷ r ∷ []) (search quote depth 40) refl),
          (
            simp (h-i0, h-e0, h-e1, h-e2, h-t8, h-t5, h-t4, h-t3, h-t2, h-t1) (ring F (a0 ∷ a1 ∷ a2 ∷ b0 ∷ b1 ∷ b2 ∷ r ∷ []) (search quote depth 40) refl),
            (
              simp (h-i0) (ring F (a0 ∷ a1 ∷ a2 ∷ b0 ∷ b1 ∷ b2 ∷ t1 ∷ t2 ∷ t3 ∷ t4 ∷ t5 ∷ t8 ∷ e2 ∷ e1 ∷ e0 ∷ r ∷ []) (search quote depth 40) refl),
              (
                ring F (a0 ∷ a1 ∷ a2 ∷ b0 ∷ b1 ∷ b2 ∷ t1 ∷ t2 ∷ t3 ∷ t4 ∷ t5 ∷ t8 ∷ e2 ∷ e1 ∷ e0 ∷ i0 ∷ r ∷ []) (search quote depth 40) refl,
                (
                  ring F (a0 ∷ a1 ∷ a2 ∷ b0 ∷ b1 ∷ b2 ∷ t1 ∷ t2 ∷ t3 ∷ t4 ∷ t5 ∷ t8 ∷ e2 ∷ e1 ∷ e0 ∷ i0 ∷ r ∷ []) (search quote depth 40) refl,
                  tt,
                ),
              ),
            ),
          ),
        ),
      )

  pub gap_is : (c0 c1 c2 d0 d1 d2 w0 w1 w2 : A) → w0 ≡ d0 - c0 → w1 ≡ d1 - c1 → w2 ≡ d2 - c2
      → pol F (w0 ∷ w1 ∷ w2 ∷ []) ≡ pol F (d0 ∷ d1 ∷ d2 ∷ []) ⊖ pol F (c0 ∷ c1 ∷ c2 ∷ [])
  unfolding add_l mul_l neg_l scale_l whole
  gap_is c0 c1 c2 d0 d1 d2 w0 w1 w2 h-w0 h-w1 h-w2 =
      equal_by F (lo (w0 ∷ w1 ∷ w2 ∷ [])) (pl (lo (d0 ∷ d1 ∷ d2 ∷ [])) (ne (lo (c0 ∷ c1 ∷ c2 ∷ [])))) (
        simp (h-w0) (ring F (c0 ∷ c1 ∷ c2 ∷ d0 ∷ d1 ∷ d2 ∷ w1 ∷ w2 ∷ []) (search quote depth 40) refl),
        (
          simp (h-w1) (ring F (c0 ∷ c1 ∷ c2 ∷ d0 ∷ d1 ∷ d2 ∷ w0 ∷ w2 ∷ []) (search quote depth 40) refl),
          (
            simp (h-w2) (ring F (c0 ∷ c1 ∷ c2 ∷ d0 ∷ d1 ∷ d2 ∷ w0 ∷ w1 ∷ []) (search quote depth 40) refl),
            tt,
          ),
        ),
      )

  pub times_is : (z0 z1 z2 e0 e1 e2 b0 b1 b2 i0 p q d s2 s1 s0 : A) → i0 ≡ b1 * e2 + b2 * e1 + e0 → p ≡ e2 * z0 + e1 * z1 → q ≡ e2 * z1 + e1 * z2 → d ≡ b0 * e2 + b1 * e1 → s2 ≡ p + e0 * z2 → s1 ≡ b2 * p + e1 * z0 + (e0 * z1 - z2 * d) → s0 ≡ z0 * i0 - b0 * q
      → pol F (z0 ∷ z1 ∷ z2 ∷ []) ⊗ pol F (i0 ∷ (b2 * e2 + e1) ∷ e2 ∷ []) ≡ pol F (q ∷ (e2 * z2) ∷ []) ⊗ mon F (b0 ∷ b1 ∷ b2 ∷ []) ⊕ pol F (s0 ∷ s1 ∷ s2 ∷ [])
  unfolding add_l mul_l neg_l scale_l whole
  times_is z0 z1 z2 e0 e1 e2 b0 b1 b2 i0 p q d s2 s1 s0 h-i0 h-p h-q h-d h-s2 h-s1 h-s0 =
      equal_by F (ti (lo (z0 ∷ z1 ∷ z2 ∷ [])) (lo (i0 ∷ (b2 * e2 + e1) ∷ e2 ∷ []))) (pl (ti (lo (q ∷ (e2 * z2) ∷ [])) (mo (b0 ∷ b1 ∷ b2 ∷ []))) (lo (s0 ∷ s1 ∷ s2 ∷ []))) (
        simp (h-s0) (ring F (z0 ∷ z1 ∷ z2 ∷ e0 ∷ e1 ∷ e2 ∷ b0 ∷ b1 ∷ b2 ∷ i0 ∷ p ∷ q ∷ d ∷ s2 ∷ s1 ∷ []) (search quote depth 40) refl),
        (
          simp (h-s1, h-d, h-q, h-p, h-i0) (ring F (z0 ∷ z1 ∷ z2 ∷ e0 ∷ e1 ∷ e2 ∷ b0 ∷ b1 ∷ b2 ∷ s2 ∷ s0 ∷ []) (search quote depth 40) refl),
          (
            simp (h-s2, h-q, h-p, h-i0) (ring F (z0 ∷ z1 ∷ z2 ∷ e0 ∷ e1 ∷ e2 ∷ b0 ∷ b1 ∷ b2 ∷ d ∷ s1 ∷ s0 ∷ []) (search quote depth 40) refl),
            (
              simp (h-q) (ring F (z0 ∷ z1 ∷ z2 ∷ e0 ∷ e1 ∷ e2 ∷ b0 ∷ b1 ∷ b2 ∷ i0 ∷ p ∷ d ∷ s2 ∷ s1 ∷ s0 ∷ []) (search quote depth 40) refl),
              (
                ring F (z0 ∷ z1 ∷ z2 ∷ e0 ∷ e1 ∷ e2 ∷ b0 ∷ b1 ∷ b2 ∷ i0 ∷ p ∷ q ∷ d ∷ s2 ∷ s1 ∷ s0 ∷ []) (search quote depth 40) refl,
                tt,
              ),
            ),
          ),
        ),
      )

  pub tangent_is : (a0 a1 a2 c0 c1 c2 t1 t2 t5 e2 e1 e0 i0 k r : A) → t1 ≡ a1 * c0 - a0 * c1 → t2 ≡ a2 * c0 - a0 * c2 → t5 ≡ a2 * c1 - a1 * c2 + c0 → e2 ≡ c1 * c1 - c2 * t5 → e1 ≡ c2 * t2 - c1 * c0 → e0 ≡ c0 * c0 - c2 * t1 → i0 ≡ a1 * e2 + a2 * e1 + e0 → k ≡ c0 * i0 - a0 * (e2 * c1 + e1 * c2) → r ≡ k + k
      → pol F (i0 ∷ (a2 * e2 + e1) ∷ e2 ∷ []) ⊗ (pol F (c0 ∷ c1 ∷ c2 ∷ []) ⊕ pol F (c0 ∷ c1 ∷ c2 ∷ [])) ⊕ negP (pol F ((c1 * e2 + c2 * e1) ∷ (c2 * e2) ∷ []) ⊕ pol F ((c1 * e2 + c2 * e1) ∷ (c2 * e2) ∷ [])) ⊗ mon F (a0 ∷ a1 ∷ a2 ∷ []) ≡ C F r
  unfolding add_l mul_l neg_l scale_l whole
  tangent_is a0 a1 a2 c0 c1 c2 t1 t2 t5 e2 e1 e0 i0 k r h-t1 h-t2 h-t5 h-e2 h-e1 h-e0 h-i0 h-k h-r =
      equal_by F (pl (ti (lo (i0 ∷ (a2 * e2 + e1) ∷ e2 ∷ [])) (pl (lo (c0 ∷ c1 ∷ c2 ∷ [])) (lo (c0 ∷ c1 ∷ c2 ∷ [])))) (ti (ne (pl (lo ((c1 * e2 + c2 * e1) ∷ (c2 * e2) ∷ [])) (lo ((c1 * e2 + c2 * e1) ∷ (c2 * e2) ∷ [])))) (mo (a0 ∷ a1 ∷ a2 ∷ [])))) (co r) (
        simp (h-r, h-k) (ring F (a0 ∷ a1 ∷ a2 ∷ c0 ∷ c1 ∷ c2 ∷ t1 ∷ t2 ∷ t5 ∷ e2 ∷ e1 ∷ e0 ∷ i0 ∷ []) (search quote depth 40) refl),
        (
          simp (h-i0, h-e0, h-e1, h-e2, h-t5, h-t2, h-t1) (ring F (a0 ∷ a1 ∷ a2 ∷ c0 ∷ c1 ∷ c2 ∷ k ∷ r ∷ []) (search quote depth 40) refl),
          (
            simp (h-i0, h-e0, h-e1, h-e2, h-t5, h-t2, h-t1) (ring F (a0 ∷ a1 ∷ a2 ∷ c0 ∷ c1 ∷ c2 ∷ k ∷ r ∷ []) (search quote depth 40) refl),
            (
              ring F (a0 ∷ a1 ∷ a2 ∷ c0 ∷ c1 ∷ c2 ∷ t1 ∷ t2 ∷ t5 ∷ e2 ∷ e1 ∷ e0 ∷ i0 ∷ k ∷ r ∷ []) (search quote depth 40) refl,
              (
                ring F (a0 ∷ a1 ∷ a2 ∷ c0 ∷ c1 ∷ c2 ∷ t1 ∷ t2 ∷ t5 ∷ e2 ∷ e1 ∷ e0 ∷ i0 ∷ k ∷ r ∷ []) (search quote depth 40) refl,
                tt,
              ),
            ),
          ),
        ),
      )

  -- (f - v²)/u is (x + f6 - 2 a2)·u + k, as far as f is known
  pub right_tops : (a0 a1 a2 c0 c1 c2 f0 f1 f2 f3 f4 f5 f6 t1 t2 t3 t4 p t5 k2 k1 k0 : A) → t1 ≡ a0 + a0 → t2 ≡ a1 + a1 → t3 ≡ a2 * a2 → t4 ≡ f4 - (t1 + c2 * c2) → p ≡ a2 * f6 → t5 ≡ f5 + t3 - t2 - p → k2 ≡ t5 + (t3 + t3) - p → k1 ≡ a2 * (t2 - t5) - t2 * f6 + t4 → k0 ≡ a2 * (t1 - k1) + a1 * (t3 + a1 - f5) + f3 - ((c2 + c2) * c1 + t1 * f6)
      → Below F 3 (coef F (mon F (f0 ∷ f1 ∷ f2 ∷ f3 ∷ f4 ∷ f5 ∷ f6 ∷ []) ⊖ pol F (c0 ∷ c1 ∷ c2 ∷ []) ⊗ pol F (c0 ∷ c1 ∷ c2 ∷ []) ⊖ mon F (a0 ∷ a1 ∷ a2 ∷ []) ⊗ (pol F ((f6 - (a2 + a2)) ∷ 𝟙 ∷ []) ⊗ mon F (a0 ∷ a1 ∷ a2 ∷ []) ⊕ pol F (k0 ∷ k1 ∷ k2 ∷ []))))
  unfolding add_l mul_l neg_l scale_l whole
  right_tops a0 a1 a2 c0 c1 c2 f0 f1 f2 f3 f4 f5 f6 t1 t2 t3 t4 p t5 k2 k1 k0 h-t1 h-t2 h-t3 h-t4 h-p h-t5 h-k2 h-k1 h-k0 =
      below_by F 3 (pl (mo (f0 ∷ f1 ∷ f2 ∷ f3 ∷ f4 ∷ f5 ∷ f6 ∷ [])) (ne (ti (lo (c0 ∷ c1 ∷ c2 ∷ [])) (lo (c0 ∷ c1 ∷ c2 ∷ []))))) (ti (mo (a0 ∷ a1 ∷ a2 ∷ [])) (pl (ti (lo ((f6 - (a2 + a2)) ∷ 𝟙 ∷ [])) (mo (a0 ∷ a1 ∷ a2 ∷ []))) (lo (k0 ∷ k1 ∷ k2 ∷ [])))) (
        simp (h-k0, h-k2, h-t5, h-p, h-t3, h-t2, h-t1) (ring F (a0 ∷ a1 ∷ a2 ∷ c0 ∷ c1 ∷ c2 ∷ f0 ∷ f1 ∷ f2 ∷ f3 ∷ f4 ∷ f5 ∷ f6 ∷ t4 ∷ k1 ∷ []) (search quote depth 40) refl),
        (
          simp (h-k1, h-k2, h-t5, h-p, h-t4, h-t3, h-t2, h-t1) (ring F (a0 ∷ a1 ∷ a2 ∷ c0 ∷ c1 ∷ c2 ∷ f0 ∷ f1 ∷ f2 ∷ f3 ∷ f4 ∷ f5 ∷ f6 ∷ k0 ∷ []) (search quote depth 40) refl),
          (
            simp (h-k2, h-t5, h-p, h-t3, h-t2) (ring F (a0 ∷ a1 ∷ a2 ∷ c0 ∷ c1 ∷ c2 ∷ f0 ∷ f1 ∷ f2 ∷ f3 ∷ f4 ∷ f5 ∷ f6 ∷ t1 ∷ t4 ∷ k1 ∷ k0 ∷ []) (search quote depth 40) refl),
            (
              ring F (a0 ∷ a1 ∷ a2 ∷ c0 ∷ c1 ∷ c2 ∷ f0 ∷ f1 ∷ f2 ∷ f3 ∷ f4 ∷ f5 ∷ f6 ∷ t1 ∷ t2 ∷ t3 ∷ t4 ∷ p ∷ t5 ∷ k2 ∷ k1 ∷ k0 ∷ []) (search quote depth 40) refl,
              (
                ring F (a0 ∷ a1 ∷ a2 ∷ c0 ∷ c1 ∷ c2 ∷ f0 ∷ f1 ∷ f2 ∷ f3 ∷ f4 ∷ f5 ∷ f6 ∷ t1 ∷ t2 ∷ t3 ∷ t4 ∷ p ∷ t5 ∷ k2 ∷ k1 ∷ k0 ∷ []) (search quote depth 40) refl,
                tt,
              ),
            ),
          ),
        ),
      )
