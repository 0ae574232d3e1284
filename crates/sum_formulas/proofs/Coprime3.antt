-- What r = 0 says in genus 3, of the values that code keeps under these names (Open3): what was to be inverted isn't coprime to u (`r3_none`; 2v: `r3_none_twice`). i may be 0 itself; then d = d0 + d1 x + d2 x², which is a multiple of it modulo u, divides u, up to a
-- factor, and what is left of u takes d to 0 (`divides_u`).
use mathlib.Core.Path.{◌≡◌, refl, sym, ap, ◌∙◌}
use mathlib.Core.Logic.{◌≢◌}
use mathlib.Core.List.{[], ◌∷◌}
use native.Mathlib.Omega.{arith}
use Rattle.algebra.proofs.Ring.CRing.{CRing}
use Rattle.algebra.proofs.Ring.Quote.{ring, quote, by}
use Rattle.algebra.proofs.Ring.Field.{Field, no_zero_divisors}
use Rattle.algebra.proofs.Poly.Poly.{poly, coef, coef_zer}
use Rattle.algebra.proofs.Poly.Term.{C, at, term_zer}
use Rattle.algebra.proofs.List.Ops.{add_l, mul_l, neg_l, scale_l, whole}
use Rattle.algebra.proofs.List.Value.{pol, mon, coef_pol, pol_below, pol_nil, mon_monic, pol_zeros}
use Rattle.sum_formulas.proofs.Lists.{lo, mo, co, pl, ti, ne, equal_by}
use Rattle.sum_formulas.specs.Conditions.{Coprime}
use Rattle.sum_formulas.proofs.Coprime.{takes_none, not_zero}

-- in a field
pub square-none : (K : Field) (x : K.arith.base.El) → K.arith.base.mul x x ≡ K.arith.base.zer → x ≡ K.arith.base.zer
square-none K x e = go (K.arith.dec x K.arith.base.zer)
  where
    go : Dec (x ≡ K.arith.base.zer) → x ≡ K.arith.base.zer
    go (yes z) = z
    go (no n) = absurd (no_zero_divisors K x x n n e)

module _ (F : CRing) (unlike : F.one ≢ F.zer) (square : (x : F.El) → F.mul x x ≡ F.zer → x ≡ F.zer) where
  open F use {El as A, add as ◌+◌, mul as ◌*◌, neg, zer as 𝟘, one as 𝟙}
  open poly F use {El as P, add as ◌⊕◌, mul as ◌⊗◌, neg as negP, zer as 0P, one as 1P}

  infixl 65 ◌+◌
  infixl 65 ◌-◌
  infixl 70 ◌*◌
  infixl 65 ◌⊕◌
  infixl 70 ◌⊗◌
  abbrev ◌-◌ : A → A → A
  a - b = a + neg b

  divides_u : (d0 d1 d2 u0 u1 u2 : A) → d2 * (d0 + u2 * d1 - u1 * d2) - d1 * d1 ≡ 𝟘 → d0 * d1 - d2 * (u2 * d0 - u0 * d2) ≡ 𝟘
      → pol F ((d2 * u2 - d1) ∷ d2 ∷ []) ⊗ pol F (d0 ∷ d1 ∷ d2 ∷ []) ⊕ C F (neg (d2 * d2)) ⊗ mon F (u0 ∷ u1 ∷ u2 ∷ []) ≡ pol F []
  unfolding add_l mul_l neg_l scale_l whole
  divides_u d0 d1 d2 u0 u1 u2 h2 h1 = equal_by F (pl (ti (lo ((d2 * u2 - d1) ∷ d2 ∷ [])) (lo (d0 ∷ d1 ∷ d2 ∷ []))) (ti (co (neg (d2 * d2))) (mo (u0 ∷ u1 ∷ u2 ∷ [])))) (lo []) (
    by F (neg 𝟙) h1 (ring F (d0 ∷ d1 ∷ d2 ∷ u0 ∷ u1 ∷ u2 ∷ []) (search quote depth 40) refl),
    (
      by F 𝟙 h2 (ring F (d0 ∷ d1 ∷ d2 ∷ u0 ∷ u1 ∷ u2 ∷ []) (search quote depth 40) refl),
      (
        ring F (d0 ∷ d1 ∷ d2 ∷ u0 ∷ u1 ∷ u2 ∷ []) (search quote depth 40) refl,
        (ring F (d0 ∷ d1 ∷ d2 ∷ u0 ∷ u1 ∷ u2 ∷ []) (search quote depth 40) refl, tt),
      ),
    ),
  )

  module _ (d0 d1 d2 u0 u1 u2 : A) (h2 : d2 * (d0 + u2 * d1 - u1 * d2) - d1 * d1 ≡ 𝟘) (h1 : d0 * d1 - d2 * (u2 * d0 - u0 * d2) ≡ 𝟘) (h0 : d2 * (u1 * d0 - u0 * d1) - d0 * d0 ≡ 𝟘)
      (c : Coprime F (pol F (d0 ∷ d1 ∷ d2 ∷ [])) (mon F (u0 ∷ u1 ∷ u2 ∷ []))) where
    left : pol F ((d2 * u2 - d1) ∷ d2 ∷ []) ≡ 0P
    left = takes_none F 3 (pol F ((d2 * u2 - d1) ∷ d2 ∷ [])) (pol F (d0 ∷ d1 ∷ d2 ∷ [])) (mon F (u0 ∷ u1 ∷ u2 ∷ [])) (C F (neg (d2 * d2))) (mon_monic F (u0 ∷ u1 ∷ u2 ∷ []))
        (λ n l. pol_below F ((d2 * u2 - d1) ∷ d2 ∷ []) n (omega arith)) (divides_u d0 d1 d2 u0 u1 u2 h2 h1 ∙ pol_nil F) c

    none_2 : d2 ≡ 𝟘
    none_2 = sym (coef_pol F ((d2 * u2 - d1) ∷ d2 ∷ []) 1) ∙ ap (λ (x : P). coef F x 1) left ∙ at F (coef_zer F) 1

    none_1 : d1 ≡ 𝟘
    none_1 = by F (neg 𝟙) (sym (coef_pol F ((d2 * u2 - d1) ∷ d2 ∷ []) 0) ∙ ap (λ (x : P). coef F x 0) left ∙ at F (coef_zer F) 0) (by F u2 none_2 (ring F (d1 ∷ d2 ∷ u2 ∷ []) (search quote depth 40) refl))

    none_0 : d0 ≡ 𝟘
    none_0 = square d0 (by F (neg 𝟙) h0 (by F (u1 * d0 - u0 * d1) none_2 (ring F (d0 ∷ d1 ∷ d2 ∷ u0 ∷ u1 ∷ []) (search quote depth 40) refl)))

    pub never : ⊥
    never = not_zero F unlike 2 (mon F (u0 ∷ u1 ∷ u2 ∷ [])) (pol F (d0 ∷ d1 ∷ d2 ∷ [])) (mon_monic F (u0 ∷ u1 ∷ u2 ∷ [])) ((λ i. pol F (none_0 i ∷ none_1 i ∷ none_2 i ∷ [])) ∙ pol_zeros F 3) c

  -- ---- i = 0
  module _ (h : P) (i0 u0 u1 u2 e0 e1 e2 r : A) (j : P) (low : i0 ≡ u1 * e2 + u2 * e1 + e0) (is : pol F (i0 ∷ (u2 * e2 + e1) ∷ e2 ∷ []) ⊗ h ⊕ j ⊗ mon F (u0 ∷ u1 ∷ u2 ∷ []) ≡ C F r) (z : r ≡ 𝟘) (c : Coprime F h (mon F (u0 ∷ u1 ∷ u2 ∷ []))) where
    taken : pol F (i0 ∷ (u2 * e2 + e1) ∷ e2 ∷ []) ≡ 0P
    taken = takes_none F 3 (pol F (i0 ∷ (u2 * e2 + e1) ∷ e2 ∷ [])) h (mon F (u0 ∷ u1 ∷ u2 ∷ [])) j (mon_monic F (u0 ∷ u1 ∷ u2 ∷ [])) (pol_below F (i0 ∷ (u2 * e2 + e1) ∷ e2 ∷ [])) (is ∙ ap (C F) z ∙ term_zer F 0) c

    pub zero_2 : e2 ≡ 𝟘
    zero_2 = sym (coef_pol F (i0 ∷ (u2 * e2 + e1) ∷ e2 ∷ []) 2) ∙ ap (λ (x : P). coef F x 2) taken ∙ at F (coef_zer F) 2

    pub zero_1 : e1 ≡ 𝟘
    zero_1 = by F 𝟙 (sym (coef_pol F (i0 ∷ (u2 * e2 + e1) ∷ e2 ∷ []) 1) ∙ ap (λ (x : P). coef F x 1) taken ∙ at F (coef_zer F) 1) (by F (neg u2) zero_2 (ring F (u2 ∷ e1 ∷ e2 ∷ []) (search quote depth 40) refl))

    pub zero_0 : e0 ≡ 𝟘
    zero_0 = by F 𝟙 (sym low ∙ sym (coef_pol F (i0 ∷ (u2 * e2 + e1) ∷ e2 ∷ []) 0) ∙ ap (λ (x : P). coef F x 0) taken ∙ at F (coef_zer F) 0)
        (by F (neg u1) zero_2 (by F (neg u2) zero_1 (ring F (u1 ∷ u2 ∷ e0 ∷ e1 ∷ e2 ∷ []) (search quote depth 40) refl)))

  -- ---- u of one pair modulo that of the other
  difference : (a0 a1 a2 b0 b1 b2 t3 t4 t5 : A) → t3 ≡ b0 - a0 → t4 ≡ b1 - a1 → t5 ≡ b2 - a2 → pol F (t3 ∷ t4 ∷ t5 ∷ []) ≡ mon F (b0 ∷ b1 ∷ b2 ∷ []) ⊕ negP (mon F (a0 ∷ a1 ∷ a2 ∷ []))
  unfolding add_l mul_l neg_l scale_l whole
  difference a0 a1 a2 b0 b1 b2 t3 t4 t5 h3 h4 h5 = equal_by F (lo (t3 ∷ t4 ∷ t5 ∷ [])) (pl (mo (b0 ∷ b1 ∷ b2 ∷ [])) (ne (mo (a0 ∷ a1 ∷ a2 ∷ [])))) (
    h3,
    (h4, (h5, (ring F [] (search quote depth 40) refl, tt))),
  )

  pub r3_none : (a0 a1 a2 b0 b1 b2 t1 t2 t3 t4 t5 t8 e2 e1 e0 i0 r : A) (j : P) → t1 ≡ a1 * b0 - a0 * b1 → t2 ≡ a2 * b0 - a0 * b2 → t3 ≡ b0 - a0 → t4 ≡ b1 - a1 → t5 ≡ b2 - a2 → t8 ≡ a2 * b1 - a1 * b2 + t3 → e2 ≡ t5 * t8 - t4 * t4 → e1 ≡ t3 * t4 - t2 * t5 → e0 ≡ t1 * t5 - t3 * t3
      → i0 ≡ b1 * e2 + b2 * e1 + e0 → pol F (i0 ∷ (b2 * e2 + e1) ∷ e2 ∷ []) ⊗ mon F (a0 ∷ a1 ∷ a2 ∷ []) ⊕ j ⊗ mon F (b0 ∷ b1 ∷ b2 ∷ []) ≡ C F r → r ≡ 𝟘 → Coprime F (mon F (a0 ∷ a1 ∷ a2 ∷ [])) (mon F (b0 ∷ b1 ∷ b2 ∷ [])) → ⊥
  r3_none a0 a1 a2 b0 b1 b2 t1 t2 t3 t4 t5 t8 e2 e1 e0 i0 r j h-t1 h-t2 h-t3 h-t4 h-t5 h-t8 h-e2 h-e1 h-e0 low is z c = never t3 t4 t5 b0 b1 b2
      (sym by_2 ∙ zero_2 ua i0 b0 b1 b2 e0 e1 e2 r j low is z c) (sym by_1 ∙ zero_1 ua i0 b0 b1 b2 e0 e1 e2 r j low is z c) (sym by_0 ∙ zero_0 ua i0 b0 b1 b2 e0 e1 e2 r j low is z c) other
    where
      ua : P
      ua = mon F (a0 ∷ a1 ∷ a2 ∷ [])

      by_2 : e2 ≡ t5 * (t3 + b2 * t4 - b1 * t5) - t4 * t4
      by_2 = simp (h-e2, h-t8, h-t5, h-t4, h-t3) (ring F (a0 ∷ a1 ∷ a2 ∷ b0 ∷ b1 ∷ b2 ∷ []) (search quote depth 40) refl)

      by_1 : e1 ≡ t3 * t4 - t5 * (b2 * t3 - b0 * t5)
      by_1 = simp (h-e1, h-t2, h-t5, h-t4, h-t3) (ring F (a0 ∷ a1 ∷ a2 ∷ b0 ∷ b1 ∷ b2 ∷ []) (search quote depth 40) refl)

      by_0 : e0 ≡ t5 * (b1 * t3 - b0 * t4) - t3 * t3
      by_0 = simp (h-e0, h-t1, h-t5, h-t4, h-t3) (ring F (a0 ∷ a1 ∷ a2 ∷ b0 ∷ b1 ∷ b2 ∷ []) (search quote depth 40) refl)

      other : Coprime F (pol F (t3 ∷ t4 ∷ t5 ∷ [])) (mon F (b0 ∷ b1 ∷ b2 ∷ []))
      other = record {
        s = negP c.s;
        t = c.s ⊕ c.t;
        is = ap (λ (x : P). negP c.s ⊗ x ⊕ (c.s ⊕ c.t) ⊗ mon F (b0 ∷ b1 ∷ b2 ∷ [])) (difference a0 a1 a2 b0 b1 b2 t3 t4 t5 h-t3 h-t4 h-t5)
            ∙ ring (poly F) (c.s ∷ c.t ∷ mon F (a0 ∷ a1 ∷ a2 ∷ []) ∷ mon F (b0 ∷ b1 ∷ b2 ∷ []) ∷ []) (search quote depth 40) refl ∙ c.is;
      }

  -- ---- 2v modulo u
  none_neg : (x y : A) → x ≡ neg y → x ≡ 𝟘 → y ≡ 𝟘
  none_neg x y e z = by F (neg 𝟙) (sym e ∙ z) (ring F (y ∷ []) (search quote depth 40) refl)

  pub r3_none_twice : (a0 a1 a2 c0 c1 c2 t1 t2 t5 e2 e1 e0 i0 r : A) (j : P) → t1 ≡ a1 * c0 - a0 * c1 → t2 ≡ a2 * c0 - a0 * c2 → t5 ≡ a2 * c1 - a1 * c2 + c0 → e2 ≡ c1 * c1 - c2 * t5 → e1 ≡ c2 * t2 - c1 * c0 → e0 ≡ c0 * c0 - c2 * t1 → i0 ≡ a1 * e2 + a2 * e1 + e0
      → pol F (i0 ∷ (a2 * e2 + e1) ∷ e2 ∷ []) ⊗ (pol F (c0 ∷ c1 ∷ c2 ∷ []) ⊕ pol F (c0 ∷ c1 ∷ c2 ∷ [])) ⊕ j ⊗ mon F (a0 ∷ a1 ∷ a2 ∷ []) ≡ C F r → r ≡ 𝟘
      → Coprime F (pol F (c0 ∷ c1 ∷ c2 ∷ []) ⊕ pol F (c0 ∷ c1 ∷ c2 ∷ [])) (mon F (a0 ∷ a1 ∷ a2 ∷ [])) → ⊥
  r3_none_twice a0 a1 a2 c0 c1 c2 t1 t2 t5 e2 e1 e0 i0 r j h-t1 h-t2 h-t5 h-e2 h-e1 h-e0 low is z c = never c0 c1 c2 a0 a1 a2
      (none_neg e2 _ by_2 (zero_2 (v ⊕ v) i0 a0 a1 a2 e0 e1 e2 r j low is z c)) (none_neg e1 _ by_1 (zero_1 (v ⊕ v) i0 a0 a1 a2 e0 e1 e2 r j low is z c)) (none_neg e0 _ by_0 (zero_0 (v ⊕ v) i0 a0 a1 a2 e0 e1 e2 r j low is z c)) other
    where
      v : P
      v = pol F (c0 ∷ c1 ∷ c2 ∷ [])

      by_2 : e2 ≡ neg (c2 * (c0 + a2 * c1 - a1 * c2) - c1 * c1)
      by_2 = simp (h-e2, h-t5) (ring F (a1 ∷ a2 ∷ c0 ∷ c1 ∷ c2 ∷ []) (search quote depth 40) refl)

      by_1 : e1 ≡ neg (c0 * c1 - c2 * (a2 * c0 - a0 * c2))
      by_1 = simp (h-e1, h-t2) (ring F (a0 ∷ a2 ∷ c0 ∷ c1 ∷ c2 ∷ []) (search quote depth 40) refl)

      by_0 : e0 ≡ neg (c2 * (a1 * c0 - a0 * c1) - c0 * c0)
      by_0 = simp (h-e0, h-t1) (ring F (a0 ∷ a1 ∷ c0 ∷ c1 ∷ c2 ∷ []) (search quote depth 40) refl)

      other : Coprime F v (mon F (a0 ∷ a1 ∷ a2 ∷ []))
      other = record { s = c.s ⊕ c.s; t = c.t; is = ring (poly F) (c.s ∷ c.t ∷ v ∷ mon F (a0 ∷ a1 ∷ a2 ∷ []) ∷ []) (search quote depth 40) refl ∙ c.is }
