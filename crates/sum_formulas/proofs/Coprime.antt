-- What r = 0 says. Two polynomials are coprime where a combination of them is 1. Gives: what takes h to 0 modulo a monic u, coprime to h, and is shorter than u is 0 (`takes_none`); so r = 0 only where what was to be inverted modulo u isn't coprime to u: in genus 2
-- u of one pair modulo that of the other (`r2_none`), and 2v modulo u (`r2_none_twice`).
use Prim.Native.Nat.{ℕ, suc}
use mathlib.Core.Path.{◌≡◌, refl, sym, ap, ap₂, ◌∙◌, subst}
use mathlib.Core.Logic.{◌≢◌}
use mathlib.Core.List.{[], ◌∷◌}
use native.Mathlib.Omega.{arith}
use Rattle.algebra.proofs.Ring.CRing.{CRing, add_zer, mul_zer}
use Rattle.algebra.proofs.Ring.Quote.{ring, quote, by}
use Rattle.algebra.proofs.Poly.Bound.{Below, Monic, below_con}
use Rattle.algebra.proofs.Poly.Poly.{poly, coef, coef_zer, coef_one}
use Rattle.algebra.proofs.Poly.Term.{C, at, term_zer}
use Rattle.algebra.proofs.Poly.Divide.{short_multiple}
use Rattle.sum_formulas.specs.Conditions.{Coprime}
use Rattle.algebra.proofs.List.Value.{pol, mon, coef_pol, pol_below, mon_nil, mon_monic, pol_zeros}

module _ (F : CRing) where
  open F use {El as A, add as ◌+◌, mul as ◌*◌, neg, zer as 𝟘, one as 𝟙}
  open poly F use {El as P, add as ◌⊕◌, mul as ◌⊗◌, neg as negP, zer as 0P, one as 1P}

  infixl 65 ◌+◌
  infixl 70 ◌*◌
  infixl 65 ◌⊕◌
  infixl 70 ◌⊗◌
  pub takes_none : (d : ℕ) (q h u j : P) → Monic F d (coef F u) → Below F d (coef F q) → q ⊗ h ⊕ j ⊗ u ≡ 0P → Coprime F h u → q ≡ 0P
  takes_none d q h u j m b e c = multiple ∙ ap (λ (x : P). u ⊗ x) none ∙ mul_zer (poly F) u
    where
      z : P
      z = q ⊗ c.t ⊕ negP (c.s ⊗ j)

      multiple : q ≡ u ⊗ (q ⊗ c.t ⊕ negP (c.s ⊗ j))
      multiple = by (poly F) (negP q) c.is (by (poly F) c.s e (ring (poly F) (q ∷ h ∷ u ∷ j ∷ c.s ∷ c.t ∷ []) (search quote depth 40) refl))

      none : q ⊗ c.t ⊕ negP (c.s ⊗ j) ≡ 0P
      none = short_multiple F d u (q ⊗ c.t ⊕ negP (c.s ⊗ j)) m (subst (λ (x : P). Below F d (coef F x)) multiple b)

  -- a monic polynomial of degree 1 or more is no unit
  pub no_unit : 𝟙 ≢ 𝟘 → (d : ℕ) (u t : P) → Monic F (suc d) (coef F u) → u ⊗ t ≡ 1P → ⊥
  no_unit ne d u t m e = ne (sym (ap (λ (x : P). coef F x 0) (sym (mon_nil F)) ∙ (mon_monic F []).top) ∙ ap (λ (x : P). coef F x 0) nothing ∙ at F (coef_zer F) 0)
    where
      short : Below F (suc d) (coef F 1P)
      short n l = at F (coef_one F) n ∙ below_con F 𝟙 n (omega arith)

      nothing : 1P ≡ 0P
      nothing = sym e ∙ ap (λ (x : P). u ⊗ x) (short_multiple F (suc d) u t m (subst (λ (x : P). Below F (suc d) (coef F x)) (sym e) short)) ∙ mul_zer (poly F) u

  -- so u isn't coprime to itself, nor to 0
  pub not_itself : 𝟙 ≢ 𝟘 → (d : ℕ) (u h : P) → Monic F (suc d) (coef F u) → h ≡ u → Coprime F h u → ⊥
  not_itself ne d u h m e c = no_unit ne d u (c.s ⊕ c.t) m (ring (poly F) (u ∷ c.s ∷ c.t ∷ []) (search quote depth 40) refl ∙ ap (λ (x : P). c.s ⊗ x ⊕ c.t ⊗ u) (sym e) ∙ c.is)

  pub not_zero : 𝟙 ≢ 𝟘 → (d : ℕ) (u h : P) → Monic F (suc d) (coef F u) → h ≡ 0P → Coprime F h u → ⊥
  not_zero ne d u h m e c = no_unit ne d u c.t m (ring (poly F) (u ∷ c.s ∷ c.t ∷ []) (search quote depth 40) refl ∙ ap (λ (x : P). c.s ⊗ x ⊕ c.t ⊗ u) (sym e) ∙ c.is)

  con_zero : C F 𝟘 ≡ 0P
  con_zero = term_zer F 0

  -- ---- genus 2
  -- the coefficients of q = i0 + i1 x are 0
  both_zero : (i0 i1 : A) → pol F (i0 ∷ i1 ∷ []) ≡ 0P → (i0 ≡ 𝟘) × (i1 ≡ 𝟘)
  both_zero i0 i1 e = (sym (coef_pol F (i0 ∷ i1 ∷ []) 0) ∙ ap (λ (x : P). coef F x 0) e ∙ at F (coef_zer F) 0, sym (coef_pol F (i0 ∷ i1 ∷ []) 1) ∙ ap (λ (x : P). coef F x 1) e ∙ at F (coef_zer F) 1)

  pub r2_none : 𝟙 ≢ 𝟘 → (a0 a1 b0 b1 i0 i1 r : A) (j : P) → i1 ≡ b1 + neg a1 → i0 ≡ b1 * i1 + (a0 + neg b0) → pol F (i0 ∷ i1 ∷ []) ⊗ mon F (a0 ∷ a1 ∷ []) ⊕ j ⊗ mon F (b0 ∷ b1 ∷ []) ≡ C F r → r ≡ 𝟘
      → Coprime F (mon F (a0 ∷ a1 ∷ [])) (mon F (b0 ∷ b1 ∷ [])) → ⊥
  r2_none ne a0 a1 b0 b1 i0 i1 r j h1 h0 e z c = not_itself ne 1 (mon F (b0 ∷ b1 ∷ [])) (mon F (a0 ∷ a1 ∷ [])) (mon_monic F (b0 ∷ b1 ∷ [])) same c
    where
      zeros : (i0 ≡ 𝟘) × (i1 ≡ 𝟘)
      zeros = both_zero i0 i1 (takes_none 2 (pol F (i0 ∷ i1 ∷ [])) (mon F (a0 ∷ a1 ∷ [])) (mon F (b0 ∷ b1 ∷ [])) j (mon_monic F (b0 ∷ b1 ∷ [])) (pol_below F (i0 ∷ i1 ∷ [])) (e ∙ ap (C F) z ∙ con_zero) c)

      same_1 : a1 ≡ b1
      same_1 = by F 𝟙 (sym zeros.1 ∙ h1) (ring F (a1 ∷ b1 ∷ []) (search quote depth 40) refl)

      same_0 : a0 ≡ b0
      same_0 = by F (neg 𝟙) (sym zeros.0 ∙ h0) (by F (neg b1) zeros.1 (ring F (a0 ∷ b0 ∷ b1 ∷ i1 ∷ []) (search quote depth 40) refl))

      same : mon F (a0 ∷ a1 ∷ []) ≡ mon F (b0 ∷ b1 ∷ [])
      same = ap₂ (λ (x y : A). mon F (x ∷ y ∷ [])) same_0 same_1

  pub r2_none_twice : 𝟙 ≢ 𝟘 → (a0 a1 c0 c1 i0 i1 r : A) (j : P) → i1 ≡ neg c1 → i0 ≡ a1 * i1 + c0 → pol F (i0 ∷ i1 ∷ []) ⊗ (pol F (c0 ∷ c1 ∷ []) ⊕ pol F (c0 ∷ c1 ∷ [])) ⊕ j ⊗ mon F (a0 ∷ a1 ∷ []) ≡ C F r → r ≡ 𝟘
      → Coprime F (pol F (c0 ∷ c1 ∷ []) ⊕ pol F (c0 ∷ c1 ∷ [])) (mon F (a0 ∷ a1 ∷ [])) → ⊥
  r2_none_twice ne a0 a1 c0 c1 i0 i1 r j h1 h0 e z c = not_zero ne 1 (mon F (a0 ∷ a1 ∷ [])) (v ⊕ v) (mon_monic F (a0 ∷ a1 ∷ [])) (ap (λ (x : P). x ⊕ x) nothing ∙ add_zer (poly F) 0P) c
    where
      v : P
      v = pol F (c0 ∷ c1 ∷ [])

      zeros : (i0 ≡ 𝟘) × (i1 ≡ 𝟘)
      zeros = both_zero i0 i1 (takes_none 2 (pol F (i0 ∷ i1 ∷ [])) (v ⊕ v) (mon F (a0 ∷ a1 ∷ [])) j (mon_monic F (a0 ∷ a1 ∷ [])) (pol_below F (i0 ∷ i1 ∷ [])) (e ∙ ap (C F) z ∙ con_zero) c)

      none_1 : c1 ≡ 𝟘
      none_1 = by F 𝟙 (sym zeros.1 ∙ h1) (ring F (c1 ∷ []) (search quote depth 40) refl)

      none_0 : c0 ≡ 𝟘
      none_0 = by F (neg 𝟙) (sym zeros.0 ∙ h0) (by F (neg a1) zeros.1 (ring F (a1 ∷ c0 ∷ i1 ∷ []) (search quote depth 40) refl))

      nothing : v ≡ 0P
      nothing = ap₂ (λ (x y : A). pol F (x ∷ y ∷ [])) none_0 none_1 ∙ pol_zeros F 2
