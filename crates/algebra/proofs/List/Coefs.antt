-- A polynomial by its coefficients. Gives: a list that has the coefficients of a polynomial of degree below its length means that
-- polynomial (`pol_of`); one that has the lower coefficients of a monic one, taken as monic, means that one (`mon_of`).
use Prim.Native.Nat.{ℕ, ◌<◌}
use mathlib.Core.Path.{◌≡◌, sym, ap, ◌∙◌}
use mathlib.Core.List.{List}
use native.Mathlib.Omega.{arith}
use native.Mathlib.Decide.{dec_lt, ℕ_discrete}
use lib.ListN.{get_or, length}
use Rattle.algebra.proofs.Ring.CRing.{CRing}
use Rattle.algebra.proofs.Poly.Bound.{Below, Monic}
use Rattle.algebra.proofs.Poly.Poly.{poly, coef, poly_ext}
use Rattle.algebra.proofs.List.Value.{beyond, pol, mon, coef_pol, mon_monic, coef_mon}

module _ (F : CRing) where
  open F use {El as A, zer as 𝟘}

  pub pol_of : (l : List A) (p : (poly F).El) → Below F (length l) (coef F p) → ((k : ℕ) → k < length l → get_or l k 𝟘 ≡ coef F p k) → pol F l ≡ p
  pol_of l p b h = poly_ext F (λ k. coef_pol F l k ∙ go k (dec_lt k (length l)))
    where
      go : (k : ℕ) → Dec (k < length l) → get_or l k 𝟘 ≡ coef F p k
      go k (yes i) = h k i
      go k (no i) = beyond F l k (omega arith) ∙ sym (b k (omega arith))

  pub mon_of : (l : List A) (p : (poly F).El) → Monic F (length l) (coef F p) → ((k : ℕ) → k < length l → get_or l k 𝟘 ≡ coef F p k) → mon F l ≡ p
  mon_of l p m h = poly_ext F (λ k. go k (dec_lt k (length l)) (ℕ_discrete k (length l)))
    where
      go : (k : ℕ) → Dec (k < length l) → Dec (k ≡ length l) → coef F (mon F l) k ≡ coef F p k
      go k (yes i) e = coef_mon F l k i ∙ h k i
      go k (no i) (yes e) = ap (coef F (mon F l)) e ∙ (mon_monic F l).top ∙ sym (ap (coef F p) e ∙ m.top)
      go k (no i) (no e) = (mon_monic F l).below k (omega arith) ∙ sym (m.below k (omega arith))
