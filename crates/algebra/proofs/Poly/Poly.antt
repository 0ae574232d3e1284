-- The ring K[x] over a commutative ring K. Gives: `poly F`, the bounded series as a commutative ring; `coef`, the coefficients of a
-- polynomial, and `mk`, a polynomial from its coefficients and a bound; `poly_ext`, that polynomials with equal coefficients are equal;
-- the coefficients of sums, opposites, products, 0 and 1.
-- Shut (`unfoldable`): `poly`, `coef`, `mk`. Laws above this file come through `coef-..` and `poly_ext` alone.
use Prim.Native.Nat.{ℕ, zero, ◌+◌, ◌-◌}
use mathlib.Core.Path.{◌≡◌, refl, fun_ext}
use mathlib.Core.HLevel.{Σ_set, Σ_prop_path, prop→set}
use mathlib.Core.Logic.{∥∥₁_prop, ∥∥₁_map, ∥∥₁_map₂}
use native.Mathlib.Nat.{le-add_left, le-add_right}
use Rattle.algebra.proofs.Ring.CRing.{CRing}
use Rattle.algebra.proofs.Poly.Series.{Ser, add_s, neg_s, zer_s, con, mul_s, series}
use Rattle.algebra.proofs.Poly.Bound.{Below, below_mono, below_add, below_neg, below_con, below_mul}

module _ (F : CRing) where
  open F use {one as 𝟙}

  abbrev pub Bounded : Ser F → Type 0
  Bounded p = ∥ ((n : ℕ) × Below F n p) ∥₁

  abbrev pub Pol : Type 0
  Pol = (p : Ser F) × Bounded p

  pub pol_path : {p q : Pol} → ((n : ℕ) → p.0 n ≡ q.0 n) → p ≡ q
  pol_path h = Σ_prop_path (λ p. ∥∥₁_prop) (fun_ext h)

  pub bounded_add : {p q : Ser F} → Bounded p → Bounded q → Bounded (add_s F p q)
  bounded_add {p} {q} h g = ∥∥₁_map₂ h g (λ u v. (u.0 + v.0, below_add F (below_mono F (le-add_right u.0 v.0) u.1) (below_mono F (le-add_left v.0 u.0) v.1)))

  pub bounded_neg : {p : Ser F} → Bounded p → Bounded (neg_s F p)
  bounded_neg h = ∥∥₁_map h (λ u. (u.0, below_neg F u.1))

  pub bounded_mul : {p q : Ser F} → Bounded p → Bounded q → Bounded (mul_s F p q)
  bounded_mul {p} {q} h g = ∥∥₁_map₂ h g (λ u v. (u.0 + v.0 - 1, below_mul F u.0 v.0 p q u.1 v.1))

  unfoldable pub poly : CRing
  poly = record {
    El = Pol;
    add = λ p q. (add_s F p.0 q.0, bounded_add p.1 q.1);
    mul = λ p q. (mul_s F p.0 q.0, bounded_mul p.1 q.1);
    neg = λ p. (neg_s F p.0, bounded_neg p.1);
    zer = (zer_s F, ∣ (zero, λ k l. refl) ∣₁);
    one = (con F 𝟙, ∣ (1, below_con F 𝟙) ∣₁);
    is_set = Σ_set (series F).is_set (λ p. prop→set ∥∥₁_prop);
    add_assoc = λ a b c. Σ_prop_path (λ p. ∥∥₁_prop) ((series F).add_assoc a.0 b.0 c.0);
    add_comm = λ a b. Σ_prop_path (λ p. ∥∥₁_prop) ((series F).add_comm a.0 b.0);
    zer_add = λ a. Σ_prop_path (λ p. ∥∥₁_prop) ((series F).zer_add a.0);
    neg_add = λ a. Σ_prop_path (λ p. ∥∥₁_prop) ((series F).neg_add a.0);
    mul_assoc = λ a b c. Σ_prop_path (λ p. ∥∥₁_prop) ((series F).mul_assoc a.0 b.0 c.0);
    mul_comm = λ a b. Σ_prop_path (λ p. ∥∥₁_prop) ((series F).mul_comm a.0 b.0);
    one-mul = λ a. Σ_prop_path (λ p. ∥∥₁_prop) ((series F).one-mul a.0);
    add-mul = λ a b c. Σ_prop_path (λ p. ∥∥₁_prop) ((series F).add-mul a.0 b.0 c.0);
  }

  -- what is known of polynomials from here on, `poly` being shut
  open poly use {El as Po, add as addP, mul as mulP, neg as negP, zer as zerP, one as oneP}

  unfoldable pub coef : Po → Ser F
  unfolding poly
  coef p = p.0

  pub coef_bounded : (p : Po) → Bounded (coef p)
  unfolding poly coef
  coef_bounded p = p.1

  unfoldable pub mk : (n : ℕ) (p : Ser F) → Below F n p → Po
  unfolding poly
  mk n p h = (p, ∣ (n, h) ∣₁)

  pub poly_ext : {p q : Po} → ((n : ℕ) → coef p n ≡ coef q n) → p ≡ q
  unfolding poly coef
  poly_ext h = pol_path h

  pub coef_mk : {n : ℕ} {p : Ser F} (h : Below F n p) → coef (mk n p h) ≡ p
  unfolding poly coef mk
  coef_mk h = refl

  pub coef_add : (p q : Po) → coef (addP p q) ≡ add_s F (coef p) (coef q)
  unfolding poly coef
  coef_add p q = refl

  pub coef_mul : (p q : Po) → coef (mulP p q) ≡ mul_s F (coef p) (coef q)
  unfolding poly coef
  coef_mul p q = refl

  pub coef_neg : (p : Po) → coef (negP p) ≡ neg_s F (coef p)
  unfolding poly coef
  coef_neg p = refl

  pub coef_zer : coef zerP ≡ zer_s F
  unfolding poly coef
  coef_zer = refl

  pub coef_one : coef oneP ≡ con F 𝟙
  unfolding poly coef
  coef_one = refl
