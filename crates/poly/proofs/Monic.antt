-- Monic Polys. Gives: what making a Poly monic promises; that a monic one isn't zero, and is 1 where its degree is 0; the products and the
-- exact quotients of monic ones are monic, and their lengths.
use Prim.Native.Nat.{ℕ, zero, suc, ◌+◌, ◌-◌, ◌≤◌}
use mathlib.Core.Path.{◌≡◌, refl, sym, ap, ap₂, ◌∙◌}
use mathlib.Core.Logic.{◌≢◌}
use native.Mathlib.Omega.{arith}
use native.Mathlib.Decide.{dec_le}
use Rattle.algebra.proofs.Ring.CRing.{mul-one, zer_mul}
use Rattle.algebra.proofs.Poly.Series.{con}
use Rattle.algebra.proofs.Poly.Bound.{Below, lead_mul}
use Rattle.algebra.proofs.Poly.Poly.{coef, coef_mul, coef_zer, coef_one, poly_ext}
use Rattle.algebra.proofs.Poly.Term.{at, C, coef_shift, term_one}
use Rattle.field.specs.declared.Residue.{Residue}
use Rattle.field.specs.declared.Modulus.{Modulus}
use Rattle.field.specs.Residues.{el}
use Rattle.field.proofs.Laws.{one_ne}
use Rattle.poly.specs.declared.Poly.{Poly}
use Rattle.poly.specs.Polys.{K, P, pol, Ok, Is}
use Rattle.poly.specs.Operations.{IsMonic, Led, ToQuotient, Quotient, MonicBy}
use Rattle.poly.proofs.Lengths.{none_is}
use Rattle.poly.proofs.Division.{monic_of}

module _ (m : Modulus) where
  open K m use {El as A, mul as ◌⊗◌, zer as 𝟘, one as 𝟙}
  open P m use {El as Po, mul as ◌*P◌, zer as 0P, one as 1P}

  infixl 70 ◌⊗◌
  infixl 70 ◌*P◌
  abbrev cf : Po → ℕ → A
  cf v = coef (K m) v

  -- a coefficient 1 just below the bound fixes the length
  pub exact : {r : Poly} {n : ℕ} → Ok m r → r.n ≤ suc n → cf (pol m r) n ≡ 𝟙 → r.n ≡ suc n
  exact {r} {n} h l e = go (dec_le r.n n)
    where
      go : Dec (r.n ≤ n) → r.n ≡ suc n
      go (yes g) = absurd (one_ne m (sym e ∙ h.size.end n g))
      go (no g) = omega arith

  pub monic_at : {r : Poly} {n : ℕ} → Ok m r → r.n ≤ suc n → cf (pol m r) n ≡ 𝟙 → IsMonic m r
  monic_at {r} {n} h l e = record { some = omega (arith, exact h l e); lead = ap (cf (pol m r)) {x = r.n - 1} {y = n} (omega (arith, exact h l e)) ∙ e }

  -- ---- making monic
  pub made_zero : {a : Poly} → Ok m a → a.n ≡ 0 → MonicBy m 𝟙 a a
  made_zero {a} h e = record {
    ok = h;
    down = 𝟙;
    unit = (K m).one-mul 𝟙;
    is = sym (ap (λ t. t *P pol m a) (term_one (K m)) ∙ (P m).one-mul (pol m a));
    same = refl;
    lead = λ l. absurd (omega arith);
  }

  pub made_monic : {a r : Poly} (c : Residue) → Led m a → cf (pol m a) (a.n - 1) ⊗ el m c ≡ 𝟙 → Is m r (C (K m) (el m c) *P pol m a) a.n → MonicBy m (el m c) a r
  made_monic {a} {r} c h e hr = record {
    ok = hr.ok;
    down = cf (pol m a) (a.n - 1);
    unit = e;
    is = hr.is;
    same = omega (arith, exact hr.ok long top, h.some);
    lead = λ l. monic_at hr.ok long top;
  }
    where
      long : r.n ≤ suc (a.n - 1)
      long = omega (arith, hr.short, h.some)

      top : cf (pol m r) (a.n - 1) ≡ 𝟙
      top = ap (λ v. cf v (a.n - 1)) hr.is ∙ ap (cf (C (K m) (el m c) *P pol m a)) {x = a.n - 1} {y = 0 + (a.n - 1)} (omega arith) ∙ coef_shift (K m) (el m c) 0 (a.n - 1) (pol m a) ∙ (K m).mul_comm (el m c) (cf (pol m a) (a.n - 1)) ∙ e

  -- ---- monic ones
  pub monic_ne : {a : Poly} → Ok m a → IsMonic m a → pol m a ≢ 0P
  monic_ne {a} h o e = one_ne m (sym o.lead ∙ ap (λ v. cf v (a.n - 1)) e ∙ at (K m) (coef_zer (K m)) (a.n - 1))

  -- monic of degree 0 is 1
  pub monic_one : {g : Poly} → Ok m g → g.n ≡ 1 → IsMonic m g → pol m g ≡ 1P
  unfolding con
  monic_one {g} h e o = poly_ext (K m) (λ k. go k ∙ sym (at (K m) (coef_one (K m)) k))
    where
      go : (k : ℕ) → cf (pol m g) k ≡ con (K m) 𝟙 k
      go zero = ap (cf (pol m g)) {x = 0} {y = g.n - 1} (omega arith) ∙ o.lead
      go (suc k) = h.size.end (suc k) (omega arith)

  lead_at : (i j k : ℕ) (a b : Po) → Below (K m) (suc i) (cf a) → Below (K m) (suc j) (cf b) → i + j ≡ k → cf (a *P b) k ≡ cf a i ⊗ cf b j
  lead_at i j k a b ha hb e = at (K m) (coef_mul (K m) a b) k ∙ lead_mul (K m) i j k (cf a) (cf b) ha hb e

  -- a product of monic ones
  module _ {a b r : Poly} (ha : Ok m a) (hb : Ok m b) (oa : IsMonic m a) (ob : IsMonic m b) (h : Is m r (pol m a *P pol m b) (a.n + b.n - 1)) where
    long : r.n ≤ suc (a.n - 1 + (b.n - 1))
    long = omega (arith, h.short, oa.some, ob.some)

    top : cf (pol m r) (a.n - 1 + (b.n - 1)) ≡ 𝟙
    top = ap (λ t. cf t (a.n - 1 + (b.n - 1))) h.is ∙ lead_at (a.n - 1) (b.n - 1) (a.n - 1 + (b.n - 1)) (pol m a) (pol m b) (monic_of m ha oa).below (monic_of m hb ob).below refl ∙ ap₂ ◌⊗◌ oa.lead ob.lead ∙ (K m).one-mul 𝟙

    pub product_length : r.n ≡ a.n + b.n - 1
    product_length = omega (arith, exact h.ok long top, oa.some, ob.some)

    pub product_monic : IsMonic m r
    product_monic = monic_at h.ok long top

  -- the exact quotient of monic ones
  module _ {a u q : Poly} (h : ToQuotient m a u) (v : Quotient m a u q) (oa : IsMonic m a) where
    pub quotient_fits : u.n ≤ a.n
    quotient_fits = go (dec_le u.n a.n)
      where
        go : Dec (u.n ≤ a.n) → u.n ≤ a.n
        go (yes l) = l
        go (no g) = absurd (monic_ne h.left oa (v.is ∙ ap (λ t. t *P pol m u) (none_is m v.ok (omega (arith, v.short))) ∙ zer_mul (P m) (pol m u)))

    q_long : q.n ≤ suc (a.n - u.n)
    q_long = omega (arith, v.short, quotient_fits)

    q_top : cf (pol m q) (a.n - u.n) ≡ 𝟙
    q_top = sym (mul-one (K m) (cf (pol m q) (a.n - u.n))) ∙ ap (λ t. cf (pol m q) (a.n - u.n) ⊗ t) (sym h.monic.lead)
        ∙ sym (lead_at (a.n - u.n) (u.n - 1) (a.n - 1) (pol m q) (pol m u) (λ k l. v.ok.size.end k (omega (arith, q_long))) (monic_of m h.right h.monic).below (omega (arith, h.monic.some, quotient_fits)))
        ∙ ap (λ t. cf t (a.n - 1)) (sym v.is)
        ∙ oa.lead

    pub quotient_length : q.n ≡ a.n + 1 - u.n
    quotient_length = omega (arith, exact v.ok q_long q_top, quotient_fits)

    pub quotient_monic : IsMonic m q
    quotient_monic = monic_at v.ok q_long q_top
