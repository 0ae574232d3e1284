-- From the contract of Euclid's last remainder alone: if it has degree 0, no polynomial of degree 1 or more divides both; else one does.
use Prim.Native.Nat.{ℕ, suc, ◌-◌}
use mathlib.Core.Path.{◌≡◌, sym, ap, ◌∙◌, subst}
use native.Mathlib.Omega.{arith}
use native.Mathlib.Decide.{ℕ_discrete}
use Rattle.algebra.proofs.Ring.CRing.{mul_zer}
use Rattle.algebra.proofs.Ring.Divides.{Divides, divides_zer, divides_eq}
use Rattle.algebra.proofs.Ring.Field.{Field}
use Rattle.algebra.proofs.Poly.Poly.{coef}
use Rattle.algebra.proofs.Poly.Term.{at, X, coef_term, term_s, termS_at, termS_off}
use Rattle.algebra.proofs.Poly.Degree.{Degree}
use Rattle.algebra.proofs.Poly.Common.{SharesNoFactor, constant_factor, shares_some}
use Rattle.algebra.proofs.Zmod.Prime.{Prime}
use Rattle.field.specs.declared.Modulus.{Modulus}
use Rattle.field.proofs.Laws.{residue_field}
use Rattle.poly.specs.declared.Poly.{Poly}
use Rattle.poly.specs.Polys.{K, P, pol}
use Rattle.poly.proofs.Lengths.{none_is}
use Rattle.poly_euclid.specs.Euclid.{Shared}
use Rattle.poly_euclid.proofs.Constant.{head, head_ne, constant_is}

module _ (m : Modulus) (prime : Prime m.p) {a b g : Poly} (h : Shared m a b g) where
  open P m use {El as Po, mul as ◌*P◌, zer as 0P}

  infixl 70 ◌*P◌
  abbrev F : Field
  F = residue_field m prime

  -- a polynomial of degree 1 or more that divides both
  pub record SharedFactor : Type 0 where
    pub factor : Po
    pub left : Divides (P m) factor (pol m a)
    pub right : Divides (P m) factor (pol m b)
    pub less_one : ℕ
    pub degree : Degree F (suc less_one) factor

  pub degree_zero : g.n ≡ 1 → SharesNoFactor (K m) (pol m a) (pol m b)
  degree_zero e d da db = constant_factor F (head m prime h.ok e) d (head_ne m prime h.ok e) (divides_eq (P m) (constant_is m prime h.ok e) (h.greatest d da db))

  zero_is : {v : Po} → g.n ≡ 0 → Divides (P m) (pol m g) v → 0P ≡ v
  zero_is e d = sym (d.is ∙ ap (λ t. d.factor *P t) (none_is m h.ok e) ∙ mul_zer (P m) d.factor)

  pub degree_else : (g.n ≡ 1 → ⊥) → SharedFactor
  degree_else ne = go (ℕ_discrete g.n 0)
    where
      x_at : (k : ℕ) → coef (K m) (X (K m)) k ≡ term_s (K m) (K m).one 1 k
      x_at k = at (K m) (coef_term (K m) (K m).one 1) k

      go : Dec (g.n ≡ 0) → SharedFactor
      go (yes e) = record {
        factor = X (K m);
        left = divides_eq (P m) (zero_is e h.left) (divides_zer (P m) (X (K m)));
        right = divides_eq (P m) (zero_is e h.right) (divides_zer (P m) (X (K m)));
        less_one = 0;
        degree = record { below = λ k l. x_at k ∙ termS_off (K m) (K m).one 1 k (λ i. omega arith); top = λ z. F.one_ne (sym (x_at 1 ∙ termS_at (K m) (K m).one 1) ∙ z) };
      }
      go (no e) = record {
        factor = pol m g;
        left = h.left;
        right = h.right;
        less_one = g.n - 2;
        degree = record { below = λ k l. h.ok.size.end k (omega arith); top = λ z. h.ok.size.top (omega arith) (ap (coef (K m) (pol m g)) {x = g.n - 1} {y = suc (g.n - 2)} (omega arith) ∙ z) };
      }

  pub shares_else : (g.n ≡ 1 → ⊥) → SharesNoFactor (K m) (pol m a) (pol m b) → ⊥
  shares_else ne = let f : SharedFactor = degree_else ne in shares_some F (pol m a) (pol m b) f.factor f.left f.right f.degree

-- the same where b stands for w, as the derivative does
module _ (m : Modulus) (prime : Prime m.p) {a b g : Poly} {w : (P m).El} (e : pol m b ≡ w) (h : Shared m a b g) where
  pub shares_none_with : g.n ≡ 1 → SharesNoFactor (K m) (pol m a) w
  shares_none_with l = subst (λ (v : (P m).El). SharesNoFactor (K m) (pol m a) v) e (degree_zero m prime h l)

  pub shares_some_with : (g.n ≡ 1 → ⊥) → SharesNoFactor (K m) (pol m a) w → ⊥
  shares_some_with n f = shares_else m prime h n (subst (λ (v : (P m).El). SharesNoFactor (K m) (pol m a) v) (sym e) f)
