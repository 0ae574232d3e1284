-- The product, a row of b for each coefficient of a: after i rows the residues stand for (the first i terms of a) · b.
use Prim.Native.Nat.{ℕ, suc, ◌+◌, ◌-◌, ◌<◌, ◌≤◌}
use mathlib.Core.Path.{◌≡◌, refl, sym, ap, ap₂, ◌∙◌}
use mathlib.Core.List.{List, [], ◌∷◌}
use native.Mathlib.Omega.{arith}
use lib.ListN.{length}
use Rattle.algebra.proofs.Ring.CRing.{zer_mul, mul_zer}
use Rattle.algebra.proofs.Ring.Quote.{ring, quote}
use Rattle.algebra.proofs.Poly.Poly.{coef}
use Rattle.algebra.proofs.Poly.Term.{term}
use Rattle.algebra.proofs.Poly.Degree.{Degree, degree_mul}
use Rattle.algebra.proofs.Poly.Build.{part, part_all}
use Rattle.field.specs.declared.Residue.{Residue}
use Rattle.algebra.proofs.Zmod.Prime.{Prime}
use Rattle.field.specs.declared.Modulus.{Modulus}
use Rattle.field.specs.Residues.{el, Stands}
use Rattle.field.proofs.Laws.{residue_field}
use Rattle.poly.specs.declared.Poly.{Poly}
use Rattle.poly.specs.Polys.{room, K, P, pol_l, pol, Filled, Is}
use Rattle.poly.specs.Operations.{Product}
use Rattle.poly.proofs.Lengths.{recast, none_is, degree_of}
use Rattle.poly.proofs.Rows.{Rowing, row_is}

module _ (m : Modulus) (a b : Poly) where
  open P m use {El as Po, add as ◌+P◌, mul as ◌*P◌, zer as 0P}

  infixl 65 ◌+P◌
  infixl 70 ◌*P◌
  abbrev first : ℕ → Po
  first i = part (K m) i (coef (K m) (pol m a))

  pub record Multiplying (l : List Residue) (i : ℕ) : Type 0 where
    pub within : i ≤ a.n
    pub long : length l ≡ room
    pub fill : Filled m l
    pub is : pol_l m l ≡ first i *P pol m b

  pub mul_begin : {z : Poly} → Is m z 0P 0 → length z.c ≡ room → Multiplying z.c 0
  unfolding part
  mul_begin h e = record { within = omega arith; long = e; fill = h.ok.fill; is = h.is ∙ ring (P m) (pol m b ∷ []) (search quote depth 40) refl }

  module _ (h : Product m a b) where
    pub cell_in : {i k : ℕ} → i < a.n → k < b.n → i + k < room
    cell_in l g = omega (arith, h.fits)

    pub row_fits : {i : ℕ} → i < a.n → i + b.n ≤ room
    row_fits l = omega (arith, h.fits)

    pub mul_turn : {l j : List Residue} {i k : ℕ} {x : Residue} → Multiplying l i → i < a.n → Stands m x (coef (K m) (pol m a) i) → Rowing m (pol_l m l) (el m x) i b j k → b.n ≤ k → Multiplying j (i + 1)
    unfolding part
    mul_turn {l} {j} {i} {k} {x} v lt hx row over = record {
      within = omega arith;
      long = row.long;
      fill = row.fill;
      is = row_is m (pol_l m l) (el m x) i b h.right (omega (arith, h.fits)) row over
          ∙ ap₂ (λ t u. t +P term (K m) u i *P pol m b) v.is hx.is
          ∙ ring (P m) (first i ∷ pol m b ∷ term (K m) (coef (K m) (pol m a) i) i ∷ []) (search quote depth 40) refl
          ∙ ap (λ n. first n *P pol m b) {x = suc i} {y = i + 1} (omega arith);
    }

    -- no coefficient of either is left over: modulo a prime the leading ones don't multiply to zero
    pub mul_end : Prime m.p → {l : List Residue} {i : ℕ} → Multiplying l i → a.n ≤ i → 0 < a.n → 0 < b.n → Is m (record { c = l; n = a.n + b.n - 1 }) (pol m a *P pol m b) (a.n + b.n - 1)
    mul_end prime {l} {i} v over la lb = record {
      ok = record {
        len = omega (arith, h.fits);
        fill = v.fill;
        size = record {
          end = λ k g. ap (λ t. coef (K m) t k) whole ∙ degree.below k (omega arith);
          top = λ g e. degree.top (sym (ap₂ (coef (K m)) whole (omega arith)) ∙ e);
        };
      };
      is = whole;
      short = omega arith;
    }
      where
        whole : pol_l m l ≡ pol m a *P pol m b
        whole = v.is ∙ ap (λ n. first n *P pol m b) {x = i} {y = a.n} (omega (arith, v.within)) ∙ ap (λ t. t *P pol m b) (part_all (K m) a.n (pol m a) h.left.size.end)

        degree : Degree (residue_field m prime) (a.n - 1 + (b.n - 1)) (pol m a *P pol m b)
        degree = degree_mul (residue_field m prime) (pol m a) (pol m b) (degree_of m prime a h.left la) (degree_of m prime b h.right lb)

    pub mul_none : {z : Poly} → Is m z 0P 0 → a.n ≡ 0 → Is m z (pol m a *P pol m b) (a.n + b.n - 1)
    mul_none hz e = recast m hz (sym (ap (λ t. t *P pol m b) (none_is m h.left e) ∙ zer_mul (P m) (pol m b))) (omega arith)

    pub mul_by_none : {z : Poly} → Is m z 0P 0 → b.n ≡ 0 → Is m z (pol m a *P pol m b) (a.n + b.n - 1)
    mul_by_none hz e = recast m hz (sym (ap (λ t. pol m a *P t) (none_is m h.right e) ∙ mul_zer (P m) (pol m a))) (omega arith)
