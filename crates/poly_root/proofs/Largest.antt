-- The largest root from any: u is (x - r) times a quadratic, whose roots are the others.
use Prim.Native.Nat.{◌≤◌}
use mathlib.Core.Path.{◌≡◌, sym, ap, ap₂, ◌∙◌, subst}
use mathlib.Core.List.{[], ◌∷◌}
use mathlib.Core.Logic.{◌≢◌, ◌⊎◌, inl, inr}
use native.Mathlib.Omega.{arith}
use Rattle.algebra.proofs.Ring.CRing.{add_zer, add_neg, zer_mul, mul_zer, eq_of_sub}
use Rattle.algebra.proofs.Ring.Field.{no_zero_divisors}
use Rattle.algebra.proofs.Zmod.Zmod.{zmod_dec, num}
use Rattle.algebra.proofs.Zmod.Prime.{Prime}
use Rattle.field.specs.declared.Modulus.{Modulus}
use Rattle.field.specs.declared.Residue.{Residue}
use Rattle.field.specs.Residues.{el, Settles, Stands}
use Rattle.field.proofs.Laws.{residue_field}
use Rattle.rules.specs.Roots.Roots.{value}
use Rattle.rules.proofs.Roots.Factor.{cubic_less, quadratic_less}
use Rattle.field_root.specs.Squares.{Splits}
use Rattle.poly_root.specs.declared.rests.MonicCubic.{MonicCubic}
use Rattle.poly_root.specs.rests.Rests.{K, lows}
use Rattle.poly_root.specs.Roots.{Root, IsRoot, Larger, LargestRoot}

module _ (m : Modulus) where
  open K m use {El as A, add as ◌⊕◌, mul as ◌⊗◌, neg as ng, zer as 𝟘}

  infixl 65 ◌⊕◌
  infixl 70 ◌⊗◌
  module _ (prime : Prime m.p) where
    either : (a b : A) → a ⊗ b ≡ 𝟘 → (a ≡ 𝟘) ⊎ (b ≡ 𝟘)
    either a b e = go (zmod_dec m.p a 𝟘) (zmod_dec m.p b 𝟘)
      where
        go : Dec (a ≡ 𝟘) → Dec (b ≡ 𝟘) → (a ≡ 𝟘) ⊎ (b ≡ 𝟘)
        go (yes x) y = inl x
        go (no x) (yes y) = inr y
        go (no x) (no y) = absurd (no_zero_divisors (residue_field m prime) a b x y e)

    module _ (u : MonicCubic) (r : Residue) (root : IsRoot m u r) {b e c : Residue} (hb : Stands m b (el m u.u2 ⊕ el m r)) (he : Stands m e (el m r ⊗ el m b)) (hc : Stands m c (el m e ⊕ el m u.u1)) where
      parts : (y : A) → value (K m) (lows m u) y ≡ (y ⊕ ng (el m r)) ⊗ value (K m) (el m c ∷ el m b ∷ []) y
      parts y = cubic_less (K m) (el m u.u0) (el m u.u1) (el m u.u2) (el m r) y
          ∙ ap₂ ◌⊕◌ (ap (λ t. (y ⊕ ng (el m r)) ⊗ t) (sym (ap₂ (λ s t. value (K m) (s ∷ t ∷ []) y) (hc.is ∙ ap (λ t. t ⊕ el m u.u1) (he.is ∙ ap (λ t. el m r ⊗ t) hb.is)) hb.is))) root.is
          ∙ add_zer (K m) ((y ⊕ ng (el m r)) ⊗ value (K m) (el m c ∷ el m b ∷ []) y)

      pub alone : ((y : A) → value (K m) (el m c ∷ el m b ∷ []) y ≢ 𝟘) → {z : Residue} → Settles m z (el m r) → LargestRoot m u z
      alone none {z} hz = record {
        settled = hz.settled;
        is = subst (Root m u) (sym hz.is) root.is;
        most = λ y h. at_most y (either (y ⊕ ng (el m r)) (value (K m) (el m c ∷ el m b ∷ []) y) (sym (parts y) ∙ h));
      }
        where
          at_most : (y : A) → (y ⊕ ng (el m r) ≡ 𝟘) ⊎ (value (K m) (el m c ∷ el m b ∷ []) y ≡ 𝟘) → num m.p y ≤ num m.p (el m z)
          at_most y (inl s) = omega (arith, ap (num m.p) (eq_of_sub (K m) y (el m r) s ∙ sym hz.is))
          at_most y (inr s) = absurd (none y s)

      module _ {s t w z : Residue} (split : Splits m b c s t) (hw : Larger m s t w) (hz : Larger m r w z) where
        quadratic_at : (y : A) → value (K m) (el m c ∷ el m b ∷ []) y ≡ (y ⊕ ng (el m s)) ⊗ (y ⊕ ng (el m t))
        quadratic_at y = quadratic_less (K m) (el m b) (el m c) (el m s) (el m t) y split.sum split.product

        others : (y : A) → value (K m) (el m c ∷ el m b ∷ []) y ≡ 𝟘 → Root m u y
        others y e = parts y ∙ ap (λ x. (y ⊕ ng (el m r)) ⊗ x) e ∙ mul_zer (K m) (y ⊕ ng (el m r))

        s_root : Root m u (el m s)
        s_root = others (el m s) (quadratic_at (el m s) ∙ ap (λ x. x ⊗ (el m s ⊕ ng (el m t))) (add_neg (K m) (el m s)) ∙ zer_mul (K m) (el m s ⊕ ng (el m t)))

        t_root : Root m u (el m t)
        t_root = others (el m t) (quadratic_at (el m t) ∙ ap (λ x. (el m t ⊕ ng (el m s)) ⊗ x) (add_neg (K m) (el m t)) ∙ mul_zer (K m) (el m t ⊕ ng (el m s)))

        w_root : (el m w ≡ el m s) ⊎ (el m w ≡ el m t) → Root m u (el m w)
        w_root (inl x) = subst (Root m u) (sym x) s_root
        w_root (inr x) = subst (Root m u) (sym x) t_root

        z_root : (el m z ≡ el m r) ⊎ (el m z ≡ el m w) → Root m u (el m z)
        z_root (inl x) = subst (Root m u) (sym x) root.is
        z_root (inr x) = subst (Root m u) (sym x) (w_root hw.one_of)

        pub largest : LargestRoot m u z
        largest = record {
          settled = hz.settled;
          is = z_root hz.one_of;
          most = λ y h. of_three y (either (y ⊕ ng (el m r)) (value (K m) (el m c ∷ el m b ∷ []) y) (sym (parts y) ∙ h));
        }
          where
            of_two : (y : A) → (y ⊕ ng (el m s) ≡ 𝟘) ⊎ (y ⊕ ng (el m t) ≡ 𝟘) → num m.p y ≤ num m.p (el m z)
            of_two y (inl x) = omega (arith, hz.above_b, hw.above_a, ap (num m.p) (eq_of_sub (K m) y (el m s) x))
            of_two y (inr x) = omega (arith, hz.above_b, hw.above_b, ap (num m.p) (eq_of_sub (K m) y (el m t) x))

            of_three : (y : A) → (y ⊕ ng (el m r) ≡ 𝟘) ⊎ (value (K m) (el m c ∷ el m b ∷ []) y ≡ 𝟘) → num m.p y ≤ num m.p (el m z)
            of_three y (inl x) = omega (arith, hz.above_a, ap (num m.p) (eq_of_sub (K m) y (el m r) x))
            of_three y (inr x) = of_two y (either (y ⊕ ng (el m s)) (y ⊕ ng (el m t)) (sym (quadratic_at y) ∙ x))
