-- The quadratic formula on residues: with the discriminant d as it is calculated, the halves of -b + s and -b - s are the roots (`both`), and where d is no square there are none (`neither`).
use mathlib.Core.Path.{◌≡◌, refl, sym, ap, ap₂, ◌∙◌}
use mathlib.Core.Logic.{◌≢◌}
use mathlib.Core.List.{[], ◌∷◌}
use Rattle.algebra.proofs.Ring.Quote.{ring, quote}
use Rattle.algebra.proofs.Zmod.Prime.{Prime}
use Rattle.algebra.proofs.Zmod.Zmod.{zmod}
use Rattle.field.specs.declared.Modulus.{Modulus}
use Rattle.field.specs.declared.Residue.{Residue}
use Rattle.field.specs.Residues.{el, Stands, Halves}
use Rattle.field.proofs.Laws.{residue_field, two_ne}
use Rattle.rules.specs.Roots.Roots.{value}
use Rattle.rules.proofs.Roots.Quadratic.{discriminant, quadratic_iff, halves_sum, halves_product}
use Rattle.field_root.specs.Squares.{Square, RootOf, Splits}

module _ (m : Modulus) (prime : Prime m.p) (b c : Residue) where
  open zmod m.p use {El as A, add as ◌⊕◌, mul as ◌⊗◌, neg, zer as 𝟘, one as 𝟙}

  infixl 65 ◌⊕◌
  infixl 70 ◌⊗◌
  -- the discriminant as it is calculated
  module _ {q e f d : Residue} (hq : Stands m q (el m b ⊗ el m b)) (he : Stands m e (el m c ⊕ el m c)) (hf : Stands m f (el m e ⊕ el m e)) (hd : Stands m d (el m q ⊕ neg (el m f))) where
    same : el m d ≡ discriminant (residue_field m prime) (two_ne m prime) (el m b) (el m c)
    same = hd.is ∙ ap₂ (λ x y. x ⊕ neg y) hq.is (hf.is ∙ ap₂ ◌⊕◌ he.is he.is) ∙ sort (el m b) (el m c)
      where
        sort : (x y : A) → x ⊗ x ⊕ neg (y ⊕ y ⊕ (y ⊕ y)) ≡ x ⊗ x ⊕ neg ((𝟙 ⊕ 𝟙) ⊗ (𝟙 ⊕ 𝟙) ⊗ y)
        sort x y = ring (zmod m.p) (x ∷ y ∷ []) (search quote depth 40) refl

    pub both : {s n x r y t : Residue} → RootOf m d s → Stands m n (neg (el m b)) → Stands m x (el m n ⊕ el m s) → Halves m x r → Stands m y (el m n ⊕ neg (el m s)) → Halves m y t → Splits m b c r t
    both {s} {n} {x} {r} {y} {t} hs hn hx hr hy ht = record {
      kept_r = hr.kept;
      kept_t = ht.kept;
      sum = halves_sum (residue_field m prime) (two_ne m prime) (el m b) (el m c) (el m s) (el m r) (el m t) (hs.is ∙ same) first second;
      product = halves_product (residue_field m prime) (two_ne m prime) (el m b) (el m c) (el m s) (el m r) (el m t) (hs.is ∙ same) first second;
    }
      where
        first : el m r ⊕ el m r ≡ neg (el m b) ⊕ el m s
        first = hr.is ∙ hx.is ∙ ap (λ z. z ⊕ el m s) hn.is

        second : el m t ⊕ el m t ≡ neg (el m b) ⊕ neg (el m s)
        second = ht.is ∙ hy.is ∙ ap (λ z. z ⊕ neg (el m s)) hn.is

    pub neither : (Square m.p (el m d) → ⊥) → (y : A) → value (zmod m.p) (el m c ∷ el m b ∷ []) y ≢ 𝟘
    unfolding value
    neither no_root y z = let s = (quadratic_iff (residue_field m prime) (two_ne m prime) (el m b) (el m c)).0 (y, sort y (el m b) (el m c) ∙ z) in no_root (s.0, s.1 ∙ sym same)
      where
        sort : (y b c : A) → y ⊗ y ⊕ b ⊗ y ⊕ c ≡ c ⊕ y ⊗ (b ⊕ y ⊗ 𝟙)
        sort y b c = ring (zmod m.p) (y ∷ b ∷ c ∷ []) (search quote depth 40) refl
