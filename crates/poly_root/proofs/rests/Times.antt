-- The product of two rests modulo a cubic, a coefficient at a time: the residues of the code stand for the constants that an identity of K[x] wants (`times_is`).
use mathlib.Core.Path.{◌≡◌, refl, sym, ap, ap₂, ◌∙◌}
use mathlib.Core.List.{[], ◌∷◌}
use Rattle.algebra.proofs.Ring.CRing.{CRing}
use Rattle.algebra.proofs.Ring.Quote.{ring, quote, by}
use Rattle.algebra.proofs.Poly.Term.{C, X, constants}
use Rattle.algebra.proofs.List.Short.{pol3, mon3}
use Rattle.field.specs.declared.Modulus.{Modulus}
use Rattle.field.specs.declared.Residue.{Residue}
use Rattle.field.specs.Residues.{el, Stands}
use Rattle.poly_root.specs.declared.rests.MonicCubic.{MonicCubic}
use Rattle.poly_root.specs.declared.rests.Rest.{Rest}
use Rattle.poly_root.specs.rests.Rests.{K, P, cubic, rest, Leaves}

-- ---- in any ring
module _ (R : CRing) where
  open R use {El as A, add as ◌+◌, mul as ◌*◌, neg, one as 𝟙}

  infixl 65 ◌+◌
  infixl 70 ◌*◌
  product : (x a0 a1 a2 b0 b1 b2 u0 u1 u2 x4 x3 r2 r1 r0 : A) → x4 ≡ a2 * b2 → x3 ≡ a1 * b2 + a2 * b1 + neg (x4 * u2) → r2 ≡ a0 * b2 + a2 * b0 + a1 * b1 + neg (x4 * u1 + x3 * u2)
      → r1 ≡ a0 * b1 + a1 * b0 + neg (x4 * u0 + x3 * u1) → r0 ≡ a0 * b0 + neg (x3 * u0)
      → (a0 + x * (a1 + x * a2)) * (b0 + x * (b1 + x * b2)) ≡ (x3 + x * x4) * (u0 + x * (u1 + x * (u2 + x))) + (r0 + x * (r1 + x * r2))
  product x a0 a1 a2 b0 b1 b2 u0 u1 u2 x4 x3 r2 r1 r0 h4 h3 h2 h1 h0 =
      by R (neg (x * x * x * x)) h4 (by R (neg (x * x * x)) h3 (by R (neg (x * x)) h2 (by R (neg x) h1 (by R (neg 𝟙) h0
      (ring R (x ∷ a0 ∷ a1 ∷ a2 ∷ b0 ∷ b1 ∷ b2 ∷ u0 ∷ u1 ∷ u2 ∷ x4 ∷ x3 ∷ r2 ∷ r1 ∷ r0 ∷ []) (search quote depth 40) refl)))))

module _ (m : Modulus) where
  open K m use {El as A, add as ◌⊕◌, mul as ◌⊗◌, neg as ng, zer as 𝟘}
  open P m use {El as Po, add as ◌+P◌, mul as ◌*P◌, neg, zer as 0P, one as 1P}

  infixl 65 ◌⊕◌
  infixl 70 ◌⊗◌
  infixl 65 ◌+P◌
  infixl 70 ◌*P◌
  -- a residue as a constant of K[x]
  abbrev pub co : Residue → Po
  co x = C (K m) (el m x)

  pub rest_is : (r : Rest) → rest m r ≡ co r.c0 +P X (K m) *P (co r.c1 +P X (K m) *P co r.c2)
  rest_is r = pol3 (K m) (el m r.c0) (el m r.c1) (el m r.c2)

  pub cubic_is : (u : MonicCubic) → cubic m u ≡ co u.u0 +P X (K m) *P (co u.u1 +P X (K m) *P (co u.u2 +P X (K m)))
  cubic_is u = mon3 (K m) (el m u.u0) (el m u.u1) (el m u.u2)

  -- ---- what stands for a sum or a product is that of constants
  up_add : {r : Residue} (a b : Residue) → Stands m r (el m a ⊕ el m b) → co r ≡ co a +P co b
  up_add a b h = ap (C (K m)) h.is ∙ (constants (K m)).h_add (el m a) (el m b)

  up_mul : {r : Residue} (a b : Residue) → Stands m r (el m a ⊗ el m b) → co r ≡ co a *P co b
  up_mul a b h = ap (C (K m)) h.is ∙ (constants (K m)).h_mul (el m a) (el m b)

  up_sub : {r : Residue} (a b : Residue) → Stands m r (el m a ⊕ ng (el m b)) → co r ≡ co a +P neg (co b)
  up_sub a b h = ap (C (K m)) h.is ∙ (constants (K m)).h_add (el m a) (ng (el m b)) ∙ ap (λ t. co a +P t) ((constants (K m)).h_neg (el m b))

  two : (a b c d : Residue) → C (K m) (el m a ⊗ el m b ⊕ el m c ⊗ el m d) ≡ co a *P co b +P co c *P co d
  two a b c d = (constants (K m)).h_add (el m a ⊗ el m b) (el m c ⊗ el m d) ∙ ap₂ ◌+P◌ ((constants (K m)).h_mul (el m a) (el m b)) ((constants (K m)).h_mul (el m c) (el m d))

  up_dot : {r : Residue} (a b c d : Residue) → Stands m r (el m a ⊗ el m b ⊕ el m c ⊗ el m d) → co r ≡ co a *P co b +P co c *P co d
  up_dot a b c d h = ap (C (K m)) h.is ∙ two a b c d

  up_cross : {r : Residue} (a b c d : Residue) → Stands m r (el m a ⊗ el m b ⊕ ng (el m c ⊗ el m d)) → co r ≡ co a *P co b +P neg (co c *P co d)
  up_cross a b c d h = ap (C (K m)) h.is ∙ (constants (K m)).h_add (el m a ⊗ el m b) (ng (el m c ⊗ el m d))
      ∙ ap₂ ◌+P◌ ((constants (K m)).h_mul (el m a) (el m b)) ((constants (K m)).h_neg (el m c ⊗ el m d) ∙ ap neg ((constants (K m)).h_mul (el m c) (el m d)))

  -- ---- the product, in the order of the calls
  module _ (u : MonicCubic) (a b : Rest) {x4 d t x3 e f s2 g c2 s1 h c1 c0 : Residue}
      (k4 : Stands m x4 (el m a.c2 ⊗ el m b.c2)) (kd : Stands m d (el m a.c1 ⊗ el m b.c2 ⊕ el m a.c2 ⊗ el m b.c1)) (kt : Stands m t (el m x4 ⊗ el m u.u2)) (k3 : Stands m x3 (el m d ⊕ ng (el m t)))
      (ke : Stands m e (el m a.c0 ⊗ el m b.c2 ⊕ el m a.c2 ⊗ el m b.c0)) (kf : Stands m f (el m a.c1 ⊗ el m b.c1)) (ks2 : Stands m s2 (el m e ⊕ el m f))
      (kg : Stands m g (el m x4 ⊗ el m u.u1 ⊕ el m x3 ⊗ el m u.u2)) (kc2 : Stands m c2 (el m s2 ⊕ ng (el m g)))
      (ks1 : Stands m s1 (el m a.c0 ⊗ el m b.c1 ⊕ el m a.c1 ⊗ el m b.c0)) (kh : Stands m h (el m x4 ⊗ el m u.u0 ⊕ el m x3 ⊗ el m u.u1)) (kc1 : Stands m c1 (el m s1 ⊕ ng (el m h)))
      (kc0 : Stands m c0 (el m a.c0 ⊗ el m b.c0 ⊕ ng (el m x3 ⊗ el m u.u0))) where
    pub times_is : Leaves m u (rest m a *P rest m b) (record { c0 = c0; c1 = c1; c2 = c2 })
    times_is = record {
      kept = record { k0 = kc0.kept; k1 = kc1.kept; k2 = kc2.kept };
      q = co x3 +P X (K m) *P co x4;
      is = ap₂ ◌*P◌ (rest_is a) (rest_is b)
          ∙ product (P m) (X (K m)) (co a.c0) (co a.c1) (co a.c2) (co b.c0) (co b.c1) (co b.c2) (co u.u0) (co u.u1) (co u.u2) (co x4) (co x3) (co c2) (co c1) (co c0)
          (up_mul a.c2 b.c2 k4)
          (up_sub d t k3 ∙ ap₂ (λ x y. x +P neg y) (up_dot a.c1 b.c2 a.c2 b.c1 kd) (up_mul x4 u.u2 kt))
          (up_sub s2 g kc2 ∙ ap₂ (λ x y. x +P neg y) (up_add e f ks2 ∙ ap₂ ◌+P◌ (up_dot a.c0 b.c2 a.c2 b.c0 ke) (up_mul a.c1 b.c1 kf)) (up_dot x4 u.u1 x3 u.u2 kg))
          (up_sub s1 h kc1 ∙ ap₂ (λ x y. x +P neg y) (up_dot a.c0 b.c1 a.c1 b.c0 ks1) (up_dot x4 u.u0 x3 u.u1 kh))
          (up_cross a.c0 b.c0 x3 u.u0 kc0)
          ∙ ap₂ (λ s t. (co x3 +P X (K m) *P co x4) *P s +P t) (sym (cubic_is u)) (sym (rest_is (record { c0 = c0; c1 = c1; c2 = c2 })));
    }
