-- L5, the degree argument: f having odd degree 2g + 1, a² - f b² with b ≠ 0 has degree 2g + 1 or more. Gives: an element of
-- K[x][y]/(y² - f) whose norm has a smaller degree (`small_norm`), or divides a polynomial of degree at most 2g (`no_y`), has no y in it.
use Prim.Native.Nat.{ℕ, suc, ◌+◌, ◌≤◌, ◌<◌, zero-le}
use mathlib.Core.Path.{◌≡◌, sym, ap, ap₂, ◌∙◌, fun_ext}
use mathlib.Core.Logic.{◌⊎◌, inl, inr, ∥∥₁_elim}
use native.Mathlib.Omega.{arith}
use native.Mathlib.Decide.{dec_lt}
use Rattle.algebra.proofs.Ring.Field.{Field}
use Rattle.algebra.proofs.Poly.Series.{Ser, add_s, neg_s, mul_s, zer_mulS}
use Rattle.algebra.proofs.Poly.Bound.{Below}
use Rattle.algebra.proofs.Poly.Poly.{poly, coef, coef_bounded, poly_ext, coef_add, coef_mul, coef_neg, coef_zer}
use Rattle.algebra.proofs.Poly.Degree.{Deg, deg_of, deg_mul, deg_neg, deg_add_left, deg_add_right, factor_below}
use Rattle.algebra.proofs.Ideal.Quad.{quad, rea, ima, norm}

module _ (K : Field) where
  open K.arith use {base as F}
  open poly F use {El as P, add as ◌+P◌, mul as ◌*◌, neg as negP, zer as 0P}

  infixl 65 ◌+P◌
  infixl 70 ◌*◌
  abbrev c : P → Ser F
  c p = coef F p

  -- the norm of a + b y: if its degree is below that of f, which is odd, then b is zero
  norm_small : (g i j : ℕ) (f a b : Ser F) → Deg K (suc (g + g)) f → Below F i a → Below F j b
      → Below F (suc (g + g)) (add_s F (mul_s F a a) (neg_s F (mul_s F f (mul_s F b b)))) → (k : ℕ) → b k ≡ F.zer
  norm_small g i j f a b hf ha hb small = go (deg_of K i a ha) (deg_of K j b hb)
    where
      N : Ser F
      N = add_s F (mul_s F a a) (neg_s F (mul_s F f (mul_s F b b)))

      big : (n : ℕ) → suc (g + g) ≤ n → Deg K n N → ⊥
      big n l h = h.top (small n l)

      go : ((k : ℕ) → a k ≡ F.zer) ⊎ ((m : ℕ) × Deg K m a) → ((k : ℕ) → b k ≡ F.zer) ⊎ ((m : ℕ) × Deg K m b) → (k : ℕ) → b k ≡ F.zer
      go u (inl z) = z
      go (inl z) (inr (n, dn)) = absurd (big (suc (g + g) + (n + n)) (omega arith) (deg_add_left K (λ k l. ap (λ (t : Ser F). mul_s F t a k) (fun_ext z)
          ∙ zer_mulS F a k) (deg_neg K (deg_mul K hf (deg_mul K dn dn))) zero-le))
      go (inr (m, dm)) (inr (n, dn)) = cmp (dec_lt (m + m) (suc (g + g) + (n + n)))
        where
          cmp : Dec (m + m < suc (g + g) + (n + n)) → (k : ℕ) → b k ≡ F.zer
          cmp (yes l) = absurd (big (suc (g + g) + (n + n)) (omega arith) (deg_add_left K (deg_mul K dm dm).below (deg_neg K (deg_mul K hf (deg_mul K dn dn))) l))
          cmp (no l) = absurd (big (m + m) (omega arith) (deg_add_right K (deg_mul K dm dm) (deg_neg K (deg_mul K hf (deg_mul K dn dn))).below (omega arith)))

  module _ (g : ℕ) (f : P) (hf : Deg K (suc (g + g)) (c f)) where
    -- an element whose norm has degree below 2g + 1 has no y in it
    pub small_norm : (x : (quad (poly F) f).El) → Below F (suc (g + g)) (c (norm (poly F) f x)) → ima (poly F) f x ≡ 0P
    unfolding norm
    small_norm x h = ∥∥₁_elim (coef_bounded F a) ((poly F).is_set b 0P) (λ ba. ∥∥₁_elim (coef_bounded F b) ((poly F).is_set b 0P) (λ bb.
        poly_ext F (λ k. norm_small g ba.0 bb.0 (c f) (c a) (c b) hf ba.1 bb.1 (λ k i. sym (ap (λ (t : Ser F). t k) coefs) ∙ h k i) k
        ∙ sym (ap (λ (t : Ser F). t k) (coef_zer F)))))
      where
        a : P
        a = rea (poly F) f x

        b : P
        b = ima (poly F) f x

        coefs : c (a * a +P negP (f * (b * b))) ≡ add_s F (mul_s F (c a) (c a)) (neg_s F (mul_s F (c f) (mul_s F (c b) (c b))))
        coefs = coef_add F (a * a) (negP (f * (b * b))) ∙ ap₂ (add_s F) (coef_mul F a a) (coef_neg F (f * (b * b)) ∙ ap (neg_s F) (coef_mul F f (b * b)
            ∙ ap (mul_s F (c f)) (coef_mul F b b)))

    pub no_y : (e : ℕ) (u s : P) (x : (quad (poly F) f).El) → Deg K e (c u) → e ≤ g + g → u ≡ s * norm (poly F) f x → ima (poly F) f x ≡ 0P
    no_y e u s x hu l eq = small_norm x (λ k i. factor_below K e u (norm (poly F) f x) s hu eq k (omega arith))
