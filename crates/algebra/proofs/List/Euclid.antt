-- Leading coefficients and Euclid's algorithm on lists, over a field. Gives: `top_is`, what `top` finds; `Gcd`, that d is a combination of
-- a and b and divides both, and `gcd_is`, that `gcd` finds such a d; monic polynomials that divide one another are one.
use Prim.Native.Nat.{ℕ, zero, suc, ◌≤◌, ◌<◌}
use mathlib.Core.Path.{◌≡◌, refl, sym, ap, ap₂, ◌∙◌}
use mathlib.Core.List.{List, [], ◌∷◌}
use mathlib.Core.Logic.{◌≢◌}
use native.Mathlib.Omega.{arith}
use native.Mathlib.Decide.{ℕ_discrete}
use lib.ListN.{length}
use Rattle.algebra.proofs.Ring.CRing.{CRing, eq_of_sub}
use Rattle.algebra.proofs.Ring.Quote.{ring, quote, by}
use Rattle.algebra.proofs.Ring.Divides.{Divides}
use Rattle.algebra.proofs.Ring.Field.{Field}
use Rattle.algebra.proofs.Poly.Bound.{Below}
use Rattle.algebra.proofs.Poly.Poly.{poly, coef}
use Rattle.algebra.proofs.Poly.Term.{C, X, constants}
use Rattle.algebra.proofs.Poly.Degree.{Degree, deg_monic, deg_ne, small, coef_sub, deg_bound, factor_below}
use Rattle.algebra.proofs.List.Ops.{add_l, mul_l, neg_l, whole, quotient, remainder, Top, null, lead, top_step, top, Bezout, last, turn, euclid, gcd}
use Rattle.algebra.proofs.List.Value.{pol, mon, pol_nil, pol_cons, pol_whole, mon_nil, mon_cons, pol_add, pol_scale, pol_neg, pol_mul, mon_monic, mon_inj}
use Rattle.algebra.proofs.List.Division.{length_remainder, divided}

-- the identities, in any ring
module _ (R : CRing) where
  open R use {El as A, add as ◌+◌, mul as ◌*◌, neg, one as 𝟙}

  infixl 65 ◌+◌
  infixl 70 ◌*◌
  turned : (a b m q r g s t c i : A) → g ≡ s * m + t * r → a ≡ q * m + r → b ≡ c * m → c * i ≡ 𝟙 → g ≡ t * a + i * (s + neg (t * q)) * b
  turned a b m q r g s t c i h1 h2 h3 h4 = by R 𝟙 h1 (by R (neg t) h2 (by R (neg (i * (s + neg (t * q)))) h3 (by R (neg ((s + neg (t * q)) * m)) h4
      (ring R (a ∷ b ∷ m ∷ q ∷ r ∷ g ∷ s ∷ t ∷ c ∷ i ∷ []) (search quote depth 40) refl))))

  divides_on : (a m q r g e e' : A) → a ≡ q * m + r → m ≡ e * g → r ≡ e' * g → a ≡ (q * e + e') * g
  divides_on a m q r g e e' h1 h2 h3 = by R 𝟙 h1 (by R q h2 (by R 𝟙 h3 (ring R (a ∷ m ∷ q ∷ r ∷ g ∷ e ∷ e' ∷ []) (search quote depth 40) refl)))

  led : (a x c i l m : A) → c * i ≡ 𝟙 → l ≡ c * m → a + x * l ≡ c * (i * a + x * m)
  led a x c i l m h1 h2 = by R (neg a) h1 (by R x h2 (ring R (a ∷ x ∷ c ∷ i ∷ l ∷ m ∷ []) (search quote depth 40) refl))

module _ (K : Field) where
  open K use {arith as Q}
  open Q use {base as F}
  open F use {El as A, zer as 𝟘}
  open poly F use {El as P, add as ◌+◌, mul as ◌*◌, neg, zer as 0P, one as 1P}

  infixl 65 ◌+◌
  infixl 70 ◌*◌
  pub C_inv : (c : A) → c ≢ 𝟘 → C F c * C F (Q.inv c) ≡ 1P
  C_inv c n = sym ((constants F).h_mul c (Q.inv c)) ∙ ap (C F) (K.mul_inv c n) ∙ (constants F).h_one

  pub mon_degree : (m : List A) → Degree K (length m) (mon F m)
  mon_degree m = deg_monic K (mon_monic F m)

  pub mon_ne : (m : List A) → mon F m ≢ 0P
  mon_ne m = deg_ne K (mon_degree m)

  -- ---- the leading coefficient
  abbrev pub IsTop : List A → Top Q → Type 0
  IsTop l null = pol F l ≡ 0P
  IsTop l (lead c m) = (pol F l ≡ C F c * mon F m) × (c ≢ 𝟘) × (length m < length l)

  pub top_is : (l : List A) → IsTop l (top Q l)
  unfolding top top_step
  top_is [] = pol_nil F
  top_is (a ∷ l) = go (top Q l) (top_is l)
    where
      alone : pol F l ≡ 0P → (d : Dec (a ≡ 𝟘)) → IsTop (a ∷ l) (elim d [ yes e ↦ null | no n ↦ lead a [] ])
      alone h (yes e) = pol_cons F a l ∙ ap₂ (λ s t. C F s + X F * t) e h ∙ ap (λ s. s + X F * 0P) (constants F).h_zer ∙ ring (poly F) (X F ∷ []) (search quote depth 40) refl
      alone h (no n) = (
        pol_cons F a l ∙ ap (λ t. C F a + X F * t) h ∙ ring (poly F) (C F a ∷ X F ∷ []) (search quote depth 40) refl
            ∙ ap (λ t. C F a * t) (sym (mon_nil F)),
        n,
        omega arith,
      )

      go : (t : Top Q) → IsTop l t → IsTop (a ∷ l) (top_step Q a t)
      go null h = alone h (Q.dec a 𝟘)
      go (lead c m) h = (
        pol_cons F a l ∙ led (poly F) (C F a) (X F) (C F c) (C F (Q.inv c)) (pol F l) (mon F m) (C_inv c h.1) h.0
            ∙ ap (λ t. C F c * t) (sym (mon_cons F (F.mul (Q.inv c) a) m ∙ ap (λ t. t + X F * mon F m) ((constants F).h_mul (Q.inv c) a))),
        h.1,
        omega (arith, h.2),
      )

  -- ---- Euclid
  pub record Gcd (a b d s t : P) : Type 0 where
    pub bezout : d ≡ s * a + t * b
    pub left : Divides (poly F) d a
    pub right : Divides (poly F) d b

  abbrev IsGcd : List A → List A → Bezout Q → Type 0
  IsGcd m b x = Gcd (mon F m) (pol F b) (mon F x.d) (pol F x.s) (pol F x.t)

  last_is : (m b : List A) → pol F b ≡ 0P → IsGcd m b (last Q m)
  unfolding last whole
  last_is m b h = record {
    bezout = ring (poly F) (mon F m ∷ pol F b ∷ []) (search quote depth 40) refl ∙ sym (ap₂ (λ s t. s * mon F m + t * pol F b) (pol_whole F [] ∙ mon_nil F) (pol_nil F));
    left = record { factor = 1P; is = sym ((poly F).one-mul (mon F m)) };
    right = record { factor = 0P; is = h ∙ ring (poly F) (mon F m ∷ []) (search quote depth 40) refl };
  }

  turn_is : (m b r : List A) (c : A) (x : Bezout Q) → pol F b ≡ C F c * mon F r → c ≢ 𝟘
      → IsGcd r (remainder F r (whole F m)) x → IsGcd m b (turn Q c (quotient F r (whole F m)) x)
  unfolding turn
  turn_is m b r c x hb nz h = record {
    bezout = turned (poly F) (mon F m) (pol F b) (mon F r) (pol F q) (pol F (remainder F r (whole F m))) (mon F x.d) (pol F x.s) (pol F x.t) (C F c)
        (C F (Q.inv c)) h.bezout ha hb (C_inv c nz)
        ∙ ap (λ t. pol F x.t * mon F m + t * pol F b) (sym (pol_scale F (Q.inv c) (add_l F x.s (neg_l F (mul_l F x.t q)))
        ∙ ap (λ t. C F (Q.inv c) * t) (pol_add F x.s (neg_l F (mul_l F x.t q)) ∙ ap (λ t. pol F x.s + t) (pol_neg F (mul_l F x.t q) ∙ ap neg (pol_mul F x.t q)))));
    left = record {
      factor = pol F q * h.left.factor + h.right.factor;
      is = divides_on (poly F) (mon F m) (mon F r) (pol F q) (pol F (remainder F r (whole F m))) (mon F x.d)
          h.left.factor h.right.factor ha h.left.is h.right.is;
    };
    right = record { factor = C F c * h.left.factor; is = hb ∙ ap (λ t. C F c * t) h.left.is ∙ sym ((poly F).mul_assoc (C F c) h.left.factor (mon F x.d)) };
  }
    where
      q : List A
      q = quotient F r (whole F m)

      ha : mon F m ≡ pol F q * mon F r + pol F (remainder F r (whole F m))
      ha = sym (pol_whole F m) ∙ divided F r (whole F m)

  euclid_is : (n : ℕ) (m b : List A) → length b ≤ n → IsGcd m b (euclid Q n m b)
  unfolding euclid
  euclid_is zero m [] l = last_is m [] (pol_nil F)
  euclid_is zero m (x ∷ b) l = absurd (omega arith)
  euclid_is (suc n) m b l = go (top Q b) (top_is b) (λ r k. euclid_is n r (remainder F r (whole F m)) (omega (arith, length_remainder F r (whole F m))))
    where
      go : (t : Top Q) → IsTop b t → ((r : List A) → length r < length b → IsGcd r (remainder F r (whole F m)) (euclid Q n r (remainder F r (whole F m))))
          → IsGcd m b (elim t [ null ↦ last Q m | lead c r ↦ turn Q c (quotient F r (whole F m)) (euclid Q n r (remainder F r (whole F m))) ])
      go null h rec = last_is m b h
      go (lead c r) h rec = turn_is m b r c (euclid Q n r (remainder F r (whole F m))) h.0 h.1 (rec r h.2)

  pub gcd_is : (m b : List A) → Gcd (mon F m) (pol F b) (mon F (gcd Q m b).d) (pol F (gcd Q m b).s) (pol F (gcd Q m b).t)
  unfolding gcd
  gcd_is m b = euclid_is (length b) m b (omega arith)

  -- ---- monic polynomials that divide one another are one
  pub monic_same : (l m : List A) → Divides (poly F) (mon F m) (mon F l) → Divides (poly F) (mon F l) (mon F m) → l ≡ m
  monic_same l m h k = mon_inj F l m len (eq_of_sub (poly F) (mon F l) (mon F m) (small K (length m) (mon F m) (mon F l + neg (mon F m)) (h.factor + neg 1P) (mon_degree m) below
      (by (poly F) 1P h.is (ring (poly F) (mon F l ∷ mon F m ∷ h.factor ∷ []) (search quote depth 40) refl))))
    where
      le : (x z : List A) → Divides (poly F) (mon F z) (mon F x) → length z ≤ length x
      le x z d = omega (
        arith,
        deg_bound K (suc (length x)) (length z) (coef F (mon F z)) (mon_degree z)
            (factor_below K (length x) (mon F x) (mon F z) d.factor (mon_degree x) d.is),
      )

      len : length l ≡ length m
      len = omega (arith, le l m h, le m l k)

      below : Below F (length m) (coef F (mon F l + neg (mon F m)))
      below i j = coef_sub K (mon F l) (mon F m) i ∙ at (ℕ_discrete i (length m))
        where
          at : Dec (i ≡ length m) → F.add (coef F (mon F l) i) (F.neg (coef F (mon F m) i)) ≡ 𝟘
          at (yes e) = ap₂ (λ x z. F.add x (F.neg z)) (ap (coef F (mon F l)) (e ∙ sym len) ∙ (mon_monic F l).top) (ap (coef F (mon F m)) e ∙ (mon_monic F m).top)
              ∙ ring F [] (search quote depth 40) refl
          at (no e) = ap₂ (λ x z. F.add x (F.neg z)) ((mon_degree l).below i (omega (arith, len))) ((mon_degree m).below i (omega arith))
              ∙ ring F [] (search quote depth 40) refl
