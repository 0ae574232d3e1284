-- Values and roots of polynomials, over any commutative ring. Gives: `ev y p`, the value of p at y, what is left when p is divided by `linear y`, x - y;
-- that ev keeps the operations (`ev_hom`), with ev y x = y and constants kept; the values of lists (`ev_pol`, `ev_mon`, `value_is`), of q^m - 1 (`ev_less_one`), of x + a (`ev_shift`);
-- that x - y divides p exactly when p is 0 at y (`root_iff`); that p and what p leaves when divided by g have the same value at a root of g
-- (`root_rest`); that the roots of a common divisor of a and b that is a combination of them are their common roots (`root_common`), so that the
-- gcd of g and (x + a)^m - 1 keeps exactly the roots y of g with (y + a)^m = 1 (`shift_root`).
-- Shut: `ev`.
use Prim.Native.Nat.{ℕ, zero, suc}
use mathlib.Core.Path.{◌≡◌, refl, sym, ap, ap₂, ◌∙◌}
use mathlib.Core.List.{List, [], ◌∷◌}
use mathlib.Core.Logic.{◌↔◌, ∥∥₁_elim}
use mathlib.Core.HLevel.{Σ_prop_path}
use native.Mathlib.Omega.{arith}
use Rattle.algebra.proofs.Ring.CRing.{CRing, IsHom, mul_zer, add_zer, add_neg, eq_of_sub}
use Rattle.algebra.proofs.Ring.Quote.{ring, quote, by}
use Rattle.algebra.proofs.Ring.Divides.{Divides}
use Rattle.algebra.proofs.Ring.Power.{power}
use Rattle.algebra.proofs.Poly.Series.{con}
use Rattle.algebra.proofs.Poly.Bound.{Below, below_con}
use Rattle.algebra.proofs.Poly.Poly.{poly, coef, coef_bounded, poly_ext}
use Rattle.algebra.proofs.Poly.Term.{at, C, X, constants, coef_C}
use Rattle.algebra.proofs.Poly.Divide.{Division, divide, quotient_unique, remainder_unique}
use Rattle.algebra.proofs.List.Value.{pol, pol_cons, mon, mon_nil, mon_cons, mon_monic}
use Rattle.rules.specs.Roots.Roots.{value}

module _ (F : CRing) where
  open F use {El as A, add as ◌⊞◌, mul as ◌⊠◌, neg as ng, zer as 𝟘, one as 𝟙}

  infixl 65 ◌⊞◌
  infixl 70 ◌⊠◌
  open poly F use {El as P, add as ◌+◌, mul as ◌*◌, neg, zer as 0P, one as 1P, is_set}

  infixl 65 ◌+◌
  infixl 70 ◌*◌
  abbrev pub linear : A → P
  linear y = mon F (ng y ∷ [])

  pub linear_is : (y : A) → linear y ≡ X F + neg (C F y)
  linear_is y = mon_cons F (ng y) [] ∙ ap₂ (λ s t. s + X F * t) ((constants F).h_neg y) (mon_nil F) ∙ sort (X F) (C F y)
    where
      sort : (x c : P) → neg c + x * 1P ≡ x + neg c
      sort x c = ring (poly F) (x ∷ c ∷ []) (search quote depth 40) refl

  pub constant : (r : P) → Below F 1 (coef F r) → r ≡ C F (coef F r 0)
  unfolding con
  constant r h = poly_ext F (λ n. go n ∙ sym (at F (coef_C F (coef F r 0)) n))
    where
      go : (n : ℕ) → coef F r n ≡ con F (coef F r 0) n
      go zero = refl
      go (suc n) = h (suc n) (omega arith)

  module _ (y : A) where
    -- a value and a quotient: there is one such pair
    abbrev Valued : P → Type 0
    Valued p = (w : A × P) × (p ≡ w.1 * linear y + C F w.0)

    division : (p : P) → Valued p → Division F 1 (linear y) p
    division p v = record { quotient = v.0.1; remainder = C F v.0.0; is = v.1; short = λ k l. at F (coef_C F v.0.0) k ∙ below_con F v.0.0 k l }

    C_inj : (a b : A) → C F a ≡ C F b → a ≡ b
    unfolding con
    C_inj a b e = sym (at F (coef_C F a) 0) ∙ ap (λ t. coef F t 0) e ∙ at F (coef_C F b) 0

    same : (p : P) (v w : Valued p) → v.0 ≡ w.0
    unfolding division
    same p v w = ap₂ (λ (a : A) (q : P). (a, q)) (C_inj v.0.0 w.0.0 (remainder_unique F 1 (linear y) p (mon_monic F (ng y ∷ [])) (division p v) (division p w)))
        (quotient_unique F 1 (linear y) p (mon_monic F (ng y ∷ [])) (division p v) (division p w))

    valued : (p : P) → Valued p
    valued p = ∥∥₁_elim (coef_bounded F p) (λ v w. Σ_prop_path (λ (x : A × P). is_set p (x.1 * linear y + C F x.0)) {u = v} {v = w} (same p v w))
        (λ b. from (divide F 1 b.0 (linear y) p (mon_monic F (ng y ∷ [])) b.1))
      where
        from : Division F 1 (linear y) p → Valued p
        from d = ((coef F d.remainder 0, d.quotient), d.is ∙ ap (λ t. d.quotient * linear y + t) (constant d.remainder d.short))

    pub ev : P → A
    ev p = (valued p).0.0

    quotient : P → P
    quotient p = (valued p).0.1

    ev_is : (p : P) → p ≡ quotient p * linear y + C F (ev p)
    unfolding ev quotient
    ev_is p = (valued p).1

    ev_unique : (p q : P) (c : A) → p ≡ q * linear y + C F c → ev p ≡ c
    unfolding ev
    ev_unique p q c e = ap (λ (w : A × P). w.0) (same p (valued p) ((c, q), e))

    pub ev_C : (c : A) → ev (C F c) ≡ c
    ev_C c = ev_unique (C F c) 0P c (ring (poly F) (linear y ∷ C F c ∷ []) (search quote depth 40) refl)

    pub ev_X : ev (X F) ≡ y
    ev_X = ev_unique (X F) 1P y (by (poly F) (neg 1P) (linear_is y) (ring (poly F) (linear y ∷ X F ∷ C F y ∷ []) (search quote depth 40) refl))

    pub ev_hom : IsHom (poly F) F ev
    ev_hom = record {
      h_add = λ a b. ev_unique (a + b) (quotient a + quotient b) (ev a ⊞ ev b)
          (by (poly F) 1P (ev_is a) (by (poly F) 1P (ev_is b) (by (poly F) (neg 1P) ((constants F).h_add (ev a) (ev b))
          (ring (poly F) (a ∷ b ∷ quotient a ∷ quotient b ∷ linear y ∷ C F (ev a) ∷ C F (ev b) ∷ C F (ev a ⊞ ev b) ∷ []) (search quote depth 40) refl))));
      h_mul = λ a b. ev_unique (a * b) (quotient a * b + C F (ev a) * quotient b) (ev a ⊠ ev b)
          (by (poly F) b (ev_is a) (by (poly F) (C F (ev a)) (ev_is b) (by (poly F) (neg 1P) ((constants F).h_mul (ev a) (ev b))
          (ring (poly F) (a ∷ b ∷ quotient a ∷ quotient b ∷ linear y ∷ C F (ev a) ∷ C F (ev b) ∷ C F (ev a ⊠ ev b) ∷ []) (search quote depth 40) refl))));
      h_neg = λ a. ev_unique (neg a) (neg (quotient a)) (ng (ev a))
          (by (poly F) (neg 1P) (ev_is a) (by (poly F) (neg 1P) ((constants F).h_neg (ev a))
          (ring (poly F) (a ∷ quotient a ∷ linear y ∷ C F (ev a) ∷ C F (ng (ev a)) ∷ []) (search quote depth 40) refl)));
      h_zer = ap ev (sym (constants F).h_zer) ∙ ev_C 𝟘;
      h_one = ap ev (sym (constants F).h_one) ∙ ev_C 𝟙;
    }

    pub ev_pow : (a : P) (n : ℕ) → ev (power (poly F) a n) ≡ power F (ev a) n
    unfolding power
    ev_pow a zero = ev_hom.h_one
    ev_pow a (suc n) = ev_hom.h_mul a (power (poly F) a n) ∙ ap (λ t. ev a ⊠ t) (ev_pow a n)

    -- ---- of lists, by Horner
    horner : (a : A) (p : P) → ev (C F a + X F * p) ≡ a ⊞ y ⊠ ev p
    horner a p = ev_hom.h_add (C F a) (X F * p) ∙ ap₂ ◌⊞◌ (ev_C a) (ev_hom.h_mul (X F) p ∙ ap (λ t. t ⊠ ev p) ev_X)

    pub ev_pol : (a : A) (l : List A) → ev (pol F (a ∷ l)) ≡ a ⊞ y ⊠ ev (pol F l)
    ev_pol a l = ap ev (pol_cons F a l) ∙ horner a (pol F l)

    pub ev_mon : (a : A) (l : List A) → ev (mon F (a ∷ l)) ≡ a ⊞ y ⊠ ev (mon F l)
    ev_mon a l = ap ev (mon_cons F a l) ∙ horner a (mon F l)

    -- the rules' value, by Horner, is the value in K[x]
    pub value_is : (l : List A) → value F l y ≡ ev (mon F l)
    unfolding value
    value_is [] = sym (ap ev (mon_nil F) ∙ ev_hom.h_one)
    value_is (a ∷ l) = ap (λ t. a ⊞ y ⊠ t) (value_is l) ∙ sym (ev_mon a l)

    -- ---- of q^m - 1
    pub ev_less_one : (q : P) (m : ℕ) → ev (power (poly F) q m + neg 1P) ≡ power F (ev q) m ⊞ ng 𝟙
    ev_less_one q m = ev_hom.h_add (power (poly F) q m) (neg 1P) ∙ ap₂ ◌⊞◌ (ev_pow q m) (ev_hom.h_neg 1P ∙ ap ng ev_hom.h_one)

    pub ev_shift : (a : A) → ev (X F + C F a) ≡ y ⊞ a
    ev_shift a = ev_hom.h_add (X F) (C F a) ∙ ap₂ ◌⊞◌ ev_X (ev_C a)

    -- ---- roots
    pub root_factor : (d p : P) → Divides (poly F) d p → ev d ≡ 𝟘 → ev p ≡ 𝟘
    root_factor d p h z = ap ev h.is ∙ ev_hom.h_mul h.factor d ∙ ap (λ t. ev h.factor ⊠ t) z ∙ mul_zer F (ev h.factor)

    -- C 0 is nothing
    no_rest : (q : P) → q * linear y + C F 𝟘 ≡ q * linear y
    no_rest q = ap (λ t. q * linear y + t) (constants F).h_zer ∙ add_zer (poly F) (q * linear y)

    pub root_iff : (p : P) → Divides (poly F) (linear y) p ↔ (ev p ≡ 𝟘)
    root_iff p = (
      λ h. ev_unique p h.factor 𝟘 (h.is ∙ sym (no_rest h.factor)),
      λ z. record { factor = quotient p; is = ev_is p ∙ ap (λ t. quotient p * linear y + C F t) z ∙ no_rest (quotient p) },
    )

    pub root_rest : (p q g r : P) → p ≡ q * g + r → ev g ≡ 𝟘 → ev p ≡ ev r
    root_rest p q g r e z = ap ev e ∙ ev_hom.h_add (q * g) r ∙ ap (λ t. t ⊞ ev r) (ev_hom.h_mul q g ∙ ap (λ t. ev q ⊠ t) z ∙ mul_zer F (ev q)) ∙ F.zer_add (ev r)

    pub root_common : (a b s t g : P) → g ≡ s * a + t * b → Divides (poly F) g a → Divides (poly F) g b → (ev g ≡ 𝟘) ↔ ((ev a ≡ 𝟘) × (ev b ≡ 𝟘))
    root_common a b s t g e ha hb = (
      λ z. (root_factor g a ha z, root_factor g b hb z),
      λ z. root_rest g s a (t * b) e z.0 ∙ root_factor b (t * b) (record { factor = t; is = refl }) z.1,
    )

    -- ---- the common divisor h of g and what (x + a)^m - 1 leaves modulo g: at a root of g
    pub shift_root : (g q r s t h : P) (a : A) (m : ℕ) → power (poly F) (X F + C F a) m + neg 1P ≡ q * g + r → h ≡ s * g + t * r → Divides (poly F) h g → Divides (poly F) h r → ev g ≡ 𝟘
        → (ev h ≡ 𝟘) ↔ (power F (y ⊞ a) m ≡ 𝟙)
    shift_root g q r s t h a m e eh dg dr z = (
      λ k. eq_of_sub F (power F (y ⊞ a) m) 𝟙 (sym value ∙ ((root_common g r s t h eh dg dr).0 k).1),
      λ k. (root_common g r s t h eh dg dr).1 (z, value ∙ ap (λ x. x ⊞ ng 𝟙) k ∙ add_neg F 𝟙),
    )
      where
        value : ev r ≡ power F (y ⊞ a) m ⊞ ng 𝟙
        value = sym (root_rest (power (poly F) (X F + C F a) m + neg 1P) q g r e z) ∙ ev_less_one (X F + C F a) m ∙ ap (λ x. power F x m ⊞ ng 𝟙) (ev_shift a)
