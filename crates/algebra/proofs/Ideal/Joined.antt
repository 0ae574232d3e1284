-- L3, composition as equations, in any commutative ring. Gives: `OnCurve f u v`, that f = v² + u·w for a w; `Joined`, what relates pairs
-- (u1, v1), (u2, v2) and the composed (u3, v3), with their d, s1, s2, s3 and cofactors; the composed pair lies on the curve
-- (`joined_on`); any s1, s2, s3 give the same v modulo u3 (`any_triple`); a pair and its opposite compose to 1; a homomorphism keeps it.
-- Open: `OnCurve`.
use mathlib.Core.Path.{◌≡◌, refl, ap, ◌∙◌}
use mathlib.Core.List.{List, [], ◌∷◌}
use Rattle.algebra.proofs.Ring.CRing.{CRing, IsHom}
use Rattle.algebra.proofs.Ring.Quote.{ring, quote, by}

module _ (R : CRing) where
  open R use {El as A, add as ◌+◌, mul as ◌*◌, neg, zer as 𝟘, one as 𝟙}

  infixl 65 ◌+◌
  infixl 70 ◌*◌
  infixl 65 ◌-◌
  abbrev ◌-◌ : A → A → A
  a - b = a + neg b

  -- (u, v) lies on the curve: u divides f - v²
  abbrev pub OnCurve : A → A → A → Type 0
  OnCurve f u v = (w : A) × (f ≡ v * v + u * w)

  -- (u3, v3) is composed of (u1, v1) and (u2, v2), by d = s1 u1 + s2 u2 + s3 (v1 + v2)
  pub record Joined (f u1 v1 u2 v2 u3 v3 : A) : Type 0 where
    pub w1 : A
    pub w2 : A
    pub d : A
    pub e1 : A
    pub e2 : A
    pub e3 : A
    pub s1 : A
    pub s2 : A
    pub s3 : A
    pub h_f1 : f ≡ v1 * v1 + u1 * w1
    pub h_f2 : f ≡ v2 * v2 + u2 * w2
    pub h_u1 : u1 ≡ d * e1
    pub h_u2 : u2 ≡ d * e2
    pub h_v : v1 + v2 ≡ d * e3
    pub h_w : v2 * e3 + e2 * w2 ≡ v1 * e3 + e1 * w1
    pub h_one : s1 * e1 + s2 * e2 + s3 * e3 ≡ 𝟙
    pub h_u3 : u3 ≡ e1 * e2
    pub h_v3 : v3 ≡ s1 * e1 * v2 + s2 * e2 * v1 + s3 * (v2 * e3 + e2 * w2)

  -- the composed v, by e1, by e2 and by e3
  module _ (v1 v2 w1 w2 e1 e2 e3 s1 s2 s3 v3 : A) (h_w : v2 * e3 + e2 * w2 ≡ v1 * e3 + e1 * w1) (h_one : s1 * e1 + s2 * e2 + s3 * e3 ≡ 𝟙)
      (h_v3 : v3 ≡ s1 * e1 * v2 + s2 * e2 * v1 + s3 * (v2 * e3 + e2 * w2)) where
    ρ : List A
    ρ = v1 ∷ v2 ∷ w1 ∷ w2 ∷ e1 ∷ e2 ∷ e3 ∷ s1 ∷ s2 ∷ s3 ∷ v3 ∷ []

    by_e1 : v3 ≡ v1 + e1 * (s1 * (v2 - v1) + s3 * w1)
    unfolding ρ
    by_e1 = by R 𝟙 h_v3 (by R s3 h_w (by R v1 h_one (ring R ρ (search quote depth 40) refl)))

    by_e2 : v3 ≡ v2 + e2 * (s2 * (v1 - v2) + s3 * w2)
    unfolding ρ
    by_e2 = by R 𝟙 h_v3 (by R v2 h_one (ring R ρ (search quote depth 40) refl))

    by_e3 : v2 * e3 + e2 * w2 ≡ e3 * v3 + e1 * e2 * (s1 * w2 + s2 * w1)
    unfolding ρ
    by_e3 = by R (neg e3) h_v3 (by R (neg (v2 * e3 + e2 * w2)) h_one (by R (s2 * e2) h_w (ring R ρ (search quote depth 40) refl)))

  pub joined_on : (f u1 v1 u2 v2 u3 v3 : A) → Joined f u1 v1 u2 v2 u3 v3 → OnCurve f u3 v3
  joined_on f u1 v1 u2 v2 u3 v3 H = (
    H.d * (H.s1 * H.w2 + H.s2 * H.w1) - (H.s1 * (v2 - v1) + H.s3 * H.w1) * (H.s2 * (v1 - v2) + H.s3 * H.w2),
    by R 𝟙 H.h_f2 (by R H.w2 H.h_u2 (by R (v2 - v3) H.h_v
        (by R H.d (by_e3 v1 v2 H.w1 H.w2 H.e1 H.e2 H.e3 H.s1 H.s2 H.s3 v3 H.h_w H.h_one H.h_v3)
        (by R (neg (v3 - v2)) (by_e1 v1 v2 H.w1 H.w2 H.e1 H.e2 H.e3 H.s1 H.s2 H.s3 v3 H.h_w H.h_one H.h_v3)
        (by R (neg (H.e1 * (H.s1 * (v2 - v1) + H.s3 * H.w1))) (by_e2 v1 v2 H.w1 H.w2 H.e1 H.e2 H.e3 H.s1 H.s2 H.s3 v3 H.h_w H.h_one H.h_v3)
        (by R ((H.s1 * (v2 - v1) + H.s3 * H.w1) * (H.s2 * (v1 - v2) + H.s3 * H.w2) - H.d * (H.s1 * H.w2 + H.s2 * H.w1)) H.h_u3
        (ring R (f ∷ u2 ∷ v1 ∷ v2 ∷ u3 ∷ v3 ∷ H.w1 ∷ H.w2 ∷ H.d ∷ H.e1 ∷ H.e2 ∷ H.e3 ∷ H.s1 ∷ H.s2 ∷ H.s3 ∷ []) (search quote depth 40) refl))))))),
  )

  -- any s1, s2, s3 give the same v mod e1 e2
  pub any_triple : (v1 v2 w1 w2 e1 e2 e3 s1 s2 s3 v3 t1 t2 t3 v4 : A) → v2 * e3 + e2 * w2 ≡ v1 * e3 + e1 * w1
      → s1 * e1 + s2 * e2 + s3 * e3 ≡ 𝟙 → v3 ≡ s1 * e1 * v2 + s2 * e2 * v1 + s3 * (v2 * e3 + e2 * w2)
      → t1 * e1 + t2 * e2 + t3 * e3 ≡ 𝟙 → v4 ≡ t1 * e1 * v2 + t2 * e2 * v1 + t3 * (v2 * e3 + e2 * w2)
      → (k : A) × (v4 ≡ v3 + k * (e1 * e2))
  any_triple v1 v2 w1 w2 e1 e2 e3 s1 s2 s3 v3 t1 t2 t3 v4 h_w hs h3 ht h4 = (
    s1 * (b2 - a2) + s2 * (b1 - a1) + s3 * (a3 - b3),
    by R (neg (v4 - v3)) hs
        (by R (s1 * e1) (by_e2 v1 v2 w1 w2 e1 e2 e3 t1 t2 t3 v4 h_w ht h4) (by R (neg (s1 * e1)) (by_e2 v1 v2 w1 w2 e1 e2 e3 s1 s2 s3 v3 h_w hs h3)
        (by R (s2 * e2) (by_e1 v1 v2 w1 w2 e1 e2 e3 t1 t2 t3 v4 h_w ht h4) (by R (neg (s2 * e2)) (by_e1 v1 v2 w1 w2 e1 e2 e3 s1 s2 s3 v3 h_w hs h3)
        (by R (neg s3) (by_e3 v1 v2 w1 w2 e1 e2 e3 t1 t2 t3 v4 h_w ht h4) (by R s3 (by_e3 v1 v2 w1 w2 e1 e2 e3 s1 s2 s3 v3 h_w hs h3)
        (ring R (v1 ∷ v2 ∷ w1 ∷ w2 ∷ e1 ∷ e2 ∷ e3 ∷ s1 ∷ s2 ∷ s3 ∷ v3 ∷ t1 ∷ t2 ∷ t3 ∷ v4 ∷ []) (search quote depth 40) refl))))))),
  )
    where
      a1 : A
      a1 = s1 * (v2 - v1) + s3 * w1

      b1 : A
      b1 = t1 * (v2 - v1) + t3 * w1

      a2 : A
      a2 = s2 * (v1 - v2) + s3 * w2

      b2 : A
      b2 = t2 * (v1 - v2) + t3 * w2

      a3 : A
      a3 = s1 * w2 + s2 * w1

      b3 : A
      b3 = t1 * w2 + t2 * w1

  -- a pair and its opposite
  unfoldable pub joined_conj : (f u v w : A) → f ≡ v * v + u * w → Joined f u v u (neg v) 𝟙 (neg v)
  joined_conj f u v w h = record {
    w1 = w;
    w2 = w;
    d = u;
    e1 = 𝟙;
    e2 = 𝟙;
    e3 = 𝟘;
    s1 = 𝟙;
    s2 = 𝟘;
    s3 = 𝟘;
    h_f1 = h;
    h_f2 = h ∙ ring R (u ∷ v ∷ w ∷ []) (search quote depth 40) refl;
    h_u1 = ring R (u ∷ []) (search quote depth 40) refl;
    h_u2 = ring R (u ∷ []) (search quote depth 40) refl;
    h_v = ring R (u ∷ v ∷ []) (search quote depth 40) refl;
    h_w = ring R (v ∷ w ∷ []) (search quote depth 40) refl;
    h_one = ring R [] (search quote depth 40) refl;
    h_u3 = ring R [] (search quote depth 40) refl;
    h_v3 = ring R (v ∷ w ∷ []) (search quote depth 40) refl;
  }

-- along a homomorphism
module _ (R S : CRing) (φ : R.El → S.El) (h : IsHom R S φ) where
  open R use {El as A, add as ◌+◌, mul as ◌*◌}

  infixl 65 ◌+◌
  infixl 70 ◌*◌
  open S use {add as ◌⊕◌, mul as ◌⊗◌}

  infixl 65 ◌⊕◌
  infixl 70 ◌⊗◌
  pub on_map : {f u v w : A} → f ≡ v * v + u * w → φ f ≡ φ v ⊗ φ v ⊕ φ u ⊗ φ w
  on_map e = ap φ e ∙ simp (h.h_add, h.h_mul)

  unfoldable pub joined_map : {f u1 v1 u2 v2 u3 v3 : A} → Joined R f u1 v1 u2 v2 u3 v3 → Joined S (φ f) (φ u1) (φ v1) (φ u2) (φ v2) (φ u3) (φ v3)
  joined_map H = record {
    w1 = φ H.w1;
    w2 = φ H.w2;
    d = φ H.d;
    e1 = φ H.e1;
    e2 = φ H.e2;
    e3 = φ H.e3;
    s1 = φ H.s1;
    s2 = φ H.s2;
    s3 = φ H.s3;
    h_f1 = on_map H.h_f1;
    h_f2 = on_map H.h_f2;
    h_u1 = ap φ H.h_u1 ∙ h.h_mul H.d H.e1;
    h_u2 = ap φ H.h_u2 ∙ h.h_mul H.d H.e2;
    h_v = simp (← h.h_add, ← h.h_mul) (ap φ H.h_v);
    h_w = simp (← h.h_add, ← h.h_mul) (ap φ H.h_w);
    h_one = simp (← h.h_add, ← h.h_mul) (ap φ H.h_one ∙ h.h_one);
    h_u3 = ap φ H.h_u3 ∙ h.h_mul H.e1 H.e2;
    h_v3 = simp (← h.h_add, ← h.h_mul) (ap φ H.h_v3);
  }
