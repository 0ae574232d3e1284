-- L3, composition as an equation of ideals: ⟨u1, y - v1⟩·⟨u2, y - v2⟩ = d·⟨u3, y - v3⟩, in any commutative ring S with y² = f.
-- Each of the six identities is shown with its coefficients; square-freeness (`Smooth`) is used once, in `id_du`.
use mathlib.Core.Path.{◌≡◌, refl, sym, subst}
use mathlib.Core.List.{List, [], ◌∷◌}
use Rattle.algebra.proofs.Ring.CRing.{CRing}
use Rattle.algebra.proofs.Ring.Quote.{ring, quote, by}
use Rattle.algebra.proofs.Ideal.Ideal.{Sub, ◌⊆◌, Prod, prod_one, prod_add, prod_mul, Span, span_ideal, span_prod, Scaled, scaled_ideal}
use Rattle.algebra.proofs.Ideal.Smooth.{Smooth}
use Rattle.algebra.proofs.Ideal.Joined.{Joined}

module _ (S : CRing) where
  open S use {El as A, add as ◌+◌, mul as ◌*◌, neg, zer as 𝟘, one as 𝟙}

  infixl 65 ◌+◌
  infixl 70 ◌*◌
  infixl 65 ◌-◌
  abbrev ◌-◌ : A → A → A
  a - b = a + neg b

  -- use a hypothesis, times a factor
  infixr 10 ◌*:◌⨾◌
  ◌*:◌⨾◌ : {l r x y : A} (c : A) → l ≡ r → x + c * r ≡ y + c * l → x ≡ y
  c *: h ⨾ p = by S c h p

  module _ (y f u1 v1 u2 v2 u3 v3 : A) (hy : y * y ≡ f) (H : Joined S f u1 v1 u2 v2 u3 v3) (m : Smooth S u1 v1 H.w1) where
    abbrev w1 : A
    w1 = H.w1

    abbrev w2 : A
    w2 = H.w2

    abbrev d : A
    d = H.d

    abbrev e1 : A
    e1 = H.e1

    abbrev e2 : A
    e2 = H.e2

    abbrev e3 : A
    e3 = H.e3

    abbrev s1 : A
    s1 = H.s1

    abbrev s2 : A
    s2 = H.s2

    abbrev s3 : A
    s3 = H.s3

    abbrev α : A
    α = m.α

    abbrev β : A
    β = m.β

    abbrev γ : A
    γ = m.γ

    ρ : List A
    ρ = y ∷ f ∷ u1 ∷ v1 ∷ w1 ∷ u2 ∷ v2 ∷ w2 ∷ d ∷ e1 ∷ e2 ∷ e3 ∷ s1 ∷ s2 ∷ s3 ∷ α ∷ β ∷ γ ∷ u3 ∷ v3 ∷ []

    -- the four products, as multiples of d in ⟨u3, y - v3⟩
    id_uu : u1 * u2 ≡ d * (d * u3 + 𝟘 * (y - v3))
    unfolding ρ
    id_uu =
        u2 *: H.h_u1 ⨾
        d * e1 *: H.h_u2 ⨾
        neg (d * d) *: H.h_u3 ⨾
        ring S ρ (search quote depth 40) refl

    id_uy : u1 * (y - v2) ≡ d * ((s2 * (v1 - v2) + s3 * w2) * u3 + e1 * (y - v3))
    unfolding ρ
    id_uy =
        (y - v2) *: H.h_u1 ⨾
        d * e1 *: H.h_v3 ⨾
        neg (d * (s2 * (v1 - v2) + s3 * w2)) *: H.h_u3 ⨾
        d * e1 * v2 *: H.h_one ⨾
        ring S ρ (search quote depth 40) refl

    id_yu : (y - v1) * u2 ≡ d * ((s1 * (v2 - v1) + s3 * w1) * u3 + e2 * (y - v3))
    unfolding ρ
    id_yu =
        (y - v1) *: H.h_u2 ⨾
        d * e2 *: H.h_v3 ⨾
        neg (d * (s1 * (v2 - v1) + s3 * w1)) *: H.h_u3 ⨾
        d * e2 * s3 *: H.h_w ⨾
        d * e2 * v1 *: H.h_one ⨾
        ring S ρ (search quote depth 40) refl

    id_yy : (y - v1) * (y - v2) ≡ d * ((s1 * w2 + s2 * w1) * u3 + neg e3 * (y - v3))
    unfolding ρ
    id_yy =
        𝟙 *: hy ⨾
        (v2 - y) *: H.h_v ⨾
        𝟙 *: H.h_f2 ⨾
        w2 *: H.h_u2 ⨾
        neg (d * e3) *: H.h_v3 ⨾
        neg (d * (s1 * w2 + s2 * w1)) *: H.h_u3 ⨾
        neg (d * (v2 * e3 + e2 * w2)) *: H.h_one ⨾
        d * s2 * e2 *: H.h_w ⨾
        ring S ρ (search quote depth 40) refl

    -- and back
    id_dy : d * (y - v3) ≡ 𝟘 * (u1 * u2) + s1 * (u1 * (y - v2)) + s2 * ((y - v1) * u2) + neg s3 * ((y - v1) * (y - v2))
    unfolding ρ
    id_dy =
        neg d *: H.h_v3 ⨾
        neg (s1 * (y - v2)) *: H.h_u1 ⨾
        (s3 * w2 - s2 * (y - v1)) *: H.h_u2 ⨾
        s3 *: hy ⨾
        s3 * (v2 - y) *: H.h_v ⨾
        s3 *: H.h_f2 ⨾
        neg (d * y) *: H.h_one ⨾
        ring S ρ (search quote depth 40) refl

    id_du : d * u3 ≡ (α * e1 + β * e3) * (u1 * u2) + β * e2 * (u1 * (y - v2)) + (γ * e3 - β * e1) * ((y - v1) * u2) + γ * e2 * ((y - v1) * (y - v2))
    unfolding ρ
    id_du =
        d *: H.h_u3 ⨾
        neg (d * e1 * e2) *: m.is ⨾
        (d * e1 * e2 * α - (α * e1 + β * e3) * u2 - β * e2 * (y - v2) - γ * e2 * w1) *: H.h_u1 ⨾
        (neg ((α * e1 + β * e3) * (d * e1)) - (γ * e3 - β * e1) * (y - v1)) *: H.h_u2 ⨾
        (d * e1 * e2 * β + γ * e2 * (y - v1)) *: H.h_v ⨾
        neg (γ * e2) *: hy ⨾
        neg (γ * e2) *: H.h_f1 ⨾
        ring S ρ (search quote depth 40) refl

    I1 : Sub S
    I1 = Span S u1 (y - v1)

    I2 : Sub S
    I2 = Span S u2 (y - v2)

    I3 : Sub S
    I3 = Span S u3 (y - v3)

    scaled : (x a b : A) → x ≡ d * (a * u3 + b * (y - v3)) → Scaled S d I3 x
    unfolding I3
    scaled x a b h = record { part = a * u3 + b * (y - v3); inside = record { at_g = a; at_h = b; is = refl }; is = h }

    pub compose_in : ◌⊆◌ S (Prod S (Span S u1 (y - v1)) (Span S u2 (y - v2))) (Scaled S H.d (Span S u3 (y - v3)))
    unfolding I3
    compose_in = span_prod S (scaled_ideal S d (span_ideal S u3 (y - v3))) u1 (y - v1) u2 (y - v2)
        (scaled (u1 * u2) d 𝟘 id_uu)
        (scaled (u1 * (y - v2)) (s2 * (v1 - v2) + s3 * w2) e1 id_uy)
        (scaled ((y - v1) * u2) (s1 * (v2 - v1) + s3 * w1) e2 id_yu)
        (scaled ((y - v1) * (y - v2)) (s1 * w2 + s2 * w1) (neg e3) id_yy)

    J : Sub S
    unfolding I1 I2
    J = Prod S I1 I2

    -- any combination of the four products
    four : (a b c e : A) → J (a * (u1 * u2) + b * (u1 * (y - v2)) + c * ((y - v1) * u2) + e * ((y - v1) * (y - v2)))
    unfolding I1 I2 J
    four a b c e = add (add (add (mul a (one gu1 gu2)) (mul b (one gu1 gy2))) (mul c (one gy1 gu2))) (mul e (one gy1 gy2))
      where
        left : (g h : A) → Span S g h g
        left g h = record { at_g = 𝟙; at_h = 𝟘; is = ring S (g ∷ h ∷ []) (search quote depth 40) refl }

        right : (g h : A) → Span S g h h
        right g h = record { at_g = 𝟘; at_h = 𝟙; is = ring S (g ∷ h ∷ []) (search quote depth 40) refl }

        gu1 : I1 u1
        gu1 = left u1 (y - v1)

        gy1 : I1 (y - v1)
        gy1 = right u1 (y - v1)

        gu2 : I2 u2
        gu2 = left u2 (y - v2)

        gy2 : I2 (y - v2)
        gy2 = right u2 (y - v2)

        one : {p q : A} → I1 p → I2 q → J (p * q)
        one hp hq = prod_one S hp hq

        mul : (r : A) {x : A} → J x → J (r * x)
        mul r hx = prod_mul S (span_ideal S u1 (y - v1)) r hx

        add : {x z : A} → J x → J z → J (x + z)
        add hx hz = prod_add S hx hz

    d_u3 : J (d * u3)
    d_u3 = subst J (sym id_du) (four (α * e1 + β * e3) (β * e2) (γ * e3 - β * e1) (γ * e2))

    d_y : J (d * (y - v3))
    d_y = subst J (sym id_dy) (four 𝟘 s1 s2 (neg s3))

    pub compose_out : ◌⊆◌ S (Scaled S H.d (Span S u3 (y - v3))) (Prod S (Span S u1 (y - v1)) (Span S u2 (y - v2)))
    unfolding I1 I2 J
    compose_out x p = subst J (sym (by S 𝟙 p.is (by S d p.inside.is
        (ring S (x ∷ d ∷ p.part ∷ p.inside.at_g ∷ p.inside.at_h ∷ u3 ∷ (y - v3) ∷ []) (search quote depth 40) refl))))
        (prod_add S (prod_mul S (span_ideal S u1 (y - v1)) p.inside.at_g d_u3) (prod_mul S (span_ideal S u1 (y - v1)) p.inside.at_h d_y))
